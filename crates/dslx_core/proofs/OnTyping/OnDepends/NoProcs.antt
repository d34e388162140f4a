-- Expressions, blocks and types mention no proc.
use Rattle.std.proofs.Common.{◌++◌, ℕ, Bool, true, false, if◌then◌else◌, List, [], ◌∷◌, map, Option, Some, None}
use Rattle.dslx_tree.specs.declared.block.Block.{Block}
use Rattle.dslx_tree.specs.declared.block.Stmt.TheOpen.{Stmt-F, Node-F, Shape-F, TypeNode-F}
use Rattle.dslx_tree.specs.declared.expr.Arg.{Arg}
use Rattle.dslx_tree.specs.declared.expr.Expr.{Expr}
use Rattle.dslx_tree.specs.declared.type_expr.TypeExpr.{TypeExpr}
use Rattle.dslx_tree.proofs.Lemmas.Folds.Levels.{Carriers, StmtLevel, NodeLevel, ShapeLevel, TypeNodeLevel, BlockLevel, LetLevel, FieldValueLevel, ForLevel, NumberLevel, map_stmt, map_node, map_shape, map_type_node, map_block, map_bind, map_field, map_loop, map_number}
use Rattle.dslx_tree.proofs.Lemmas.Folds.Related.{Relations, both, firsts, KeepRelated, related_expr, related_arg, related_block, related_type_expr}
use Rattle.dslx_meaning.specs.Callees.{is_text_function, kind_of_call}
use Rattle.dslx_meaning.specs.Lists.{is_in}
use Rattle.dslx_meaning.specs.Rules.Mentions.{Use, AsValue, AsFunction, AsProc, AsStruct, Mention, Mentions, NamesBound, all_mentions, binders_mentions, bound_behind, mention, mentioned, mentioned_in_arg, mentioned_in_block, mentioned_in_type, mentions_if, statements_mentions, value_mention}
use Rattle.dslx_core.proofs.OnTyping.OnDepends.Links.{mentions, mention_steps}

abbrev pub IsNoProc : Use → Type 0
IsNoProc AsProc = ⊥
IsNoProc _ = Unit {0}

-- none of these is a proc's
abbrev pub NoProcs : List Mention → Type 0
NoProcs [] = Unit {0}
NoProcs (m ∷ ms) = IsNoProc m.use_as × NoProcs ms

pub no_procs_join : (xs ys : List Mention) → NoProcs xs → NoProcs ys → NoProcs (xs ++ ys)
no_procs_join [] ys h k = k
no_procs_join (x ∷ xs) ys h k = (h.0, no_procs_join xs ys h.1 k)

three_join : (xs ys zs : List Mention) → NoProcs xs → NoProcs ys → NoProcs zs → NoProcs ((xs ++ ys) ++ zs)
three_join xs ys zs h k l = no_procs_join (xs ++ ys) zs (no_procs_join xs ys h k) l

abbrev Holds : Mentions → Type 0
Holds ms = (bound : List (List ℕ)) → NoProcs (ms bound)

abbrev holding : Relations mentions mentions
holding = record {
  stmt = λ n x. Holds n.mentions;
  node = λ ms x. Holds ms;
  shape = λ n x. Holds n.mentions;
  type_node = λ ms x. Holds ms;
  block = λ ms x. Holds ms;
  bind = λ n x. Holds n.mentions;
  arg = λ ms x. Holds ms;
  arm = λ ms x. Holds ms;
  expr = λ ms x. Holds ms;
  field = λ ms x. Holds ms;
  loop = λ ms x. Holds ms;
  number = λ ms x. Holds ms;
  pattern = λ n x. Holds n.mentions;
  type_expr = λ ms x. Holds ms;
}

abbrev Parts : Carriers
Parts = both mentions mentions holding

abbrev MentionsPart : Type 0
MentionsPart = (ms : Mentions) × (x : Mentions) × Holds ms

abbrev NamesPart : Type 0
NamesPart = (n : NamesBound) × (x : NamesBound) × Holds n.mentions

each_holds : (ps : List MentionsPart) → Holds (all_mentions (map (λ (p : MentionsPart). p.0) ps))
each_holds [] bound = tt
each_holds (p ∷ ps) bound = no_procs_join (p.0 bound) (all_mentions (map (λ (q : MentionsPart). q.0) ps) bound) (p.2 bound) (each_holds ps bound)

binders_hold : (ps : List NamesPart) → Holds (binders_mentions (map (λ (p : NamesPart). p.0) ps))
binders_hold [] bound = tt
binders_hold (p ∷ ps) bound = no_procs_join (p.0.mentions bound) (binders_mentions (map (λ (q : NamesPart). q.0) ps) bound) (p.2 bound) (binders_hold ps bound)

value_holds : (name : List ℕ) → Holds (value_mention name)
value_holds name bound = by_in (is_in name bound)
  where
    by_in : (b : Bool) → NoProcs (if b then [] else mention AsValue name)
    by_in true = tt
    by_in false = (tt, tt)

function_holds : (name : List ℕ) (b : Bool) → NoProcs (if b then mention AsFunction name else [])
function_holds name true = (tt, tt)
function_holds name false = tt

node_holds : (x : NodeLevel Parts) → Holds (mention_steps.node (map_node Parts mentions (firsts mentions mentions holding) x))
node_holds (Node-F.Node::Number n) bound = n.2 bound
node_holds (Node-F.Node::Bool b) bound = tt
node_holds (Node-F.Node::Array None es dots) bound = each_holds es bound
node_holds (Node-F.Node::Array (Some t) es dots) bound = no_procs_join (t.0 bound) (all_mentions (map (λ (p : MentionsPart). p.0) es) bound) (t.2 bound) (each_holds es bound)
node_holds (Node-F.Node::Name name) bound = value_holds name bound
node_holds (Node-F.Node::Member e a) bound = (tt, tt)
node_holds (Node-F.Call f parametric_args es) bound =
    three_join (if is_text_function (kind_of_call f.name) then mention AsFunction f.name else []) (all_mentions (map (λ (p : MentionsPart). p.0) parametric_args) bound) (all_mentions (map (λ (p : MentionsPart). p.0) es) bound)
    (function_holds f.name (is_text_function (kind_of_call f.name))) (each_holds parametric_args bound) (each_holds es bound)
node_holds (Node-F.Node::Tuple es) bound = each_holds es bound
node_holds (Node-F.Struct s fields None) bound = three_join (mention AsStruct s.name) (all_mentions (map (λ (p : MentionsPart). p.0) fields) bound) [] (tt, tt) (each_holds fields bound) tt
node_holds (Node-F.Struct s fields (Some rest)) bound = three_join (mention AsStruct s.name) (all_mentions (map (λ (p : MentionsPart). p.0) fields) bound) (rest.0 bound) (tt, tt) (each_holds fields bound) (rest.2 bound)
node_holds (Node-F.Block b) bound = b.2 bound
node_holds (Node-F.If c a b) bound = three_join (c.0 bound) (a.0 bound) (b.0 bound) (c.2 bound) (a.2 bound) (b.2 bound)
node_holds (Node-F.Match e arms) bound = no_procs_join (e.0 bound) (all_mentions (map (λ (p : MentionsPart). p.0) arms) bound) (e.2 bound) (each_holds arms bound)
node_holds (Node-F.For f) bound = f.2 bound
node_holds (Node-F.Index e k) bound = no_procs_join (e.0 bound) (k.0 bound) (e.2 bound) (k.2 bound)
node_holds (Node-F.Slice e a b) bound = three_join (e.0 bound) (a.0 bound) (b.0 bound) (e.2 bound) (a.2 bound) (b.2 bound)
node_holds (Node-F.Part e k t) bound = three_join (e.0 bound) (k.0 bound) (t.0 bound) (e.2 bound) (k.2 bound) (t.2 bound)
node_holds (Node-F.Field e name) bound = e.2 bound
node_holds (Node-F.Element e place k) bound = e.2 bound
node_holds (Node-F.Prefix o e) bound = e.2 bound
node_holds (Node-F.Cast e t) bound = no_procs_join (e.0 bound) (t.0 bound) (e.2 bound) (t.2 bound)
node_holds (Node-F.Binary o l r) bound = no_procs_join (l.0 bound) (r.0 bound) (l.2 bound) (r.2 bound)

type_holds : (x : TypeNodeLevel Parts) → Holds (mention_steps.type_node (map_type_node Parts mentions (firsts mentions mentions holding) x))
type_holds (TypeNode-F.Bits s w) bound = tt
type_holds (TypeNode-F.Wide s e) bound = e.2 bound
type_holds TypeNode-F.TypeNode::Bool bound = tt
type_holds (TypeNode-F.TypeNode::Name name) bound = (tt, tt)
type_holds (TypeNode-F.TypeNode::Tuple ts) bound = each_holds ts bound
type_holds (TypeNode-F.TypeNode::Array t e) bound = no_procs_join (t.0 bound) (e.0 bound) (t.2 bound) (e.2 bound)

shape_holds : (x : ShapeLevel Parts) → Holds (mention_steps.shape (map_shape Parts mentions (firsts mentions mentions holding) x)).mentions
shape_holds Shape-F.Wild bound = tt
shape_holds (Shape-F.Shape::Bool b) bound = tt
shape_holds (Shape-F.Shape::Number n) bound = n.2 bound
shape_holds (Shape-F.Shape::Name name) bound = (tt, tt)
shape_holds (Shape-F.Shape::Member e a) bound = (tt, tt)
shape_holds (Shape-F.Shape::Tuple ps) bound = binders_hold ps bound

bind_holds : (x : LetLevel Parts) → Holds (mention_steps.bind (map_bind Parts mentions (firsts mentions mentions holding) x)).mentions
bind_holds x = by_type x.ty
  where
    by_type : (o : Option MentionsPart) → Holds (mention_steps.bind (map_bind Parts mentions (firsts mentions mentions holding) (record { span = x.span; pattern = x.pattern; ty = o; value = x.value }))).mentions
    by_type None bound = no_procs_join (x.value.0 bound) (x.pattern.0.mentions bound) (x.value.2 bound) (x.pattern.2 bound)
    by_type (Some t) bound = three_join (t.0 bound) (x.value.0 bound) (x.pattern.0.mentions bound) (t.2 bound) (x.value.2 bound) (x.pattern.2 bound)

stmt_holds : (x : StmtLevel Parts) → Holds (mention_steps.stmt (map_stmt Parts mentions (firsts mentions mentions holding) x)).mentions
stmt_holds (Stmt-F.Let l) bound = l.2 bound
stmt_holds (Stmt-F.Bare e) bound = e.2 bound

statements_hold : (ss : List NamesPart) (last : Mentions) → Holds last → Holds (statements_mentions (map (λ (s : NamesPart). s.0) ss) last)
statements_hold [] last h bound = h bound
statements_hold (s ∷ ss) last h bound =
    no_procs_join (s.0.mentions bound) (statements_mentions (map (λ (q : NamesPart). q.0) ss) last (s.0.names ++ bound)) (s.2 bound) (statements_hold ss last h (s.0.names ++ bound))

block_holds : (x : BlockLevel Parts) → Holds (mention_steps.block (map_block Parts mentions (firsts mentions mentions holding) x))
block_holds x = by_value x.value
  where
    by_value : (o : Option MentionsPart) → Holds (mention_steps.block (map_block Parts mentions (firsts mentions mentions holding) (record { span = x.span; statements = x.statements; value = o })))
    by_value None bound = statements_hold x.statements (mentions_if None) (λ bound. tt) bound
    by_value (Some e) bound = statements_hold x.statements (mentions_if (Some e.0)) e.2 bound

loop_holds : (x : ForLevel Parts) → Holds (mention_steps.loop (map_loop Parts mentions (firsts mentions mentions holding) x))
loop_holds x = by_type x.ty
  where
    whole : (bound : List (List ℕ)) (typed : List Mention) → NoProcs typed
        → NoProcs ((((((x.from.0 bound ++ x.to.0 bound) ++ x.start.0 bound) ++ typed) ++ x.index.0.mentions bound) ++ x.accumulator.0.mentions bound) ++ x.body.0 ((x.accumulator.0.names ++ x.index.0.names) ++ bound))
    whole bound typed h =
        let three = three_join (x.from.0 bound) (x.to.0 bound) (x.start.0 bound) (x.from.2 bound) (x.to.2 bound) (x.start.2 bound) in
        let four = no_procs_join ((x.from.0 bound ++ x.to.0 bound) ++ x.start.0 bound) typed three h in
        three_join ((((x.from.0 bound ++ x.to.0 bound) ++ x.start.0 bound) ++ typed) ++ x.index.0.mentions bound) (x.accumulator.0.mentions bound) (x.body.0 ((x.accumulator.0.names ++ x.index.0.names) ++ bound))
        (no_procs_join (((x.from.0 bound ++ x.to.0 bound) ++ x.start.0 bound) ++ typed) (x.index.0.mentions bound) four (x.index.2 bound)) (x.accumulator.2 bound)
        (x.body.2 ((x.accumulator.0.names ++ x.index.0.names) ++ bound))

    by_type : (o : Option MentionsPart)
        → Holds (mention_steps.loop (map_loop Parts mentions (firsts mentions mentions holding) (record { index = x.index; accumulator = x.accumulator; ty = o; from = x.from; to = x.to; body = x.body; start = x.start })))
    by_type None bound = whole bound [] tt
    by_type (Some t) bound = whole bound (t.0 bound) (t.2 bound)

number_holds : (x : NumberLevel Parts) → Holds (mention_steps.number (map_number Parts mentions (firsts mentions mentions holding) x))
number_holds x = by_type x.ty
  where
    by_type : (o : Option MentionsPart) → Holds (mention_steps.number (map_number Parts mentions (firsts mentions mentions holding) (record { ty = o; is_negative = x.is_negative; value = x.value })))
    by_type None bound = tt
    by_type (Some t) bound = t.2 bound

field_holds : (x : FieldValueLevel Parts) → Holds (mention_steps.field (map_field Parts mentions (firsts mentions mentions holding) x))
field_holds x = by_value x.value
  where
    by_value : (o : Option MentionsPart) → Holds (mention_steps.field (map_field Parts mentions (firsts mentions mentions holding) (record { name = x.name; value = o })))
    by_value None bound = value_holds x.name.name bound
    by_value (Some e) bound = e.2 bound

all_hold : KeepRelated mentions mentions holding mention_steps mention_steps
all_hold = record {
  stmt = stmt_holds;
  node = node_holds;
  shape = shape_holds;
  type_node = type_holds;
  block = block_holds;
  bind = bind_holds;
  arg = λ x. x.value.2;
  arm = λ x bound.
      let names = bound_behind (map (λ (p : NamesPart). p.0) x.patterns) ++ bound in
      no_procs_join (binders_mentions (map (λ (p : NamesPart). p.0) x.patterns) bound) (x.value.0 names) (binders_hold x.patterns bound) (x.value.2 names);
  expr = λ x. x.node.2;
  field = field_holds;
  loop = loop_holds;
  number = number_holds;
  pattern = λ x. x.shape.2;
  type_expr = λ x. x.node.2;
}

pub no_proc_in_expression : (e : Expr) (bound : List (List ℕ)) → NoProcs (mentioned e bound)
no_proc_in_expression = related_expr mentions mentions holding mention_steps mention_steps all_hold

pub no_proc_in_block : (b : Block) (bound : List (List ℕ)) → NoProcs (mentioned_in_block b bound)
no_proc_in_block = related_block mentions mentions holding mention_steps mention_steps all_hold

pub no_proc_in_type : (t : TypeExpr) (bound : List (List ℕ)) → NoProcs (mentioned_in_type t bound)
no_proc_in_type = related_type_expr mentions mentions holding mention_steps mention_steps all_hold

pub no_proc_in_arg : (a : Arg) (bound : List (List ℕ)) → NoProcs (mentioned_in_arg a bound)
no_proc_in_arg = related_arg mentions mentions holding mention_steps mention_steps all_hold
