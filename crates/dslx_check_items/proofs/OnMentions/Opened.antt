-- What the walk does at a part, by what stands at its top.
use Rattle.std.proofs.Common.{◌≡◌, ◌++◌, ◌∷◌, [], ℕ, List, length, map, Option, Some, None, refl, sym, ap, ◌∙◌}
use Rattle.std.specs.Prelude.{flat_map, if◌then◌else◌}
use Rattle.std.specs.Option.{option_map}
use Rattle.std.proofs.lemmas.Simd.{map-map}
use Rattle.dslx_tree.specs.declared.block.Block.{Block, out-Block}
use Rattle.dslx_tree.specs.declared.block.Let.{Let, out-Let}
use Rattle.dslx_tree.specs.declared.block.Stmt.{Stmt, out-Stmt}
use Rattle.dslx_tree.specs.declared.block.Stmt.TheFolds.{fold_out-Stmt, fold_out-Node, fold_out-Shape, fold_out-TypeNode, fold_out-Block, fold_out-Let, fold_out-Arg, fold_out-Arm, fold_out-Expr, fold_out-FieldValue, fold_out-For, fold_out-Number, fold_out-Pattern, fold_out-TypeExpr}
use Rattle.dslx_tree.specs.declared.block.Stmt.TheOpen.{Stmt-F, Node-F, Shape-F, TypeNode-F}
use Rattle.dslx_tree.specs.declared.expr.Arg.{Arg, out-Arg}
use Rattle.dslx_tree.specs.declared.expr.Arm.{Arm, out-Arm}
use Rattle.dslx_tree.specs.declared.expr.Expr.{Expr, out-Expr}
use Rattle.dslx_tree.specs.declared.expr.FieldValue.{FieldValue, out-FieldValue}
use Rattle.dslx_tree.specs.declared.expr.For.{For, out-For}
use Rattle.dslx_tree.specs.declared.expr.Number.{Number, out-Number}
use Rattle.dslx_tree.specs.declared.pattern.Pattern.{Pattern, out-Pattern}
use Rattle.dslx_tree.specs.declared.type_expr.TypeExpr.{TypeExpr, out-TypeExpr}
use Rattle.dslx_tree.proofs.Lemmas.Folds.Levels.{Carriers, Maps, BlockLevel, FieldValueLevel, LetLevel, ForLevel, NumberLevel, trees, map_stmt, map_node, map_shape, map_type_node, map_block, map_bind, map_field, map_loop, map_number}
use Rattle.dslx_tree.proofs.Lemmas.Folds.Folds.{Steps, folds, fold_bind}
use Rattle.dslx_meaning.specs.Activation.{NodeLayer, StmtLayer, node_of}
use Rattle.dslx_meaning.specs.Callees.{is_text_function, kind_of_call}
use Rattle.dslx_meaning.specs.Rules.Mentions as k
use Rattle.dslx_meaning.specs.Rules.Mentions.{AsEnum, AsFunction, AsPattern, AsStruct, AsType, Mentions, NamesBound, all_mentions, binders_mentions, bound_behind, mention, mentioned, mentioned_in_arg, mentioned_in_block, mentioned_in_type, mentions_if, statements_mentions, value_mention}
use Rattle.dslx_meaning.specs.Names.ConstMachine.Layers.{PatternLayer, TypeLayer, shape_of, type_of}
use Rattle.dslx_check_items.specs.Inner.Walks.{MentionWalk, behind, binding, keeping, mentioning, mentioning_all, mentioning_if, running}
use Rattle.dslx_check_items.specs.Inner.Parts.{in_arm, in_field, in_loop, in_pattern, in_stmt, number_mentions, pattern_mentions, pattern_names, shape_names}
use Rattle.dslx_check_items.specs.Inner.Levels.{arm_walk, block_walk, bounds_walk, field_walk, let_walk, loop_walk, node_walk, shape_walk, stmt_walk, type_walk}
use Rattle.dslx_check_items.proofs.OnMentions.InTurn.{all_in_turn, around, bound_more, bound_none, called, if_in_turn, named, nothing, statements_in_turn, three, two, valued}

abbrev mentions : Carriers
mentions = record {
  stmt = NamesBound;
  node = Mentions;
  shape = NamesBound;
  type_node = Mentions;
  block = Mentions;
  bind = NamesBound;
  arg = Mentions;
  arm = Mentions;
  expr = Mentions;
  field = Mentions;
  loop = Mentions;
  number = Mentions;
  pattern = NamesBound;
  type_expr = Mentions;
}

abbrev mention_steps : Steps mentions
mention_steps = record {
  stmt = k.stmt_mentions;
  node = k.node_mentions;
  shape = k.shape_mentions;
  type_node = k.type_mentions;
  block = k.block_mentions;
  bind = k.let_mentions;
  arg = λ a. a.value;
  arm = k.arm_mentions;
  expr = λ e. e.node;
  field = k.field_mentions;
  loop = k.for_mentions;
  number = λ n. mentions_if n.ty;
  pattern = λ p. p.shape;
  type_expr = λ t. t.node;
}

abbrev each_mentions : Maps trees mentions
each_mentions = folds mentions mention_steps

-- what is mentioned in a part that may be missing
abbrev expr_if : Option Expr → Mentions
expr_if o = mentions_if (option_map mentioned o)

abbrev type_if : Option TypeExpr → Mentions
type_if o = mentions_if (option_map mentioned_in_type o)

-- the walk is the same by the same mentions
by_mentions : (m n : Mentions) (w : MentionWalk) → m ≡ n → mentioning m w ≡ mentioning n w
by_mentions m n w e = ap (λ (l : Mentions). mentioning l w) e

-- ---- numbers and types

number_layer : (x : NumberLevel trees) → mention_steps.number (map_number trees mentions each_mentions x) ≡ type_if x.ty
number_layer x = by x.ty
  where
    by : (o : Option TypeExpr) → mention_steps.number (map_number trees mentions each_mentions (record { ty = o; is_negative = x.is_negative; value = x.value })) ≡ type_if o
    by None = refl
    by (Some t) = refl

number_opened : (n : Number) → number_mentions n ≡ type_if (out-Number n).ty
number_opened n =
    fold_out-Number NamesBound Mentions NamesBound Mentions Mentions NamesBound Mentions Mentions Mentions Mentions Mentions Mentions NamesBound Mentions
    k.stmt_mentions k.node_mentions k.shape_mentions k.type_mentions k.block_mentions k.let_mentions (λ a. a.value) k.arm_mentions (λ e. e.node) k.field_mentions k.for_mentions (λ n. mentions_if n.ty) (λ p. p.shape) (λ t. t.node) n
    ∙ number_layer (out-Number n)

pub number_by_type : (n : Number) (w : MentionWalk) → mentioning (number_mentions n) w ≡ mentioning_if (option_map mentioned_in_type (out-Number n).ty) w
number_by_type n w = by_mentions (number_mentions n) (type_if (out-Number n).ty) w (number_opened n) ∙ sym (if_in_turn (option_map mentioned_in_type (out-Number n).ty) w)

abbrev type_mentioned : TypeLayer → Mentions
type_mentioned x = k.type_mentions (map_type_node trees mentions each_mentions x)

type_opened : (t : TypeExpr) → mentioned_in_type t ≡ type_mentioned (type_of t)
type_opened t =
    fold_out-TypeExpr NamesBound Mentions NamesBound Mentions Mentions NamesBound Mentions Mentions Mentions Mentions Mentions Mentions NamesBound Mentions
    k.stmt_mentions k.node_mentions k.shape_mentions k.type_mentions k.block_mentions k.let_mentions (λ a. a.value) k.arm_mentions (λ e. e.node) k.field_mentions k.for_mentions (λ n. mentions_if n.ty) (λ p. p.shape) (λ t. t.node) t
    ∙ fold_out-TypeNode NamesBound Mentions NamesBound Mentions Mentions NamesBound Mentions Mentions Mentions Mentions Mentions Mentions NamesBound Mentions
    k.stmt_mentions k.node_mentions k.shape_mentions k.type_mentions k.block_mentions k.let_mentions (λ a. a.value) k.arm_mentions (λ e. e.node) k.field_mentions k.for_mentions (λ n. mentions_if n.ty) (λ p. p.shape) (λ t. t.node) (out-TypeExpr t).node

type_in_turn : (x : TypeLayer) (w : MentionWalk) → type_walk x w ≡ mentioning (type_mentioned x) w
type_in_turn (TypeNode-F.Bits s width) w = nothing w
type_in_turn (TypeNode-F.Wide s e) w = refl
type_in_turn TypeNode-F.TypeNode::Bool w = nothing w
type_in_turn (TypeNode-F.TypeNode::Name name) w = named AsType name w
type_in_turn (TypeNode-F.TypeNode::Tuple ts) w = all_in_turn (map mentioned_in_type ts) w
type_in_turn (TypeNode-F.TypeNode::Array t e) w = two (mentioned_in_type t) (mentioned e) w

pub type_by_node : (t : TypeExpr) (w : MentionWalk) → mentioning (mentioned_in_type t) w ≡ type_walk (type_of t) w
type_by_node t w = by_mentions (mentioned_in_type t) (type_mentioned (type_of t)) w (type_opened t) ∙ sym (type_in_turn (type_of t) w)

-- ---- patterns

abbrev in_shape : PatternLayer → NamesBound
in_shape x = k.shape_mentions (map_shape trees mentions each_mentions x)

pattern_opened : (p : Pattern) → in_pattern p ≡ in_shape (shape_of p)
pattern_opened p =
    fold_out-Pattern NamesBound Mentions NamesBound Mentions Mentions NamesBound Mentions Mentions Mentions Mentions Mentions Mentions NamesBound Mentions
    k.stmt_mentions k.node_mentions k.shape_mentions k.type_mentions k.block_mentions k.let_mentions (λ a. a.value) k.arm_mentions (λ e. e.node) k.field_mentions k.for_mentions (λ n. mentions_if n.ty) (λ p. p.shape) (λ t. t.node) p
    ∙ fold_out-Shape NamesBound Mentions NamesBound Mentions Mentions NamesBound Mentions Mentions Mentions Mentions Mentions Mentions NamesBound Mentions
    k.stmt_mentions k.node_mentions k.shape_mentions k.type_mentions k.block_mentions k.let_mentions (λ a. a.value) k.arm_mentions (λ e. e.node) k.field_mentions k.for_mentions (λ n. mentions_if n.ty) (λ p. p.shape) (λ t. t.node) (out-Pattern p).shape

each_pattern : (ps : List Pattern) → map (λ (b : NamesBound). b.mentions) (map in_pattern ps) ≡ map pattern_mentions ps
each_pattern ps = map-map (λ (b : NamesBound). b.mentions) in_pattern ps

patterns_in_turn : (ps : List Pattern) (w : MentionWalk) → mentioning_all (map pattern_mentions ps) w ≡ mentioning (binders_mentions (map in_pattern ps)) w
patterns_in_turn ps w = ap (λ (ms : List Mentions). mentioning_all ms w) (sym (each_pattern ps)) ∙ all_in_turn (map (λ (b : NamesBound). b.mentions) (map in_pattern ps)) w

shape_in_turn : (x : PatternLayer) (w : MentionWalk) → shape_walk x w ≡ mentioning (in_shape x).mentions w
shape_in_turn Shape-F.Wild w = nothing w
shape_in_turn (Shape-F.Shape::Bool b) w = nothing w
shape_in_turn (Shape-F.Shape::Number n) w = refl
shape_in_turn (Shape-F.Shape::Name name) w = named AsPattern name w
shape_in_turn (Shape-F.Shape::Member e a) w = named AsEnum e.name w
shape_in_turn (Shape-F.Shape::Tuple ps) w = patterns_in_turn ps w

pub pattern_by_shape : (p : Pattern) (w : MentionWalk) → mentioning (pattern_mentions p) w ≡ shape_walk (shape_of p) w
pattern_by_shape p w = ap (λ (b : NamesBound). mentioning b.mentions w) (pattern_opened p) ∙ sym (shape_in_turn (shape_of p) w)

flat_names : (ps : List Pattern) → flat_map (λ (b : NamesBound). b.names) (map in_pattern ps) ≡ flat_map pattern_names ps
flat_names [] = refl
flat_names (p ∷ ps) = ap (λ (names : List (List ℕ)). pattern_names p ++ names) (flat_names ps)

names_in_shape : (x : PatternLayer) → (in_shape x).names ≡ shape_names x
names_in_shape Shape-F.Wild = refl
names_in_shape (Shape-F.Shape::Bool b) = refl
names_in_shape (Shape-F.Shape::Number n) = refl
names_in_shape (Shape-F.Shape::Name name) = refl
names_in_shape (Shape-F.Shape::Member e a) = refl
names_in_shape (Shape-F.Shape::Tuple ps) = flat_names ps

pub names_by_shape : (p : Pattern) → pattern_names p ≡ shape_names (shape_of p)
names_by_shape p = ap (λ (b : NamesBound). b.names) (pattern_opened p) ∙ names_in_shape (shape_of p)

-- ---- arguments and fields

arg_opened : (a : Arg) → mentioned_in_arg a ≡ mentioned (out-Arg a).value
arg_opened a =
    fold_out-Arg NamesBound Mentions NamesBound Mentions Mentions NamesBound Mentions Mentions Mentions Mentions Mentions Mentions NamesBound Mentions
    k.stmt_mentions k.node_mentions k.shape_mentions k.type_mentions k.block_mentions k.let_mentions (λ a. a.value) k.arm_mentions (λ e. e.node) k.field_mentions k.for_mentions (λ n. mentions_if n.ty) (λ p. p.shape) (λ t. t.node) a

pub arg_by_value : (a : Arg) (w : MentionWalk) → mentioning (mentioned_in_arg a) w ≡ mentioning (mentioned (out-Arg a).value) w
arg_by_value a w = by_mentions (mentioned_in_arg a) (mentioned (out-Arg a).value) w (arg_opened a)

-- a field that is given by its name alone mentions that
abbrev field_mentioned : List ℕ → Option Expr → Mentions
field_mentioned name None = value_mention name
field_mentioned name (Some e) = mentioned e

field_layer : (x : FieldValueLevel trees) → k.field_mentions (map_field trees mentions each_mentions x) ≡ field_mentioned x.name.name x.value
field_layer x = by x.value
  where
    by : (o : Option Expr) → k.field_mentions (map_field trees mentions each_mentions (record { name = x.name; value = o })) ≡ field_mentioned x.name.name o
    by None = refl
    by (Some e) = refl

field_opened : (f : FieldValue) → in_field f ≡ field_mentioned (out-FieldValue f).name.name (out-FieldValue f).value
field_opened f =
    fold_out-FieldValue NamesBound Mentions NamesBound Mentions Mentions NamesBound Mentions Mentions Mentions Mentions Mentions Mentions NamesBound Mentions
    k.stmt_mentions k.node_mentions k.shape_mentions k.type_mentions k.block_mentions k.let_mentions (λ a. a.value) k.arm_mentions (λ e. e.node) k.field_mentions k.for_mentions (λ n. mentions_if n.ty) (λ p. p.shape) (λ t. t.node) f
    ∙ field_layer (out-FieldValue f)

field_in_turn : (name : List ℕ) (o : Option Expr) (w : MentionWalk) → field_walk name o w ≡ mentioning (field_mentioned name o) w
field_in_turn name None w = valued name w
field_in_turn name (Some e) w = refl

pub field_by_value : (f : FieldValue) (w : MentionWalk) → mentioning (in_field f) w ≡ field_walk (out-FieldValue f).name.name (out-FieldValue f).value w
field_by_value f w =
    by_mentions (in_field f) (field_mentioned (out-FieldValue f).name.name (out-FieldValue f).value) w (field_opened f)
    ∙ sym (field_in_turn (out-FieldValue f).name.name (out-FieldValue f).value w)

-- ---- expressions

abbrev node_mentioned : NodeLayer → Mentions
node_mentioned x = k.node_mentions (map_node trees mentions each_mentions x)

expr_opened : (e : Expr) → mentioned e ≡ node_mentioned (node_of e)
expr_opened e =
    fold_out-Expr NamesBound Mentions NamesBound Mentions Mentions NamesBound Mentions Mentions Mentions Mentions Mentions Mentions NamesBound Mentions
    k.stmt_mentions k.node_mentions k.shape_mentions k.type_mentions k.block_mentions k.let_mentions (λ a. a.value) k.arm_mentions (λ e. e.node) k.field_mentions k.for_mentions (λ n. mentions_if n.ty) (λ p. p.shape) (λ t. t.node) e
    ∙ fold_out-Node NamesBound Mentions NamesBound Mentions Mentions NamesBound Mentions Mentions Mentions Mentions Mentions Mentions NamesBound Mentions
    k.stmt_mentions k.node_mentions k.shape_mentions k.type_mentions k.block_mentions k.let_mentions (λ a. a.value) k.arm_mentions (λ e. e.node) k.field_mentions k.for_mentions (λ n. mentions_if n.ty) (λ p. p.shape) (λ t. t.node) (out-Expr e).node

-- two lists of parts behind one part
lists_in_turn : (m : Mentions) (ms ns : List Mentions) (w : MentionWalk)
    → mentioning_all ns (mentioning_all ms (mentioning m w)) ≡ mentioning (λ bound. m bound ++ all_mentions ms bound ++ all_mentions ns bound) w
lists_in_turn m ms ns w =
    all_in_turn ns (mentioning_all ms (mentioning m w)) ∙ ap (mentioning (all_mentions ns)) (all_in_turn ms (mentioning m w)) ∙ three m (all_mentions ms) (all_mentions ns) w

struct_in_turn : (m : Mentions) (ms : List Mentions) (o : Option Expr) (w : MentionWalk)
    → mentioning_if (option_map mentioned o) (mentioning_all ms (mentioning m w)) ≡ mentioning (λ bound. m bound ++ all_mentions ms bound ++ expr_if o bound) w
struct_in_turn m ms o w =
    if_in_turn (option_map mentioned o) (mentioning_all ms (mentioning m w)) ∙ ap (mentioning (expr_if o)) (all_in_turn ms (mentioning m w)) ∙ three m (all_mentions ms) (expr_if o) w

node_in_turn : (x : NodeLayer) (w : MentionWalk) → node_walk x w ≡ mentioning (node_mentioned x) w
node_in_turn (Node-F.Node::Number n) w = refl
node_in_turn (Node-F.Node::Bool b) w = nothing w
node_in_turn (Node-F.Node::Array None es dots) w = all_in_turn (map mentioned es) w
node_in_turn (Node-F.Node::Array (Some t) es dots) w = all_in_turn (map mentioned es) (mentioning (mentioned_in_type t) w) ∙ two (mentioned_in_type t) (all_mentions (map mentioned es)) w
node_in_turn (Node-F.Node::Name name) w = valued name w
node_in_turn (Node-F.Node::Member e a) w = named AsEnum e.name w
node_in_turn (Node-F.Call f parametric_args es) w =
    ap (λ (v : MentionWalk). mentioning_all (map mentioned es) (mentioning_all (map mentioned_in_arg parametric_args) v)) (called f.name w)
    ∙ lists_in_turn (λ bound. if is_text_function (kind_of_call f.name) then mention AsFunction f.name else []) (map mentioned_in_arg parametric_args) (map mentioned es) w
node_in_turn (Node-F.Node::Tuple es) w = all_in_turn (map mentioned es) w
node_in_turn (Node-F.Struct s fields None) w =
    ap (λ (v : MentionWalk). mentioning_all (map in_field fields) v) (named AsStruct s.name w) ∙ struct_in_turn (λ bound. mention AsStruct s.name) (map in_field fields) None w
node_in_turn (Node-F.Struct s fields (Some others)) w =
    ap (λ (v : MentionWalk). mentioning (mentioned others) (mentioning_all (map in_field fields) v)) (named AsStruct s.name w)
    ∙ struct_in_turn (λ bound. mention AsStruct s.name) (map in_field fields) (Some others) w
node_in_turn (Node-F.Block b) w = refl
node_in_turn (Node-F.If c a b) w = three (mentioned c) (mentioned_in_block a) (mentioned b) w
node_in_turn (Node-F.Match e arms) w = all_in_turn (map in_arm arms) (mentioning (mentioned e) w) ∙ two (mentioned e) (all_mentions (map in_arm arms)) w
node_in_turn (Node-F.For f) w = refl
node_in_turn (Node-F.Index e i) w = two (mentioned e) (mentioned i) w
node_in_turn (Node-F.Slice e a b) w = three (mentioned e) (mentioned a) (mentioned b) w
node_in_turn (Node-F.Part e i t) w = three (mentioned e) (mentioned i) (mentioned_in_type t) w
node_in_turn (Node-F.Field e name) w = refl
node_in_turn (Node-F.Element e span n) w = refl
node_in_turn (Node-F.Prefix o e) w = refl
node_in_turn (Node-F.Cast e t) w = two (mentioned e) (mentioned_in_type t) w
node_in_turn (Node-F.Binary o l r) w = two (mentioned l) (mentioned r) w

pub expr_by_node : (e : Expr) (w : MentionWalk) → mentioning (mentioned e) w ≡ node_walk (node_of e) w
expr_by_node e w = by_mentions (mentioned e) (node_mentioned (node_of e)) w (expr_opened e) ∙ sym (node_in_turn (node_of e) w)

-- ---- statements and blocks

abbrev in_bind : Let → NamesBound
in_bind = fold_bind mentions mention_steps

abbrev in_bind_by : LetLevel trees → NamesBound
in_bind_by l = record { mentions = λ bound. type_if l.ty bound ++ mentioned l.value bound ++ (in_pattern l.pattern).mentions bound; names = (in_pattern l.pattern).names }

bind_layer : (x : LetLevel trees) → k.let_mentions (map_bind trees mentions each_mentions x) ≡ in_bind_by x
bind_layer x = by x.ty
  where
    by : (o : Option TypeExpr) → k.let_mentions (map_bind trees mentions each_mentions (record { span = x.span; pattern = x.pattern; ty = o; value = x.value }))
        ≡ in_bind_by (record { span = x.span; pattern = x.pattern; ty = o; value = x.value })
    by None = refl
    by (Some t) = refl

bind_opened : (l : Let) → in_bind l ≡ in_bind_by (out-Let l)
bind_opened l =
    fold_out-Let NamesBound Mentions NamesBound Mentions Mentions NamesBound Mentions Mentions Mentions Mentions Mentions Mentions NamesBound Mentions
    k.stmt_mentions k.node_mentions k.shape_mentions k.type_mentions k.block_mentions k.let_mentions (λ a. a.value) k.arm_mentions (λ e. e.node) k.field_mentions k.for_mentions (λ n. mentions_if n.ty) (λ p. p.shape) (λ t. t.node) l
    ∙ bind_layer (out-Let l)

let_in_turn : (l : Let) (w : MentionWalk) → behind (in_bind l) w ≡ let_walk l w
let_in_turn l w =
    ap (λ (n : NamesBound). behind n w) (bind_opened l)
    ∙ ap (binding (pattern_names (out-Let l).pattern))
    (sym (ap (λ (v : MentionWalk). mentioning (pattern_mentions (out-Let l).pattern) (mentioning (mentioned (out-Let l).value) v)) (if_in_turn (option_map mentioned_in_type (out-Let l).ty) w)
    ∙ three (type_if (out-Let l).ty) (mentioned (out-Let l).value) (pattern_mentions (out-Let l).pattern) w))

abbrev in_stmt_layer : StmtLayer → NamesBound
in_stmt_layer x = k.stmt_mentions (map_stmt trees mentions each_mentions x)

stmt_opened : (s : Stmt) → in_stmt s ≡ in_stmt_layer (out-Stmt s)
stmt_opened s =
    fold_out-Stmt NamesBound Mentions NamesBound Mentions Mentions NamesBound Mentions Mentions Mentions Mentions Mentions Mentions NamesBound Mentions
    k.stmt_mentions k.node_mentions k.shape_mentions k.type_mentions k.block_mentions k.let_mentions (λ a. a.value) k.arm_mentions (λ e. e.node) k.field_mentions k.for_mentions (λ n. mentions_if n.ty) (λ p. p.shape) (λ t. t.node) s

stmt_in_turn : (x : StmtLayer) (w : MentionWalk) → behind (in_stmt_layer x) w ≡ stmt_walk x w
stmt_in_turn (Stmt-F.Let l) w = let_in_turn l w
stmt_in_turn (Stmt-F.Bare e) w = bound_none (mentioning (mentioned e) w)

pub stmt_by_parts : (s : Stmt) (w : MentionWalk) → behind (in_stmt s) w ≡ stmt_walk (out-Stmt s) w
stmt_by_parts s w = ap (λ (n : NamesBound). behind n w) (stmt_opened s) ∙ stmt_in_turn (out-Stmt s) w

block_layer : (x : BlockLevel trees) → k.block_mentions (map_block trees mentions each_mentions x) ≡ statements_mentions (map in_stmt x.statements) (expr_if x.value)
block_layer x = by x.value
  where
    by : (o : Option Expr) → k.block_mentions (map_block trees mentions each_mentions (record { span = x.span; statements = x.statements; value = o })) ≡ statements_mentions (map in_stmt x.statements) (expr_if o)
    by None = refl
    by (Some e) = refl

block_opened : (b : Block) → mentioned_in_block b ≡ statements_mentions (map in_stmt (out-Block b).statements) (expr_if (out-Block b).value)
block_opened b =
    fold_out-Block NamesBound Mentions NamesBound Mentions Mentions NamesBound Mentions Mentions Mentions Mentions Mentions Mentions NamesBound Mentions
    k.stmt_mentions k.node_mentions k.shape_mentions k.type_mentions k.block_mentions k.let_mentions (λ a. a.value) k.arm_mentions (λ e. e.node) k.field_mentions k.for_mentions (λ n. mentions_if n.ty) (λ p. p.shape) (λ t. t.node) b
    ∙ block_layer (out-Block b)

pub block_by_parts : (b : Block) (w : MentionWalk) → mentioning (mentioned_in_block b) w ≡ block_walk b w
block_by_parts b w =
    by_mentions (mentioned_in_block b) (statements_mentions (map in_stmt (out-Block b).statements) (expr_if (out-Block b).value)) w (block_opened b)
    ∙ sym (ap (keeping (length w.bound)) (if_in_turn (option_map mentioned (out-Block b).value) (running (map in_stmt (out-Block b).statements) w))
    ∙ statements_in_turn (map in_stmt (out-Block b).statements) (expr_if (out-Block b).value) w)

-- ---- arms and loops

abbrev in_arm_by : List Pattern → Expr → Mentions
in_arm_by ps e bound = binders_mentions (map in_pattern ps) bound ++ mentioned e (bound_behind (map in_pattern ps) ++ bound)

arm_opened : (a : Arm) → in_arm a ≡ in_arm_by (out-Arm a).patterns (out-Arm a).value
arm_opened a =
    fold_out-Arm NamesBound Mentions NamesBound Mentions Mentions NamesBound Mentions Mentions Mentions Mentions Mentions Mentions NamesBound Mentions
    k.stmt_mentions k.node_mentions k.shape_mentions k.type_mentions k.block_mentions k.let_mentions (λ a. a.value) k.arm_mentions (λ e. e.node) k.field_mentions k.for_mentions (λ n. mentions_if n.ty) (λ p. p.shape) (λ t. t.node) a

pub arm_by_parts : (a : Arm) (w : MentionWalk) → mentioning (in_arm a) w ≡ arm_walk a w
arm_by_parts a w =
    by_mentions (in_arm a) (in_arm_by (out-Arm a).patterns (out-Arm a).value) w (arm_opened a)
    ∙ sym (ap (λ (v : MentionWalk). keeping (length w.bound) (mentioning (mentioned (out-Arm a).value) (binding (bound_behind (map in_pattern (out-Arm a).patterns)) v))) (patterns_in_turn (out-Arm a).patterns w)
    ∙ around (binders_mentions (map in_pattern (out-Arm a).patterns)) (mentioned (out-Arm a).value) (bound_behind (map in_pattern (out-Arm a).patterns)) w)

abbrev in_loop_by : ForLevel trees → Mentions
in_loop_by f bound =
    mentioned f.from bound ++ mentioned f.to bound ++ mentioned f.start bound ++ type_if f.ty bound ++ (in_pattern f.index).mentions bound ++ (in_pattern f.accumulator).mentions bound
    ++ mentioned_in_block f.body ((in_pattern f.accumulator).names ++ (in_pattern f.index).names ++ bound)

loop_layer : (x : ForLevel trees) → k.for_mentions (map_loop trees mentions each_mentions x) ≡ in_loop_by x
loop_layer x = by x.ty
  where
    by : (o : Option TypeExpr) → k.for_mentions (map_loop trees mentions each_mentions (record { index = x.index; accumulator = x.accumulator; ty = o; from = x.from; to = x.to; body = x.body; start = x.start }))
        ≡ in_loop_by (record { index = x.index; accumulator = x.accumulator; ty = o; from = x.from; to = x.to; body = x.body; start = x.start })
    by None = refl
    by (Some t) = refl

loop_opened : (f : For) → in_loop f ≡ in_loop_by (out-For f)
loop_opened f =
    fold_out-For NamesBound Mentions NamesBound Mentions Mentions NamesBound Mentions Mentions Mentions Mentions Mentions Mentions NamesBound Mentions
    k.stmt_mentions k.node_mentions k.shape_mentions k.type_mentions k.block_mentions k.let_mentions (λ a. a.value) k.arm_mentions (λ e. e.node) k.field_mentions k.for_mentions (λ n. mentions_if n.ty) (λ p. p.shape) (λ t. t.node) f
    ∙ loop_layer (out-For f)

-- six parts in order
six : (a b c : Mentions) (o : Option Mentions) (d e : Mentions) (w : MentionWalk)
    → mentioning e (mentioning d (mentioning_if o (mentioning c (mentioning b (mentioning a w))))) ≡ mentioning (λ bound. a bound ++ b bound ++ c bound ++ mentions_if o bound ++ d bound ++ e bound) w
six a b c o d e w =
    ap (λ (v : MentionWalk). mentioning e (mentioning d (mentioning_if o v))) (three a b c w)
    ∙ ap (λ (v : MentionWalk). mentioning e (mentioning d v)) (if_in_turn o (mentioning (λ bound. a bound ++ b bound ++ c bound) w) ∙ two (λ bound. a bound ++ b bound ++ c bound) (mentions_if o) w)
    ∙ three (λ bound. a bound ++ b bound ++ c bound ++ mentions_if o bound) d e w

-- a part behind them that sees more names
behind_all : (before body : Mentions) (xs ys : List (List ℕ)) (w v : MentionWalk) → v ≡ mentioning before w
    → keeping (length w.bound) (mentioning body (binding xs (binding ys v))) ≡ mentioning (λ bound. before bound ++ body (xs ++ ys ++ bound)) w
behind_all before body xs ys w v e =
    ap (λ (u : MentionWalk). keeping (length w.bound) (mentioning body (binding xs (binding ys u)))) e
    ∙ ap (λ (u : MentionWalk). keeping (length w.bound) (mentioning body u)) (bound_more xs ys (mentioning before w))
    ∙ around before body (xs ++ ys) w

pub loop_by_parts : (f : For) (w : MentionWalk) → mentioning (in_loop f) w ≡ loop_walk f w
loop_by_parts f w =
    by_mentions (in_loop f) (in_loop_by (out-For f)) w (loop_opened f)
    ∙ sym (behind_all (λ bound. mentioned (out-For f).from bound ++ mentioned (out-For f).to bound ++ mentioned (out-For f).start bound ++ type_if (out-For f).ty bound
    ++ pattern_mentions (out-For f).index bound ++ pattern_mentions (out-For f).accumulator bound)
    (mentioned_in_block (out-For f).body) (pattern_names (out-For f).accumulator) (pattern_names (out-For f).index) w (bounds_walk f w)
    (six (mentioned (out-For f).from) (mentioned (out-For f).to) (mentioned (out-For f).start) (option_map mentioned_in_type (out-For f).ty) (pattern_mentions (out-For f).index)
    (pattern_mentions (out-For f).accumulator) w))
