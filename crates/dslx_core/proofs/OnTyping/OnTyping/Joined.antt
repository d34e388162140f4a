-- The induction on all sorts of parts of a tree: what each part reaches is of functions that it mentions.
use Rattle.std.proofs.Common.{◌&&◌, ◌++◌, ℕ, Bool, true, false, if◌then◌else◌, List, [], ◌∷◌, map, length, Option, Some, None, refl, sym, subst}
use Rattle.xb_span.specs.declared.span.Span.{Span}
use Rattle.dslx_tree.specs.declared.block.Block.{Block}
use Rattle.dslx_tree.specs.declared.block.Let.{Let}
use Rattle.dslx_tree.specs.declared.block.Stmt.{Stmt}
use Rattle.dslx_tree.specs.declared.block.Stmt.TheOpen.{Stmt-F, Node-F, Shape-F, TypeNode-F}
use Rattle.dslx_tree.specs.declared.expr.Arg.{Arg}
use Rattle.dslx_tree.specs.declared.expr.Arm.{Arm}
use Rattle.dslx_tree.specs.declared.expr.Expr.{Expr}
use Rattle.dslx_tree.specs.declared.expr.FieldValue.{FieldValue}
use Rattle.dslx_tree.specs.declared.expr.For.{For}
use Rattle.dslx_tree.specs.declared.expr.Node.{Node}
use Rattle.dslx_tree.specs.declared.expr.Number.{Number}
use Rattle.dslx_tree.specs.declared.ident.Ident.{Ident}
use Rattle.dslx_tree.specs.declared.item.Struct.{Struct}
use Rattle.dslx_tree.specs.declared.pattern.Pattern.{Pattern}
use Rattle.dslx_tree.specs.declared.pattern.Shape.{Shape}
use Rattle.dslx_tree.specs.declared.type_expr.TypeExpr.{TypeExpr}
use Rattle.dslx_tree.specs.declared.type_expr.TypeNode.{TypeNode}
use Rattle.dslx_tree.proofs.Lemmas.Folds.Levels.{Carriers, StmtLevel, NodeLevel, ShapeLevel, TypeNodeLevel, BlockLevel, LetLevel, ArmLevel, FieldValueLevel, ForLevel, NumberLevel, map_stmt, map_node, map_shape, map_type_node, map_block, map_bind, map_arm, map_field, map_loop, map_number}
use Rattle.dslx_tree.proofs.Lemmas.Folds.Folds.{Steps}
use Rattle.dslx_tree.proofs.Lemmas.Folds.Related.{Relations, both, firsts, seconds, KeepRelated, related_expr, related_block, related_type_expr, related_arg}
use Rattle.dslx_meaning.specs.Callees.{CallKind, Calls, kind_of_call, is_text_function}
use Rattle.dslx_meaning.specs.Items.{as_struct, item_named}
use Rattle.dslx_meaning.specs.declared.ty.DslxType.{DslxType}
use Rattle.dslx_meaning.specs.Rules.AggregateRules.{array_in, element_alone, element_in, element_type, field_typing, others_typing, struct_if, struct_typing}
use Rattle.dslx_meaning.specs.Rules.CallRules.{call_typing}
use Rattle.dslx_meaning.specs.Rules.EffectNames.{is_effect}
use Rattle.dslx_meaning.specs.Rules.NameRules.{name_typing}
use Rattle.dslx_meaning.specs.Rules.ConstantRules.{constant_of, constant_or_untyped, count_of}
use Rattle.dslx_meaning.specs.Rules.ControlRules.{alternatives_seen, arm_typing, arms_reached, block_alone, bound_type, last_typing, same_ends, statements_typing, one_alternative}
use Rattle.dslx_meaning.specs.Rules.TypeEnvs.{ExprPair, Instance, Judgement, ExprTyping, TypeEnv, Typed, alone, no_token, reached_of_all, span_of, with_typed, within}
use Rattle.dslx_meaning.specs.Rules.Typings.{ArmSeen, FieldSeen, PatternTyping, PatternSeen, TypeExprTyping, StatementTyping, typing_sorts}
use Rattle.dslx_meaning.specs.Rules.Mentions as k
use Rattle.dslx_meaning.specs.Rules.Mentions.{AsFunction, AsStruct, AsType, Mention, Mentions, NamesBound, all_mentions, binders_mentions, bound_behind, is_of_use, mention, mentions_if, statements_mentions}
use Rattle.dslx_meaning.specs.Rules.NodeRules.{arg_pair, block_pair, expr_pair, typing_steps, second_of, type_pair}
use Rattle.dslx_meaning.specs.Rules.Paired.{with_stmt, with_node, with_shape, with_type_node, with_block, with_bind, with_arg, with_arm, with_expr, with_field, with_loop, with_number, with_pattern, with_type_expr}
use Rattle.dslx_meaning.specs.Rules.PatternRules.{first_part_type, name_pattern, other_part_types, part_types, parts_typing, pattern_alone}
use Rattle.dslx_meaning.specs.Rules.TypeRules.{inner_type, inner_types, named_type}
use Rattle.dslx_core.specs.Typing.TypingRelations.Reached.{AllNamed, MentionsReach}
use Rattle.dslx_meaning.specs.Lists.{and_then}
use Rattle.dslx_core.proofs.OnTyping.OnTyping.OfCalls.{CalleeReaches, EachReaches, IfCalls, call_reaches}
use Rattle.dslx_core.proofs.OnTyping.OnTyping.Parts.{ArmReaches, FieldReaches, PatternReaches, Reaches, StatementReaches, TypeReaches, constant_reaches, element_reaches, join, join_three, member_reaches, name_reaches, taken_reaches, parts, three_parts, unmarked}

-- ---- the two folds

-- trees with what the rules say of them
abbrev pub typing : Carriers
typing = record {
  stmt = Stmt × StatementTyping;
  node = Node × (Span → ExprTyping);
  shape = Shape × (Span → PatternTyping);
  type_node = TypeNode × (Span → TypeExprTyping);
  block = Block × ExprTyping;
  bind = Let × StatementTyping;
  arg = Arg × ExprPair;
  arm = Arm × ArmSeen;
  expr = Expr × ExprTyping;
  field = FieldValue × FieldSeen;
  loop = For × (Span → TypeExprTyping);
  number = Number × (Span → TypeExprTyping);
  pattern = Pattern × PatternTyping;
  type_expr = TypeExpr × TypeExprTyping;
}

abbrev pub expr_typing : Steps typing
expr_typing = record {
  stmt = with_stmt typing_sorts typing_steps;
  node = with_node typing_sorts typing_steps;
  shape = with_shape typing_sorts typing_steps;
  type_node = with_type_node typing_sorts typing_steps;
  block = with_block typing_sorts typing_steps;
  bind = with_bind typing_sorts typing_steps;
  arg = with_arg typing_sorts typing_steps;
  arm = with_arm typing_sorts typing_steps;
  expr = with_expr typing_sorts typing_steps;
  field = with_field typing_sorts typing_steps;
  loop = with_loop typing_sorts typing_steps;
  number = with_number typing_sorts typing_steps;
  pattern = with_pattern typing_sorts typing_steps;
  type_expr = with_type_expr typing_sorts typing_steps;
}

abbrev pub mentions : Carriers
mentions = record {
  stmt = NamesBound;
  node = Mentions;
  shape = NamesBound;
  type_node = Mentions;
  block = Mentions;
  bind = NamesBound;
  arg = Mentions;
  arm = Mentions;
  expr = Mentions;
  field = Mentions;
  loop = Mentions;
  number = Mentions;
  pattern = NamesBound;
  type_expr = Mentions;
}

abbrev pub mention_steps : Steps mentions
mention_steps = record {
  stmt = k.stmt_mentions;
  node = k.node_mentions;
  shape = k.shape_mentions;
  type_node = k.type_mentions;
  block = k.block_mentions;
  bind = k.let_mentions;
  arg = λ a. a.value;
  arm = k.arm_mentions;
  expr = λ e. e.node;
  field = k.field_mentions;
  loop = k.for_mentions;
  number = λ n. mentions_if n.ty;
  pattern = λ p. p.shape;
  type_expr = λ t. t.node;
}

-- what is to hold of each sort
abbrev pub reaching : (List ℕ → Bool) → Relations typing mentions
reaching P = record {
  stmt = λ p n. StatementReaches P p.1 n;
  node = λ p ms. (span : Span) → Reaches P (p.1 span) ms;
  shape = λ p n. (span : Span) → PatternReaches P (p.1 span) n;
  type_node = λ p ms. (span : Span) → TypeReaches P (p.1 span) ms;
  block = λ p ms. Reaches P p.1 ms;
  bind = λ p n. StatementReaches P p.1 n;
  arg = λ p ms. Reaches P p.1.1 ms;
  arm = λ p ms. ArmReaches P p.1 ms;
  expr = λ p ms. Reaches P p.1 ms;
  field = λ p ms. FieldReaches P p.1 ms;
  loop = λ p ms. (span : Span) → TypeReaches P (p.1 span) ms;
  number = λ p ms. (span : Span) → TypeReaches P (p.1 span) ms;
  pattern = λ p n. PatternReaches P p.1 n;
  type_expr = λ p ms. TypeReaches P p.1 ms;
}

abbrev Parts : (List ℕ → Bool) → Carriers
Parts P = both typing mentions (reaching P)

abbrev ExprPart : (List ℕ → Bool) → Type 0
ExprPart P = (p : Expr × ExprTyping) × (ms : Mentions) × Reaches P p.1 ms

abbrev ArgPart : (List ℕ → Bool) → Type 0
ArgPart P = (p : Arg × ExprPair) × (ms : Mentions) × Reaches P p.1.1 ms

abbrev FieldPart : (List ℕ → Bool) → Type 0
FieldPart P = (p : FieldValue × FieldSeen) × (ms : Mentions) × FieldReaches P p.1 ms

abbrev ArmPart : (List ℕ → Bool) → Type 0
ArmPart P = (p : Arm × ArmSeen) × (ms : Mentions) × ArmReaches P p.1 ms

abbrev PatternPart : (List ℕ → Bool) → Type 0
PatternPart P = (p : Pattern × PatternTyping) × (n : NamesBound) × PatternReaches P p.1 n

abbrev TypePart : (List ℕ → Bool) → Type 0
TypePart P = (p : TypeExpr × TypeExprTyping) × (ms : Mentions) × TypeReaches P p.1 ms

abbrev StmtPart : (List ℕ → Bool) → Type 0
StmtPart P = (p : Stmt × StatementTyping) × (n : NamesBound) × StatementReaches P p.1 n

abbrev typing_node : (P : List ℕ → Bool) → NodeLevel (Parts P) → Span → ExprTyping
typing_node P x = (expr_typing.node (map_node (Parts P) typing (firsts typing mentions (reaching P)) x)).1

abbrev mentioned_node : (P : List ℕ → Bool) → NodeLevel (Parts P) → Mentions
mentioned_node P x = mention_steps.node (map_node (Parts P) mentions (seconds typing mentions (reaching P)) x)

-- ---- lists of parts

exprs_reach : (P : List ℕ → Bool) (bound : List (List ℕ)) (context : TypeEnv) (ps : List (ExprPart P)) → MentionsReach P context.known context.owner (all_mentions (map (λ (p : ExprPart P). p.1) ps) bound) → EachReaches P context (map (λ (p : ExprPart P). p.0) ps)
exprs_reach P bound context [] h = tt
exprs_reach P bound context (p ∷ ps) h =
    let r = parts P context.known context.owner (p.1 bound) (all_mentions (map (λ (q : ExprPart P). q.1) ps) bound) h in
    (p.2 bound false context r.0, exprs_reach P bound context ps r.1)

args_reach : (P : List ℕ → Bool) (bound : List (List ℕ)) (context : TypeEnv) (ps : List (ArgPart P)) → MentionsReach P context.known context.owner (all_mentions (map (λ (p : ArgPart P). p.1) ps) bound)
    → EachReaches P context (map (λ (a : Arg × ExprPair). a.1) (map (λ (p : ArgPart P). p.0) ps))
args_reach P bound context [] h = tt
args_reach P bound context (p ∷ ps) h =
    let r = parts P context.known context.owner (p.1 bound) (all_mentions (map (λ (q : ArgPart P). q.1) ps) bound) h in
    (p.2 bound false context r.0, args_reach P bound context ps r.1)

elements_alone : (P : List ℕ → Bool) (context : TypeEnv) (es : List ExprPair) → EachReaches P context es → AllNamed P (reached_of_all (map (element_alone context) es))
elements_alone P context [] h = tt
elements_alone P context (e ∷ es) h = join P (element_alone context e).reached (reached_of_all (map (element_alone context) es)) (unmarked P (span_of e) (within context e) h.0) (elements_alone P context es h.1)

elements_in : (P : List ℕ → Bool) (context : TypeEnv) (wanted : Option DslxType) (es : List ExprPair) → EachReaches P context es → AllNamed P (reached_of_all (map (element_in context wanted) es))
elements_in P context wanted [] h = tt
elements_in P context wanted (e ∷ es) h =
    join P (element_in context wanted e).reached (reached_of_all (map (element_in context wanted) es)) (element_reaches P context wanted e (unmarked P (span_of e) (within context e) h.0)) (elements_in P context wanted es h.1)

types_reach : (P : List ℕ → Bool) (bound : List (List ℕ)) (context : TypeEnv) (ps : List (TypePart P)) → MentionsReach P context.known context.owner (all_mentions (map (λ (p : TypePart P). p.1) ps) bound)
    → AllNamed P (reached_of_all (inner_types context (map (λ (p : TypePart P). p.0) ps)))
types_reach P bound context [] h = tt
types_reach P bound context (p ∷ ps) h =
    let r = parts P context.known context.owner (p.1 bound) (all_mentions (map (λ (q : TypePart P). q.1) ps) bound) h in
    join P (inner_type context p.0).reached (reached_of_all (inner_types context (map (λ (q : TypePart P). q.0) ps))) (p.2 bound context r.0) (types_reach P bound context ps r.1)

fields_reach : (P : List ℕ → Bool) (bound : List (List ℕ)) (context : TypeEnv) (struct : Option DslxType) (ps : List (FieldPart P)) → MentionsReach P context.known context.owner (all_mentions (map (λ (p : FieldPart P). p.1) ps) bound)
    → AllNamed P (reached_of_all (map (field_typing context struct) (map second_of (map (λ (p : FieldPart P). p.0) ps))))
fields_reach P bound context struct [] h = tt
fields_reach P bound context struct (p ∷ ps) h =
    let r = parts P context.known context.owner (p.1 bound) (all_mentions (map (λ (q : FieldPart P). q.1) ps) bound) h in
    join P (field_typing context struct p.0.1).reached (reached_of_all (map (field_typing context struct) (map second_of (map (λ (q : FieldPart P). q.0) ps)))) (p.2 bound context struct r.0)
    (fields_reach P bound context struct ps r.1)

arms_reach : (P : List ℕ → Bool) (bound : List (List ℕ)) (context : TypeEnv) (t : Option DslxType) (ps : List (ArmPart P)) → MentionsReach P context.known context.owner (all_mentions (map (λ (p : ArmPart P). p.1) ps) bound)
    → AllNamed P (arms_reached (map (arm_typing context t) (map second_of (map (λ (p : ArmPart P). p.0) ps))))
arms_reach P bound context t [] h = tt
arms_reach P bound context t (p ∷ ps) h =
    let r = parts P context.known context.owner (p.1 bound) (all_mentions (map (λ (q : ArmPart P). q.1) ps) bound) h in
    let a = arm_typing context t p.0.1 in
    join P (a.seen.reached ++ a.value.reached) (arms_reached (map (arm_typing context t) (map second_of (map (λ (q : ArmPart P). q.0) ps)))) (p.2 bound context t r.0) (arms_reach P bound context t ps r.1)

alternatives_reach : (P : List ℕ → Bool) (bound : List (List ℕ)) (context : TypeEnv) (t : Option DslxType) (ps : List (PatternPart P)) → MentionsReach P context.known context.owner (binders_mentions (map (λ (p : PatternPart P). p.1) ps) bound)
    → AllNamed P (alternatives_seen context t (map (λ (p : PatternPart P). p.0) ps)).reached
alternatives_reach P bound context t [] h = tt
alternatives_reach P bound context t (p ∷ ps) h =
    let r = parts P context.known context.owner (p.1.mentions bound) (binders_mentions (map (λ (q : PatternPart P). q.1) ps) bound) h in
    let rest = alternatives_seen context t (map (λ (q : PatternPart P). q.0) ps) in
    join P (one_alternative context t p.0 rest).reached rest.reached (p.2 bound true context t [] rest.locals r.0) (alternatives_reach P bound context t ps r.1)

parts_reach : (P : List ℕ → Bool) (bound : List (List ℕ)) (may_fail : Bool) (context : TypeEnv) (ts : Option (List DslxType)) (names : List (List ℕ)) (locals : List Typed) (ps : List (PatternPart P))
    → MentionsReach P context.known context.owner (binders_mentions (map (λ (p : PatternPart P). p.1) ps) bound) → AllNamed P (parts_typing may_fail context (map (λ (p : PatternPart P). p.0) ps) ts names locals).reached
parts_reach P bound may_fail context ts names locals [] h = tt
parts_reach P bound may_fail context ts names locals (p ∷ ps) h =
    let r = parts P context.known context.owner (p.1.mentions bound) (binders_mentions (map (λ (q : PatternPart P). q.1) ps) bound) h in
    let first = p.0.1 may_fail context (first_part_type ts) names locals in
    join P first.reached (parts_typing may_fail context (map (λ (q : PatternPart P). q.0) ps) (other_part_types ts) first.names first.locals).reached (p.2 bound may_fail context (first_part_type ts) names locals r.0)
    (parts_reach P bound may_fail context (other_part_types ts) first.names first.locals ps r.1)

-- ---- expressions

-- what stands alone
alone_reaches : (P : List ℕ → Bool) (bound : List (List ℕ)) (context : TypeEnv) (e : ExprPart P) → MentionsReach P context.known context.owner (e.1 bound) → AllNamed P (alone context e.0).reached
alone_reaches P bound context e h = unmarked P (span_of e.0) (within context e.0) (e.2 bound false context h)

call_claim : (P : List ℕ → Bool) (kind : CallKind) (span : Span) (name : Ident) (parametric_args : List (ArgPart P)) (es : List (ExprPart P)) (bound : List (List ℕ)) (on_top : Bool) (context : TypeEnv)
    → MentionsReach P context.known context.owner (((if is_text_function kind then mention AsFunction name.name else []) ++ all_mentions (map (λ (p : ArgPart P). p.1) parametric_args) bound) ++ all_mentions (map (λ (p : ExprPart P). p.1) es) bound)
    → AllNamed P (call_typing kind span name (map (λ (p : ArgPart P). p.0) parametric_args) (map (λ (p : ExprPart P). p.0) es) on_top context).reached
call_claim P kind span name parametric_args es bound on_top context h =
    let own : List Mention = if is_text_function kind then mention AsFunction name.name else [] in
    let r = three_parts P context.known context.owner own (all_mentions (map (λ (p : ArgPart P). p.1) parametric_args) bound) (all_mentions (map (λ (p : ExprPart P). p.1) es) bound) h in
    call_reaches P kind span name (map (λ (p : ArgPart P). p.0) parametric_args) (map (λ (p : ExprPart P). p.0) es) on_top context (args_reach P bound context parametric_args r.1) (exprs_reach P bound context es r.2) (by_kind kind r.0)
  where
    by_kind : (kind : CallKind) → MentionsReach P context.known context.owner (if is_text_function kind then mention AsFunction name.name else [])
        → IfCalls kind (CalleeReaches P context name.name)
    by_kind Calls g = g.0
    by_kind _ g = tt

struct_claim : (P : List ℕ → Bool) (span : Span) (name : Ident) (fields : List (FieldPart P)) (rest : Option ExprPair) (ms : Mentions) → ((bound : List (List ℕ)) (context : TypeEnv) (struct : Option DslxType) → MentionsReach P context.known context.owner (ms bound) → AllNamed P (others_typing context struct rest).reached)
    → (bound : List (List ℕ)) (context : TypeEnv) → MentionsReach P context.known context.owner ((mention AsStruct name.name ++ all_mentions (map (λ (p : FieldPart P). p.1) fields) bound) ++ ms bound)
    → AllNamed P (struct_typing span context name (map second_of (map (λ (p : FieldPart P). p.0) fields)) rest).reached
struct_claim P span name fields rest ms others bound context h = by_struct (as_struct (item_named name.name context.known.whole.items))
  where
    r : MentionsReach P context.known context.owner (mention AsStruct name.name) × MentionsReach P context.known context.owner (all_mentions (map (λ (p : FieldPart P). p.1) fields) bound) × MentionsReach P context.known context.owner (ms bound)
    r = three_parts P context.known context.owner (mention AsStruct name.name) (all_mentions (map (λ (p : FieldPart P). p.1) fields) bound) (ms bound) h

    both_reach : (struct : Option DslxType) → AllNamed P (reached_of_all (map (field_typing context struct) (map second_of (map (λ (p : FieldPart P). p.0) fields))) ++ (others_typing context struct rest).reached)
    both_reach struct =
        join P (reached_of_all (map (field_typing context struct) (map second_of (map (λ (p : FieldPart P). p.0) fields)))) (others_typing context struct rest).reached (fields_reach P bound context struct fields r.1) (others bound context struct r.2)

    by_struct : (o : Option Struct) → AllNamed P (struct_if span context name (map second_of (map (λ (p : FieldPart P). p.0) fields)) rest o).reached
    by_struct None = both_reach None
    by_struct (Some declared) = both_reach (context.known.items.struct_named name.name)

node_reaches : (P : List ℕ → Bool) (x : NodeLevel (Parts P)) (span : Span) → Reaches P (typing_node P x span) (mentioned_node P x)
node_reaches P (Node-F.Node::Number n) span bound on_top context h = n.2 span bound context h
node_reaches P (Node-F.Node::Bool bit) span bound on_top context h = tt
node_reaches P (Node-F.Node::Array None es dots) span bound on_top context h = elements_alone P context (map (λ (p : ExprPart P). p.0) es) (exprs_reach P bound context es h)
node_reaches P (Node-F.Node::Array (Some t) es dots) span bound on_top context h =
    let r = parts P context.known context.owner (t.1 bound) (all_mentions (map (λ (p : ExprPart P). p.1) es) bound) h in
    let wanted = element_type (and_then (t.0.1 context).ty array_in) in
    join P (t.0.1 context).reached (reached_of_all (map (element_in context wanted) (map (λ (p : ExprPart P). p.0) es))) (t.2 bound context r.0) (elements_in P context wanted (map (λ (p : ExprPart P). p.0) es) (exprs_reach P bound context es r.1))
node_reaches P (Node-F.Node::Name name) span bound on_top context h = name_reaches P span context name
node_reaches P (Node-F.Node::Member e a) span bound on_top context h = member_reaches P context e a
node_reaches P (Node-F.Call f parametric_args es) span bound on_top context h = call_claim P (kind_of_call f.name) span f parametric_args es bound on_top context h
node_reaches P (Node-F.Node::Tuple es) span bound on_top context h = elements_alone P context (map (λ (p : ExprPart P). p.0) es) (exprs_reach P bound context es h)
node_reaches P (Node-F.Struct name fields None) span bound on_top context h = struct_claim P span name fields None (mentions_if None) (λ bound context struct h. tt) bound context h
node_reaches P (Node-F.Struct name fields (Some rest)) span bound on_top context h = struct_claim P span name fields (Some rest.0) (mentions_if (Some rest.1)) (λ bound context struct h. alone_reaches P bound context rest h) bound context h
node_reaches P (Node-F.Block b) span bound on_top context h = b.2 bound false context h
node_reaches P (Node-F.If c a b) span bound on_top context h =
    let r = three_parts P context.known context.owner (c.1 bound) (a.1 bound) (b.1 bound) h in
    join_three P (alone context c.0).reached (block_alone context a.0).reached (alone context b.0).reached (alone_reaches P bound context c r.0) (a.2 bound false context r.1) (alone_reaches P bound context b r.2)
node_reaches P (Node-F.Match e arms) span bound on_top context h =
    let r = parts P context.known context.owner (e.1 bound) (all_mentions (map (λ (p : ArmPart P). p.1) arms) bound) h in
    let value = alone context e.0 in
    join P value.reached (arms_reached (map (arm_typing context value.ty) (map second_of (map (λ (p : ArmPart P). p.0) arms)))) (alone_reaches P bound context e r.0) (arms_reach P bound context value.ty arms r.1)
node_reaches P (Node-F.For f) span bound on_top context h = f.2 span bound context h
node_reaches P (Node-F.Index e i) span bound on_top context h =
    let r = parts P context.known context.owner (e.1 bound) (i.1 bound) h in
    join P (alone context e.0).reached (alone context i.0).reached (alone_reaches P bound context e r.0) (alone_reaches P bound context i r.1)
node_reaches P (Node-F.Slice e a b) span bound on_top context h =
    let r = three_parts P context.known context.owner (e.1 bound) (a.1 bound) (b.1 bound) h in
    join_three P (alone context e.0).reached (constant_or_untyped context a.0).judgement.reached (constant_or_untyped context b.0).judgement.reached (alone_reaches P bound context e r.0)
    (constant_reaches P context a.0 (alone_reaches P bound context a r.1)) (constant_reaches P context b.0 (alone_reaches P bound context b r.2))
node_reaches P (Node-F.Part e i t) span bound on_top context h =
    let r = three_parts P context.known context.owner (e.1 bound) (i.1 bound) (t.1 bound) h in
    join_three P (alone context e.0).reached (alone context i.0).reached (t.0.1 context).reached (alone_reaches P bound context e r.0) (alone_reaches P bound context i r.1) (t.2 bound context r.2)
node_reaches P (Node-F.Field e name) span bound on_top context h = alone_reaches P bound context e h
node_reaches P (Node-F.Element e place k) span bound on_top context h = taken_reaches P k context e.0 (e.2 bound false context h)
node_reaches P (Node-F.Prefix o e) span bound on_top context h = alone_reaches P bound context e h
node_reaches P (Node-F.Cast e t) span bound on_top context h =
    let r = parts P context.known context.owner (e.1 bound) (t.1 bound) h in
    join P (alone context e.0).reached (t.0.1 context).reached (alone_reaches P bound context e r.0) (t.2 bound context r.1)
node_reaches P (Node-F.Binary o l r) span bound on_top context h =
    let q = parts P context.known context.owner (l.1 bound) (r.1 bound) h in
    join P (alone context l.0).reached (alone context r.0).reached (alone_reaches P bound context l q.0) (alone_reaches P bound context r q.1)

-- ---- types and patterns

named_reaches : (P : List ℕ → Bool) (span : Span) (context : TypeEnv) (name : List ℕ) (b : Bool) → AllNamed P (named_type span context name b).reached
named_reaches P span context name true = tt
named_reaches P span context name false = tt

type_reaches : (P : List ℕ → Bool) (x : TypeNodeLevel (Parts P)) (span : Span) → TypeReaches P ((expr_typing.type_node (map_type_node (Parts P) typing (firsts typing mentions (reaching P)) x)).1 span)
    (mention_steps.type_node (map_type_node (Parts P) mentions (seconds typing mentions (reaching P)) x))
type_reaches P (TypeNode-F.Bits signed width) span bound context h = tt
type_reaches P (TypeNode-F.Wide signed e) span bound context h = constant_reaches P context e.0 (alone_reaches P bound context e h)
type_reaches P TypeNode-F.TypeNode::Bool span bound context h = tt
type_reaches P (TypeNode-F.TypeNode::Name name) span bound context h = named_reaches P span context name (is_of_use AsType (item_named name context.known.whole.items))
type_reaches P (TypeNode-F.TypeNode::Tuple ts) span bound context h = types_reach P bound context ts h
type_reaches P (TypeNode-F.TypeNode::Array t e) span bound context h =
    let r = parts P context.known context.owner (t.1 bound) (e.1 bound) h in
    join P (inner_type context t.0).reached (count_of context e.0).judgement.reached (t.2 bound context r.0) (constant_reaches P context e.0 (alone_reaches P bound context e r.1))

name_pattern_reaches : (P : List ℕ → Bool) (span : Span) (may_fail : Bool) (context : TypeEnv) (t : Option DslxType) (names : List (List ℕ)) (locals : List Typed) (name : List ℕ) (b : Bool)
    → AllNamed P (name_pattern span may_fail context t names locals name b).reached
name_pattern_reaches P span may_fail context t names locals name true = tt
name_pattern_reaches P span may_fail context t names locals name false = tt

shape_reaches : (P : List ℕ → Bool) (x : ShapeLevel (Parts P)) (span : Span) → PatternReaches P ((expr_typing.shape (map_shape (Parts P) typing (firsts typing mentions (reaching P)) x)).1 span)
    (mention_steps.shape (map_shape (Parts P) mentions (seconds typing mentions (reaching P)) x))
shape_reaches P Shape-F.Wild span bound may_fail context t names locals h = tt
shape_reaches P (Shape-F.Shape::Bool bit) span bound may_fail context t names locals h = tt
shape_reaches P (Shape-F.Shape::Number n) span bound may_fail context t names locals h = n.2 span bound context h
shape_reaches P (Shape-F.Shape::Name name) span bound may_fail context t names locals h = name_pattern_reaches P span may_fail context t names locals name (context.known.items.is_constant name)
shape_reaches P (Shape-F.Shape::Member e a) span bound may_fail context t names locals h = member_reaches P context e a
shape_reaches P (Shape-F.Shape::Tuple ps) span bound may_fail context t names locals h = parts_reach P bound may_fail context (part_types (length (map (λ (p : PatternPart P). p.0) ps)) t) names locals ps h

arm_reaches : (P : List ℕ → Bool) (x : ArmLevel (Parts P)) → ArmReaches P (expr_typing.arm (map_arm (Parts P) typing (firsts typing mentions (reaching P)) x)).1
    (mention_steps.arm (map_arm (Parts P) mentions (seconds typing mentions (reaching P)) x))
arm_reaches P x bound context t h =
    let names = bound_behind (map (λ (p : PatternPart P). p.1) x.patterns) ++ bound in
    let r = parts P context.known context.owner (binders_mentions (map (λ (p : PatternPart P). p.1) x.patterns) bound) (x.value.1 names) h in
    let seen = alternatives_seen context t (map (λ (p : PatternPart P). p.0) x.patterns) in
    join P seen.reached (alone (with_typed context seen.locals) x.value.0).reached (alternatives_reach P bound context t x.patterns r.0) (alone_reaches P names (with_typed context seen.locals) x.value r.1)

-- ---- statements and blocks

bind_reaches : (P : List ℕ → Bool) (x : LetLevel (Parts P)) → StatementReaches P (expr_typing.bind (map_bind (Parts P) typing (firsts typing mentions (reaching P)) x)).1
    (mention_steps.bind (map_bind (Parts P) mentions (seconds typing mentions (reaching P)) x))
bind_reaches P x = by_type x.ty
  where
    by_type : (o : Option (TypePart P))
        → StatementReaches P (expr_typing.bind (map_bind (Parts P) typing (firsts typing mentions (reaching P)) (record { span = x.span; pattern = x.pattern; ty = o; value = x.value }))).1
        (mention_steps.bind (map_bind (Parts P) mentions (seconds typing mentions (reaching P)) (record { span = x.span; pattern = x.pattern; ty = o; value = x.value })))
    by_type None = record {
      known = λ on_top context. refl;
      owner = λ on_top context. refl;
      reached = λ bound on_top context h.
          let r = parts P context.known context.owner (x.value.1 bound) (x.pattern.1.mentions bound) h in
          let value = x.value.0.1 on_top context in
          let seen = pattern_alone false context value.ty x.pattern.0 in
          join_three P value.reached [] seen.reached (x.value.2 bound on_top context r.0) tt (x.pattern.2 bound false context value.ty [] context.locals r.1);
    }
    by_type (Some t) = record {
      known = λ on_top context. refl;
      owner = λ on_top context. refl;
      reached = λ bound on_top context h.
          let r = three_parts P context.known context.owner (t.1 bound) (x.value.1 bound) (x.pattern.1.mentions bound) h in
          let value = x.value.0.1 on_top context in
          let written = t.0.1 context in
          let wanted = bound_type (Some written) value.ty in
          let seen = pattern_alone false context wanted x.pattern.0 in
          join_three P value.reached written.reached seen.reached (x.value.2 bound on_top context r.1) (t.2 bound context r.0) (x.pattern.2 bound false context wanted [] context.locals r.2);
    }

bare_reaches : (P : List ℕ → Bool) (b : Bool) (span : Span) (j : Judgement) → AllNamed P j.reached → AllNamed P (if b then j else no_token span j).reached
bare_reaches P true span j h = h
bare_reaches P false span j h = unmarked P span j h

stmt_reaches : (P : List ℕ → Bool) (x : StmtLevel (Parts P)) → StatementReaches P (expr_typing.stmt (map_stmt (Parts P) typing (firsts typing mentions (reaching P)) x)).1
    (mention_steps.stmt (map_stmt (Parts P) mentions (seconds typing mentions (reaching P)) x))
stmt_reaches P (Stmt-F.Let l) = record { known = l.2.known; owner = l.2.owner; reached = l.2.reached }
stmt_reaches P (Stmt-F.Bare e) = record {
  known = λ on_top context. refl;
  owner = λ on_top context. refl;
  reached = λ bound on_top context h. bare_reaches P (on_top && is_effect e.0.0) (span_of e.0) (e.0.1 on_top context) (e.2 bound on_top context h);
}

-- all statements, and the last expression behind them
record BlockHasValue (P : List ℕ → Bool) (ss : List StatementTyping) (value : Option ExprPair) (on_top : Bool) (context : TypeEnv) : Type 0 where
  walked : AllNamed P (statements_typing ss on_top context).reached
  last : AllNamed P (last_typing (statements_typing ss on_top context).context value).reached

statements_reach : (P : List ℕ → Bool) (value : Option ExprPair) (ms : Mentions) → ((bound : List (List ℕ)) (context : TypeEnv) → MentionsReach P context.known context.owner (ms bound) → AllNamed P (last_typing context value).reached)
    → (ss : List (StmtPart P)) (bound : List (List ℕ)) (on_top : Bool) (context : TypeEnv) → MentionsReach P context.known context.owner (statements_mentions (map (λ (s : StmtPart P). s.1) ss) ms bound)
    → BlockHasValue P (map (λ (s : Stmt × StatementTyping). s.1) (map (λ (s : StmtPart P). s.0) ss)) value on_top context
statements_reach P value ms end [] bound on_top context h = record { walked = tt; last = end bound context h }
statements_reach P value ms end (s ∷ ss) bound on_top context h =
    let behind = statements_mentions (map (λ (q : StmtPart P). q.1) ss) ms (s.1.names ++ bound) in
    let r = parts P context.known context.owner (s.1.mentions bound) behind h in
    let first = s.0.1 on_top context in
    let more = statements_reach P value ms end ss (s.1.names ++ bound) on_top first.context (subst (λ owner. MentionsReach P first.context.known owner behind) (sym (s.2.owner on_top context)) (subst (λ known. MentionsReach P known context.owner behind) (sym (s.2.known on_top context)) r.1)) in
    record {
      walked = join P first.reached (statements_typing (map (λ (q : Stmt × StatementTyping). q.1) (map (λ (q : StmtPart P). q.0) ss)) on_top first.context).reached (s.2.reached bound on_top context r.0) more.walked;
      last = more.last;
    }

block_reaches : (P : List ℕ → Bool) (x : BlockLevel (Parts P)) → Reaches P (expr_typing.block (map_block (Parts P) typing (firsts typing mentions (reaching P)) x)).1
    (mention_steps.block (map_block (Parts P) mentions (seconds typing mentions (reaching P)) x))
block_reaches P x = by_value x.value
  where
    whole : (value : Option ExprPair) (ms : Mentions) → ((bound : List (List ℕ)) (context : TypeEnv) → MentionsReach P context.known context.owner (ms bound) → AllNamed P (last_typing context value).reached) → (bound : List (List ℕ)) (on_top : Bool)
        (context : TypeEnv) → MentionsReach P context.known context.owner (statements_mentions (map (λ (s : StmtPart P). s.1) x.statements) ms bound)
        → AllNamed P ((statements_typing (map (λ (s : Stmt × StatementTyping). s.1) (map (λ (s : StmtPart P). s.0) x.statements)) on_top context).reached
        ++ (last_typing (statements_typing (map (λ (s : Stmt × StatementTyping). s.1) (map (λ (s : StmtPart P). s.0) x.statements)) on_top context).context value).reached)
    whole value ms end bound on_top context h =
        let walked = statements_typing (map (λ (s : Stmt × StatementTyping). s.1) (map (λ (s : StmtPart P). s.0) x.statements)) on_top context in
        let r = statements_reach P value ms end x.statements bound on_top context h in
        join P walked.reached (last_typing walked.context value).reached r.walked r.last

    by_value : (o : Option (ExprPart P))
        → Reaches P (expr_typing.block (map_block (Parts P) typing (firsts typing mentions (reaching P)) (record { span = x.span; statements = x.statements; value = o }))).1
        (mention_steps.block (map_block (Parts P) mentions (seconds typing mentions (reaching P)) (record { span = x.span; statements = x.statements; value = o })))
    by_value None = λ bound on_top context h. whole None (mentions_if None) (λ bound context h. tt) bound on_top context h
    by_value (Some e) = λ bound on_top context h. whole (Some e.0) (mentions_if (Some e.1)) (λ bound context h. alone_reaches P bound context e h) bound on_top context h

-- ---- loops, numbers and fields

loop_reaches : (P : List ℕ → Bool) (x : ForLevel (Parts P)) (span : Span) → TypeReaches P ((expr_typing.loop (map_loop (Parts P) typing (firsts typing mentions (reaching P)) x)).1 span)
    (mention_steps.loop (map_loop (Parts P) mentions (seconds typing mentions (reaching P)) x))
loop_reaches P x span = by_type x.ty
  where
    index_at : TypeEnv → PatternSeen
    index_at context = pattern_alone false context (same_ends (constant_of context x.from.0).judgement.ty (constant_of context x.to.0).judgement.ty) x.index.0

    accumulator_at : TypeEnv → PatternSeen
    accumulator_at context = pattern_alone false (with_typed context (index_at context).locals) (alone context x.start.0).ty x.accumulator.0

    whole : (bound : List (List ℕ)) (context : TypeEnv) (typed : List Mention) (written : List Instance) → (MentionsReach P context.known context.owner typed → AllNamed P written)
        → MentionsReach P context.known context.owner ((((((x.from.1 bound ++ x.to.1 bound) ++ x.start.1 bound) ++ typed) ++ x.index.1.mentions bound) ++ x.accumulator.1.mentions bound) ++ x.body.1 ((x.accumulator.1.names ++ x.index.1.names) ++ bound))
        → AllNamed P (((((((constant_of context x.from.0).judgement.reached ++ (constant_of context x.to.0).judgement.reached) ++ (alone context x.start.0).reached) ++ written) ++ (index_at context).reached) ++ (accumulator_at context).reached)
        ++ (block_alone (with_typed context (accumulator_at context).locals) x.body.0).reached)
    whole bound context typed written own h =
        let names = (x.accumulator.1.names ++ x.index.1.names) ++ bound in
        let six = parts P context.known context.owner (((((x.from.1 bound ++ x.to.1 bound) ++ x.start.1 bound) ++ typed) ++ x.index.1.mentions bound) ++ x.accumulator.1.mentions bound) (x.body.1 names) h in
        let five = parts P context.known context.owner ((((x.from.1 bound ++ x.to.1 bound) ++ x.start.1 bound) ++ typed) ++ x.index.1.mentions bound) (x.accumulator.1.mentions bound) six.0 in
        let four = parts P context.known context.owner (((x.from.1 bound ++ x.to.1 bound) ++ x.start.1 bound) ++ typed) (x.index.1.mentions bound) five.0 in
        let three = parts P context.known context.owner ((x.from.1 bound ++ x.to.1 bound) ++ x.start.1 bound) typed four.0 in
        let ends = three_parts P context.known context.owner (x.from.1 bound) (x.to.1 bound) (x.start.1 bound) three.0 in
        let from = (constant_of context x.from.0).judgement in
        let to = (constant_of context x.to.0).judgement in
        let start = alone context x.start.0 in
        let index = index_at context in
        let inner = with_typed context index.locals in
        let acc = accumulator_at context in
        let last = with_typed context acc.locals in
        let a = join_three P from.reached to.reached start.reached (alone_reaches P bound context x.from ends.0) (alone_reaches P bound context x.to ends.1) (alone_reaches P bound context x.start ends.2) in
        let b = join P ((from.reached ++ to.reached) ++ start.reached) written a (own three.1) in
        let c = join P (((from.reached ++ to.reached) ++ start.reached) ++ written) index.reached b (x.index.2 bound false context (same_ends from.ty to.ty) [] context.locals four.1) in
        let d = join P ((((from.reached ++ to.reached) ++ start.reached) ++ written) ++ index.reached) acc.reached c (x.accumulator.2 bound false inner start.ty [] inner.locals five.1) in
        join P (((((from.reached ++ to.reached) ++ start.reached) ++ written) ++ index.reached) ++ acc.reached) (block_alone last x.body.0).reached d (x.body.2 names false last six.1)

    by_type : (o : Option (TypePart P))
        → TypeReaches P ((expr_typing.loop (map_loop (Parts P) typing (firsts typing mentions (reaching P)) (record { index = x.index; accumulator = x.accumulator; ty = o; from = x.from; to = x.to; body = x.body; start = x.start }))).1 span)
        (mention_steps.loop (map_loop (Parts P) mentions (seconds typing mentions (reaching P)) (record { index = x.index; accumulator = x.accumulator; ty = o; from = x.from; to = x.to; body = x.body; start = x.start })))
    by_type None = λ bound context h. whole bound context [] [] (λ q. tt) h
    by_type (Some t) = λ bound context h. whole bound context (t.1 bound) (t.0.1 context).reached (t.2 bound context) h

number_reaches : (P : List ℕ → Bool) (x : NumberLevel (Parts P)) (span : Span) → TypeReaches P ((expr_typing.number (map_number (Parts P) typing (firsts typing mentions (reaching P)) x)).1 span)
    (mention_steps.number (map_number (Parts P) mentions (seconds typing mentions (reaching P)) x))
number_reaches P x span = by_type x.ty
  where
    by_type : (o : Option (TypePart P))
        → TypeReaches P ((expr_typing.number (map_number (Parts P) typing (firsts typing mentions (reaching P)) (record { ty = o; is_negative = x.is_negative; value = x.value }))).1 span)
        (mention_steps.number (map_number (Parts P) mentions (seconds typing mentions (reaching P)) (record { ty = o; is_negative = x.is_negative; value = x.value })))
    by_type None = λ bound context h. tt
    by_type (Some t) = λ bound context h. t.2 bound context h

field_reaches : (P : List ℕ → Bool) (x : FieldValueLevel (Parts P)) → FieldReaches P (expr_typing.field (map_field (Parts P) typing (firsts typing mentions (reaching P)) x)).1
    (mention_steps.field (map_field (Parts P) mentions (seconds typing mentions (reaching P)) x))
field_reaches P x = by_value x.value
  where
    by_value : (o : Option (ExprPart P))
        → FieldReaches P (expr_typing.field (map_field (Parts P) typing (firsts typing mentions (reaching P)) (record { name = x.name; value = o }))).1
        (mention_steps.field (map_field (Parts P) mentions (seconds typing mentions (reaching P)) (record { name = x.name; value = o })))
    by_value None = λ bound context struct h. unmarked P x.name.span (name_typing x.name.span context x.name.name) (name_reaches P x.name.span context x.name.name)
    by_value (Some e) = λ bound context struct h. alone_reaches P bound context e h

-- ---- the whole

pub all_reach : (P : List ℕ → Bool) → KeepRelated typing mentions (reaching P) expr_typing mention_steps
all_reach P = record {
  stmt = stmt_reaches P;
  node = node_reaches P;
  shape = shape_reaches P;
  type_node = type_reaches P;
  block = block_reaches P;
  bind = bind_reaches P;
  arg = λ x. x.value.2;
  arm = arm_reaches P;
  expr = λ x. x.node.2 x.span;
  field = field_reaches P;
  loop = loop_reaches P;
  number = number_reaches P;
  pattern = λ x. x.shape.2 x.span;
  type_expr = λ x. x.node.2 x.span;
}

-- what an expression, a block, a type and a parametric argument reach
pub expression_reaches : (P : List ℕ → Bool) (e : Expr) → Reaches P (expr_pair e).1 (k.mentioned e)
expression_reaches P = related_expr typing mentions (reaching P) expr_typing mention_steps (all_reach P)

pub block_of_text_reaches : (P : List ℕ → Bool) (b : Block) → Reaches P (block_pair b).1 (k.mentioned_in_block b)
block_of_text_reaches P = related_block typing mentions (reaching P) expr_typing mention_steps (all_reach P)

pub written_type_reaches : (P : List ℕ → Bool) (t : TypeExpr) → TypeReaches P (type_pair t).1 (k.mentioned_in_type t)
written_type_reaches P = related_type_expr typing mentions (reaching P) expr_typing mention_steps (all_reach P)

pub argument_reaches : (P : List ℕ → Bool) (a : Arg) → Reaches P (arg_pair a).1.1 (k.mentioned_in_arg a)
argument_reaches P = related_arg typing mentions (reaching P) expr_typing mention_steps (all_reach P)
