-- The induction on all sorts of parts of a tree: what each part is lowered to has a type wherever nothing is wrong with it.
use Rattle.xb_span.specs.declared.span.Span.{Span}
use Rattle.std.proofs.Common.{Bool, Option, false, true, ◌≡◌, List, None, Some, [], map, subst, sym, ap, ◌∙◌, ◌∷◌, ◌++◌}
use Rattle.dslx_tree.proofs.Lemmas.Folds.Levels.{Carriers, Maps, trees, ArmLevel, NodeLevel, ShapeLevel, TypeNodeLevel, map_arm, map_node, map_shape, map_type_node, BlockLevel, ExprLevel, FieldValueLevel, ForLevel, LetLevel, NumberLevel, StmtLevel, map_bind, map_block, map_expr, map_field, map_loop, map_number, map_pattern, map_stmt, map_type_expr}
use Rattle.dslx_tree.proofs.Lemmas.Folds.Folds.{Steps, fold_arg, fold_arm, fold_bind, fold_block, fold_expr, fold_field, fold_loop, fold_node, fold_number, fold_pattern, fold_shape, fold_stmt, fold_type_expr, fold_type_node, folds, fold_arm-roll, fold_bind-roll, fold_block-roll, fold_expr-roll, fold_field-roll, fold_loop-roll, fold_node-roll, fold_number-roll, fold_pattern-roll, fold_shape-roll, fold_stmt-roll, fold_type_expr-roll, fold_type_node-roll}
use Rattle.dslx_tree.specs.declared.block.Block.{Block}
use Rattle.dslx_tree.specs.declared.block.Stmt.{Stmt}
use Rattle.dslx_tree.specs.declared.block.Stmt.TheOpen.{Node-F, Shape-F, Stmt-F, TypeNode-F}
use Rattle.dslx_tree.specs.declared.expr.Arm.{Arm}
use Rattle.dslx_tree.specs.declared.expr.Expr.{Expr}
use Rattle.dslx_tree.specs.declared.expr.FieldValue.{FieldValue}
use Rattle.dslx_tree.specs.declared.pattern.Pattern.{Pattern}
use Rattle.dslx_tree.specs.declared.type_expr.TypeExpr.{TypeExpr}
use Rattle.dslx_meaning.specs.Callees.{kind_of_call}
use Rattle.dslx_meaning.specs.Items.{item_named}
use Rattle.dslx_meaning.specs.Environment.{Env}
use Rattle.dslx_meaning.specs.Lists.{all_some, and_then, with_both}
use Rattle.dslx_meaning.specs.Meaning.{pattern_denotation, written_type}
use Rattle.dslx_meaning.specs.Operators.{number_value}
use Rattle.dslx_meaning.specs.Values.{bits_of}
use Rattle.dslx_meaning.specs.declared.ty.DslxType.{DslxType}
use Rattle.dslx_meaning.specs.declared.ty.DslxType as ty
use Rattle.dslx_meaning.specs.declared.value.UntypedLiteral.{UntypedLiteral}
use Rattle.dslx_meaning.specs.Rules.AggregateRules.{range_faults}
use Rattle.dslx_meaning.specs.Rules.ConstantRules.{count_faults, count_of}
use Rattle.dslx_meaning.specs.Rules.ControlRules.{span_of_block}
use Rattle.dslx_meaning.specs.Rules.Mentions.{AsType, is_of_use}
use Rattle.dslx_meaning.specs.Rules.NodeRules.{block_pair, expr_pair, second_of, type_pair, typing_steps}
use Rattle.dslx_meaning.specs.Rules.OperatorRules.{slice_typing}
use Rattle.dslx_meaning.specs.Rules.TypeEnvs.{ExprPair, Instance, TypeEnv, alone, faults_of_all, reached_of_all, span_of, type_limits, types_of, within}
use Rattle.dslx_meaning.specs.Rules.TypeRules.{inner_type, inner_types}
use Rattle.dslx_meaning.specs.Rules.Typings.{StatementTyping, TypeExprTyping, typing_sorts}
use Rattle.dslx_core.proofs.Lemmas.Lowering.{from_then}
use Rattle.dslx_core.proofs.Lemmas.Typing.Sound.{HoldOn, TreeClaims, alone_well_typed, held, held_tree, holds_block, holds_expr, holds_pattern, holds_type_expr, none_in, own_expr, own_pattern, paired, pairing, pattern_gives, type_has_den, unlimited_type}
use Rattle.dslx_core.proofs.Lemmas.Typing.Typed.{none_some, same_some}
use Rattle.dslx_core.specs.Lowering.CoreScopes.{CoreScope, bound_at, constant_at}
use Rattle.dslx_core.specs.Lowering.Lowering.{lower_slice}
use Rattle.dslx_core.specs.Lowering.Patterns.{ArmLowering, ExprLowering, lower_loop}
use Rattle.dslx_core.specs.Lowering.Trees.{FieldLowering, LoweredPair, lower_block_of_text, lower_expression, lower_type_of_text, lowering_sorts, lowering_steps, second_parts}
use Rattle.dslx_core.specs.Typing.Sound.Sound.{EachPatternGives}
use Rattle.dslx_core.specs.Typing.Typed.Complete.{IsWellTypedPart}
use Rattle.dslx_core.specs.Typing.Typed.WellTyped.{IsWellTypedEnv, types_at}
use Rattle.dslx_total.proofs.Lemmas.Expressions.{EachPatternLowers, block_part_lowers_to, expression_part, pattern_part, type_is_wide, type_part_lowers_to}
use Rattle.dslx_total.specs.Expressions.Beside.{ScopeMatchesEnv}
use Rattle.dslx_total.specs.Expressions.ExprLowering.{reaching}
use Rattle.dslx_total.specs.Typed.Scopes.{is_sound_type}
use Rattle.dslx_total.specs.Typed.Claims.{PartIsTyped, PatternIsTyped, StatementIsTyped}
use Rattle.dslx_total.proofs.OnTyped.OfAggregates.{TypeTyped, typed_element, typed_tuple, typed_typed, typed_untyped}
use Rattle.dslx_total.proofs.OnTyped.OfCalls.{typed_call}
use Rattle.dslx_total.proofs.OnTyped.OfControl.{EachStatementTyped, typed_bare, typed_block, typed_let}
use Rattle.dslx_total.proofs.OnTyped.OfLoops.{typed_loop}
use Rattle.dslx_total.proofs.OnTyped.Fitting.{pattern_fits}
use Rattle.dslx_total.proofs.OnTyped.OnFits.{FitsBeside}
use Rattle.dslx_total.proofs.OnTyped.OfMatch.{ArmTyped, EachArmTyped, EachBeside, typed_match}
use Rattle.dslx_total.proofs.OnTyped.OfNames.{NumberTyped, name_is_typed, number_owns, number_sound, typed_bool, typed_member, typed_name, typed_number}
use Rattle.dslx_total.proofs.OnTyped.OfOperations.{typed_binary, typed_cast, typed_field, typed_if, typed_index, typed_part, typed_prefix, typed_slice}
use Rattle.dslx_total.proofs.OnTyped.OfStructs.{EachFieldTyped, FieldTyped, typed_struct}
use Rattle.dslx_total.proofs.OnTyped.OfWritten.{KeepsTypeLimits, named_keep, settled_keep}
use Rattle.dslx_total.proofs.OnTyped.OnParts.{BlockTyped, EachExprTyped, ExprTyped}
use Rattle.dslx_total.proofs.OnTyped.OnSound.{written_sound}
use Rattle.dslx_total.proofs.OnTyped.OnPatterns.{EachPatternTyped, bool_pattern, member_pattern, name_pattern_typed, number_pattern, tuple_pattern_typed, wild_typed}

-- ---- what parts come to, and what they become

abbrev pub seen : Carriers
seen = paired typing_sorts

abbrev pub seeing : Steps seen
seeing = pairing typing_sorts typing_steps

abbrev pub become : Carriers
become = paired lowering_sorts

abbrev pub becoming : Steps become
becoming = pairing lowering_sorts lowering_steps

-- ---- what is to hold of each sort

abbrev lowers_to_typed : TreeClaims
lowers_to_typed = record {
  stmt = λ x. StatementIsTyped (fold_stmt seen seeing x).1 (fold_stmt become becoming x).1;
  node = λ x. (span : Span) → PartIsTyped ((fold_node seen seeing x).1 span false) (fold_node become becoming x).1;
  shape = λ x. (span : Span) → PatternIsTyped ((fold_shape seen seeing x).1 span) (fold_shape become becoming x).1;
  type_node = λ x. (span : Span) → KeepsTypeLimits ((fold_type_node seen seeing x).1 span);
  block = λ x. PartIsTyped ((fold_block seen seeing x).1 false) (fold_block become becoming x).1;
  bind = λ x. StatementIsTyped (fold_bind seen seeing x).1 (fold_bind become becoming x).1;
  arg = λ x. Unit {0};
  arm = λ x. ArmTyped (fold_arm seen seeing x).1 (fold_arm become becoming x).1;
  expr = λ x. PartIsTyped ((fold_expr seen seeing x).1 false) (fold_expr become becoming x).1;
  field = λ x. FieldTyped (fold_field seen seeing x).1 (fold_field become becoming x).1;
  loop = λ x. (span : Span) → PartIsTyped ((fold_loop seen seeing x).1 span) (fold_loop become becoming x).1;
  number = λ x. (span : Span) → NumberTyped ((fold_number seen seeing x).1 span) (fold_number become becoming x).1;
  pattern = λ x. PatternIsTyped (fold_pattern seen seeing x).1 (fold_pattern become becoming x).1;
  type_expr = λ x. KeepsTypeLimits (fold_type_expr seen seeing x).1;
}

abbrev Held : Carriers
Held = held lowers_to_typed

abbrev tree : Maps Held trees
tree = held_tree lowers_to_typed

abbrev ExprPart : Type 0
ExprPart = Held.expr

abbrev TypePart : Type 0
TypePart = Held.type_expr

abbrev PatternPart : Type 0
PatternPart = Held.pattern

abbrev ArgPart : Type 0
ArgPart = Held.arg

abbrev ArmPart : Type 0
ArmPart = Held.arm

abbrev FieldPart : Type 0
FieldPart = Held.field

abbrev StmtPart : Type 0
StmtPart = Held.stmt

-- ---- parts

same_tree : (x : Expr) → (fold_expr seen seeing x).0 ≡ (fold_expr become becoming x).0
same_tree x = own_expr typing_sorts typing_steps x ∙ sym (own_expr lowering_sorts lowering_steps x)

expr_part : (p : ExprPart) → ExprTyped (fold_expr seen seeing p.0) (fold_expr become becoming p.0).1
expr_part p = record { lowers = expression_part p.0; typed = p.1 }

block_part : (p : Held.block) → BlockTyped (fold_block seen seeing p.0) (fold_block become becoming p.0).1
block_part p = record { lowers = λ here context env scope h at well_typed. block_part_lowers_to here context env scope p.0 h at well_typed; typed = p.1 }

type_part : (t : TypeExpr) → TypeTyped (fold_type_expr seen seeing t).1 (fold_type_expr become becoming t).1
type_part t = record { lowers = λ here context env scope h at well_typed. type_part_lowers_to here context env scope t h at well_typed; wide = type_is_wide t }

-- ---- lists of parts

abbrev exprs_seen : List ExprPart → List ExprPair
exprs_seen ps = map (fold_expr seen seeing) (map (λ (p : ExprPart). p.0) ps)

abbrev exprs_become : List ExprPart → List LoweredPair
exprs_become ps = map (fold_expr become becoming) (map (λ (p : ExprPart). p.0) ps)

each_expr : (ps : List ExprPart) → EachExprTyped (exprs_seen ps) (exprs_become ps)
each_expr [] = tt
each_expr (p ∷ ps) = (same_tree p.0, expr_part p, each_expr ps)

each_field : (ps : List FieldPart) → EachFieldTyped (map second_of (map (fold_field seen seeing) (map (λ (p : FieldPart). p.0) ps))) (map (λ (f : FieldValue × FieldLowering). f.1) (map (fold_field become becoming) (map (λ (p : FieldPart). p.0) ps)))
each_field [] = tt
each_field (p ∷ ps) = (p.1, each_field ps)

each_arm : (ps : List ArmPart) → EachArmTyped (map second_of (map (fold_arm seen seeing) (map (λ (p : ArmPart). p.0) ps))) (map (λ (a : Arm × ArmLowering). a.1) (map (fold_arm become becoming) (map (λ (p : ArmPart). p.0) ps)))
each_arm [] = tt
each_arm (p ∷ ps) = (p.1, each_arm ps)

each_pattern : (ps : List PatternPart) → EachPatternTyped (map (fold_pattern seen seeing) (map (λ (p : PatternPart). p.0) ps)) (second_parts (map (fold_pattern become becoming) (map (λ (p : PatternPart). p.0) ps)))
each_pattern [] = tt
each_pattern (p ∷ ps) = (p.1, each_pattern ps)

each_pattern_lowers : (ps : List PatternPart) → EachPatternLowers (map (fold_pattern seen seeing) (map (λ (p : PatternPart). p.0) ps)) (second_parts (map (fold_pattern become becoming) (map (λ (p : PatternPart). p.0) ps)))
each_pattern_lowers [] = tt
each_pattern_lowers (p ∷ ps) = (pattern_part p.0, each_pattern_lowers ps)

each_pattern_gives : (ps : List PatternPart) → EachPatternGives (map (fold_pattern seen seeing) (map (λ (p : PatternPart). p.0) ps)) (map (λ (p : PatternPart). pattern_denotation p.0) ps)
each_pattern_gives [] = tt
each_pattern_gives (p ∷ ps) = (pattern_gives p.0, each_pattern_gives ps)

-- a value that fits a pattern fits what it is lowered to
each_pattern_beside : (ps : List PatternPart) → EachBeside (map (fold_pattern seen seeing) (map (λ (p : PatternPart). p.0) ps)) (second_parts (map (fold_pattern become becoming) (map (λ (p : PatternPart). p.0) ps)))
each_pattern_beside [] = tt
each_pattern_beside (p ∷ ps) =
    (subst (λ x. FitsBeside (fold_pattern become becoming p.0).1 (pattern_denotation x)) (sym (own_pattern typing_sorts typing_steps p.0)) (pattern_fits p.0), each_pattern_beside ps)

each_stmt : (ps : List StmtPart) → EachStatementTyped (map (λ (s : Stmt × StatementTyping). s.1) (map (fold_stmt seen seeing) (map (λ (p : StmtPart). p.0) ps))) (map (λ (s : Stmt × (ExprLowering → ExprLowering)). s.1) (map (fold_stmt become becoming) (map (λ (p : StmtPart). p.0) ps)))
each_stmt [] = tt
each_stmt (p ∷ ps) = (p.1, each_stmt ps)

-- ---- expressions

node_claim : (y : NodeLevel Held) → (span : Span)
    → PartIsTyped ((seeing.node (map_node trees seen (folds seen seeing) (map_node Held trees tree y))).1 span false) (becoming.node (map_node trees become (folds become becoming) (map_node Held trees tree y))).1
node_claim (Node-F.Node::Number n) span = typed_number span ((fold_number seen seeing n.0).1 span) (fold_number become becoming n.0).1 (n.1 span)
node_claim (Node-F.Node::Bool b) span = typed_bool span b
node_claim (Node-F.Node::Array None es dots) span = typed_untyped span (exprs_seen es) dots (exprs_become es) (each_expr es)
node_claim (Node-F.Node::Array (Some t) es dots) span =
    typed_typed span (fold_type_expr seen seeing t.0).1 (fold_type_expr become becoming t.0).1 (exprs_seen es) dots (exprs_become es) (type_part t.0) (each_expr es)
node_claim (Node-F.Node::Name name) span = typed_name span name
node_claim (Node-F.Node::Member e a) span = typed_member span e a
node_claim (Node-F.Call f parametric_args es) span =
    let as' = map (fold_arg seen seeing) (map (λ (p : ArgPart). p.0) parametric_args) in
    let ls = map (fold_arg become becoming) (map (λ (p : ArgPart). p.0) parametric_args) in
    typed_call (kind_of_call f.name) span f as' (λ scope. map (λ a. constant_at scope a.1) ls) (exprs_seen es) (exprs_become es) (each_expr es)
node_claim (Node-F.Node::Tuple es) span = typed_tuple span (exprs_seen es) (exprs_become es) (each_expr es)
node_claim (Node-F.Struct name fields None) span =
    typed_struct span name (map second_of (map (fold_field seen seeing) (map (λ (p : FieldPart). p.0) fields))) (map (λ (f : FieldValue × FieldLowering). f.1) (map (fold_field become becoming) (map (λ (p : FieldPart). p.0) fields))) None None
    (each_field fields) tt
node_claim (Node-F.Struct name fields (Some rest)) span =
    typed_struct span name (map second_of (map (fold_field seen seeing) (map (λ (p : FieldPart). p.0) fields))) (map (λ (f : FieldValue × FieldLowering). f.1) (map (fold_field become becoming) (map (λ (p : FieldPart). p.0) fields)))
    (Some (fold_expr seen seeing rest.0)) (Some (fold_expr become becoming rest.0)) (each_field fields) (expr_part rest)
node_claim (Node-F.Block block) span = block.1
node_claim (Node-F.If test taken other) span =
    typed_if span (fold_expr seen seeing test.0) (fold_block seen seeing taken.0) (fold_expr seen seeing other.0) (fold_expr become becoming test.0).1 (fold_block become becoming taken.0).1 (fold_expr become becoming other.0).1 (expr_part test) (block_part taken)
    (expr_part other)
node_claim (Node-F.Match e arms) span =
    typed_match span (fold_expr seen seeing e.0) (map second_of (map (fold_arm seen seeing) (map (λ (p : ArmPart). p.0) arms))) (fold_expr become becoming e.0).1
    (map (λ (a : Arm × ArmLowering). a.1) (map (fold_arm become becoming) (map (λ (p : ArmPart). p.0) arms))) (expr_part e) (each_arm arms)
node_claim (Node-F.For loop) span = loop.1 span
node_claim (Node-F.Index e i) span = typed_index span (fold_expr seen seeing e.0) (fold_expr seen seeing i.0) (fold_expr become becoming e.0).1 (fold_expr become becoming i.0).1 (expr_part e) (expr_part i)
node_claim (Node-F.Slice e low high) span =
    let typing : TypeExprTyping = λ context. slice_typing span context (fold_expr seen seeing e.0) (fold_expr seen seeing low.0) (fold_expr seen seeing high.0) in
    subst (λ t. PartIsTyped typing (λ scope. lower_slice ((fold_expr become becoming e.0).1 scope) (bound_at scope (fold_expr become becoming low.0).0) (bound_at scope t))) (same_tree high.0)
    (subst (λ t. PartIsTyped typing (λ scope. lower_slice ((fold_expr become becoming e.0).1 scope) (bound_at scope t) (bound_at scope (fold_expr seen seeing high.0).0))) (same_tree low.0)
    (typed_slice span (fold_expr seen seeing e.0) (fold_expr seen seeing low.0) (fold_expr seen seeing high.0) (fold_expr become becoming e.0).1 (fold_expr become becoming low.0).1 (fold_expr become becoming high.0).1 (expr_part e) (expr_part low) (expr_part high)))
node_claim (Node-F.Part e start t) span =
    typed_part span (fold_expr seen seeing e.0) (fold_expr seen seeing start.0) (fold_type_expr seen seeing t.0).1 (fold_expr become becoming e.0).1 (fold_expr become becoming start.0).1 (fold_type_expr become becoming t.0).1 (expr_part e) (expr_part start)
node_claim (Node-F.Field e name) span = typed_field span (fold_expr seen seeing e.0) name (fold_expr become becoming e.0).1 (expr_part e)
node_claim (Node-F.Element e at k) span = typed_element span (fold_expr seen seeing e.0) k (fold_expr become becoming e.0).1 (expr_part e)
node_claim (Node-F.Prefix o e) span = typed_prefix span o (fold_expr seen seeing e.0) (fold_expr become becoming e.0).1 (expr_part e)
node_claim (Node-F.Cast e t) span = typed_cast span (fold_expr seen seeing e.0) (fold_type_expr seen seeing t.0).1 (fold_expr become becoming e.0).1 (fold_type_expr become becoming t.0).1 (expr_part e)
node_claim (Node-F.Binary o l r) span = typed_binary span o (fold_expr seen seeing l.0) (fold_expr seen seeing r.0) (fold_expr become becoming l.0).1 (fold_expr become becoming r.0).1 (expr_part l) (expr_part r)

-- ---- types and patterns

type_claim : (y : TypeNodeLevel Held) → (span : Span) → KeepsTypeLimits ((seeing.type_node (map_type_node trees seen (folds seen seeing) (map_type_node Held trees tree y))).1 span)
type_claim (TypeNode-F.Bits s n) span = λ context e. settled_keep span (Some (ty.Bits s n)) (count_faults span (Some n)) [] (Some 0) e
type_claim (TypeNode-F.Wide s e) span =
    λ context f. let n = count_of context (fold_expr seen seeing e.0) in settled_keep span (and_then n.count (λ w. Some (ty.Bits s w))) ([] ++ n.judgement.faults) n.judgement.reached (Some 0) f
type_claim TypeNode-F.TypeNode::Bool span = λ context e. settled_keep span (Some (ty.Bits false 1)) [] [] (Some 0) e
type_claim (TypeNode-F.TypeNode::Name name) span = named_keep span name (λ context. is_of_use AsType (item_named name context.known.whole.items))
type_claim (TypeNode-F.TypeNode::Tuple ts) span =
    λ context e.
    let js = inner_types context (map (fold_type_expr seen seeing) (map (λ (p : TypePart). p.0) ts)) in
    settled_keep span (and_then (all_some (types_of js)) (λ ts. Some (ty.Tuple ts))) (faults_of_all js) (reached_of_all js) (Some 0) e
type_claim (TypeNode-F.TypeNode::Array t e) span =
    λ context f.
    let j = inner_type context (fold_type_expr seen seeing t.0) in
    let n = count_of context (fold_expr seen seeing e.0) in
    settled_keep span (with_both j.ty n.count (λ t n. Some (ty.Array t n))) (j.faults ++ n.judgement.faults) n.judgement.reached (Some 0) f

shape_claim : (y : ShapeLevel Held) → (span : Span)
    → PatternIsTyped ((seeing.shape (map_shape trees seen (folds seen seeing) (map_shape Held trees tree y))).1 span) (becoming.shape (map_shape trees become (folds become becoming) (map_shape Held trees tree y))).1
shape_claim Shape-F.Wild span = wild_typed
shape_claim (Shape-F.Shape::Bool b) span = bool_pattern span b
shape_claim (Shape-F.Shape::Number n) span = number_pattern span ((fold_number seen seeing n.0).1 span) (fold_number become becoming n.0).1 (n.1 span).owns
shape_claim (Shape-F.Shape::Name name) span = name_pattern_typed span name
shape_claim (Shape-F.Shape::Member e a) span = member_pattern span e a
shape_claim (Shape-F.Shape::Tuple ps) span =
    tuple_pattern_typed span (map (fold_pattern seen seeing) (map (λ (p : PatternPart). p.0) ps)) (second_parts (map (fold_pattern become becoming) (map (λ (p : PatternPart). p.0) ps))) (each_pattern ps)

arm_claim : (y : ArmLevel Held)
    → ArmTyped (seeing.arm (map_arm trees seen (folds seen seeing) (map_arm Held trees tree y))).1 (becoming.arm (map_arm trees become (folds become becoming) (map_arm Held trees tree y))).1
arm_claim y = record {
  patterns = each_pattern_lowers y.patterns;
  shapes = each_pattern y.patterns;
  meanings = map (λ (p : PatternPart). pattern_denotation p.0) y.patterns;
  give = each_pattern_gives y.patterns;
  beside = each_pattern_beside y.patterns;
  value = expr_part y.value;
}

-- ---- statements and blocks

bind_claim : (y : LetLevel Held)
    → StatementIsTyped (seeing.bind (map_bind trees seen (folds seen seeing) (map_bind Held trees tree y))).1 (becoming.bind (map_bind trees become (folds become becoming) (map_bind Held trees tree y))).1
bind_claim y = by_type y.ty
  where
    with_type : Option TypePart → LetLevel Held
    with_type o = record { span = y.span; pattern = y.pattern; ty = o; value = y.value }

    by_type : (o : Option TypePart) → StatementIsTyped (seeing.bind (map_bind trees seen (folds seen seeing) (map_bind Held trees tree (with_type o)))).1 (becoming.bind (map_bind trees become (folds become becoming) (map_bind Held trees tree (with_type o)))).1
    by_type None =
        typed_let (span_of (fold_expr seen seeing y.value.0)) (fold_expr seen seeing y.value.0) (fold_expr become becoming y.value.0).1 None None (fold_pattern seen seeing y.pattern.0) (fold_pattern become becoming y.pattern.0).1
        (pattern_denotation y.pattern.0) (expr_part y.value) tt (pattern_part y.pattern.0) y.pattern.1 (pattern_gives y.pattern.0)
    by_type (Some t) =
        typed_let (span_of (fold_expr seen seeing y.value.0)) (fold_expr seen seeing y.value.0) (fold_expr become becoming y.value.0).1 (Some (fold_type_expr seen seeing t.0)) (Some (written_type t.0)) (fold_pattern seen seeing y.pattern.0)
        (fold_pattern become becoming y.pattern.0).1 (pattern_denotation y.pattern.0) (expr_part y.value) (type_has_den t.0) (pattern_part y.pattern.0) y.pattern.1 (pattern_gives y.pattern.0)

stmt_claim : (y : StmtLevel Held)
    → StatementIsTyped (seeing.stmt (map_stmt trees seen (folds seen seeing) (map_stmt Held trees tree y))).1 (becoming.stmt (map_stmt trees become (folds become becoming) (map_stmt Held trees tree y))).1
stmt_claim (Stmt-F.Let l) = l.1
stmt_claim (Stmt-F.Bare e) = record { typed = (typed_bare (fold_expr seen seeing e.0)).typed }

block_claim : (y : BlockLevel Held)
    → PartIsTyped ((seeing.block (map_block trees seen (folds seen seeing) (map_block Held trees tree y))).1 false) (becoming.block (map_block trees become (folds become becoming) (map_block Held trees tree y))).1
block_claim y = by_value y.value
  where
    with_value : Option ExprPart → BlockLevel Held
    with_value o = record { span = y.span; statements = y.statements; value = o }

    ss : List StatementTyping
    ss = map (λ (s : Stmt × StatementTyping). s.1) (map (fold_stmt seen seeing) (map (λ (p : StmtPart). p.0) y.statements))

    ls : List (ExprLowering → ExprLowering)
    ls = map (λ (s : Stmt × (ExprLowering → ExprLowering)). s.1) (map (fold_stmt become becoming) (map (λ (p : StmtPart). p.0) y.statements))

    by_value : (o : Option ExprPart)
        → PartIsTyped ((seeing.block (map_block trees seen (folds seen seeing) (map_block Held trees tree (with_value o)))).1 false) (becoming.block (map_block trees become (folds become becoming) (map_block Held trees tree (with_value o)))).1
    by_value None = typed_block y.span ss ls None None (each_stmt y.statements) tt
    by_value (Some e) = typed_block y.span ss ls (Some (fold_expr seen seeing e.0)) (Some (fold_expr become becoming e.0)) (each_stmt y.statements) (expr_part e)

-- ---- loops

loop_claim : (y : ForLevel Held) → (span : Span)
    → PartIsTyped ((seeing.loop (map_loop trees seen (folds seen seeing) (map_loop Held trees tree y))).1 span) (becoming.loop (map_loop trees become (folds become becoming) (map_loop Held trees tree y))).1
loop_claim y span = by_type y.ty
  where
    with_type : Option TypePart → ForLevel Held
    with_type o = record { index = y.index; accumulator = y.accumulator; ty = o; from = y.from; to = y.to; body = y.body; start = y.start }

    by_type : (o : Option TypePart) → PartIsTyped ((seeing.loop (map_loop trees seen (folds seen seeing) (map_loop Held trees tree (with_type o)))).1 span) (becoming.loop (map_loop trees become (folds become becoming) (map_loop Held trees tree (with_type o)))).1
    by_type o =
        let from = fold_expr seen seeing y.from.0 in
        let to = fold_expr seen seeing y.to.0 in
        let start = fold_expr seen seeing y.start.0 in
        let index = fold_pattern seen seeing y.index.0 in
        let acc = fold_pattern seen seeing y.accumulator.0 in
        let body = fold_block seen seeing y.body.0 in
        let written = (map_loop trees seen (folds seen seeing) (map_loop Held trees tree (with_type o))).ty in
        let typing : TypeExprTyping = (seeing.loop (map_loop trees seen (folds seen seeing) (map_loop Held trees tree (with_type o)))).1 span in
        let lower_from = fold_expr become becoming y.from.0 in
        let lower_to = fold_expr become becoming y.to.0 in
        let lower_start = fold_expr become becoming y.start.0 in
        let il = (fold_pattern become becoming y.index.0).1 in
        let al = (fold_pattern become becoming y.accumulator.0).1 in
        let bl = (fold_block become becoming y.body.0).1 in
        subst (λ u. PartIsTyped typing (λ scope. lower_loop (lower_start.1 scope) (lower_from.1 scope) (and_then (constant_at scope u) bits_of) (and_then (constant_at scope lower_to.0) bits_of) il al bl scope)) (same_tree y.from.0)
        (typed_loop span (span_of_block body) from to start lower_from.1 lower_to.1 lower_start.1 (λ scope. and_then (constant_at scope lower_to.0) bits_of) written index acc il al (pattern_denotation y.index.0) (pattern_denotation y.accumulator.0) body bl
        (expr_part y.from) (expr_part y.to) (expr_part y.start) (pattern_part y.index.0) (pattern_part y.accumulator.0) y.index.1 y.accumulator.1 (pattern_gives y.index.0) (pattern_gives y.accumulator.0) (block_part y.body))

-- ---- numbers and fields

number_claim : (y : NumberLevel Held) → (span : Span)
    → NumberTyped ((seeing.number (map_number trees seen (folds seen seeing) (map_number Held trees tree y))).1 span) (becoming.number (map_number trees become (folds become becoming) (map_number Held trees tree y))).1
number_claim y span = by_type y.ty
  where
    number : UntypedLiteral
    number = record { is_negative = y.is_negative; value = y.value }

    with_type : Option TypePart → NumberLevel Held
    with_type o = record { ty = o; is_negative = y.is_negative; value = y.value }

    by_type : (o : Option TypePart)
        → NumberTyped ((seeing.number (map_number trees seen (folds seen seeing) (map_number Held trees tree (with_type o)))).1 span) (becoming.number (map_number trees become (folds become becoming) (map_number Held trees tree (with_type o)))).1
    by_type None = record { owns = λ scope v e. none_some v e; sound = λ here context env scope h at well_typed end limits v e. none_some v e }
    by_type (Some t) =
        let j = (fold_type_expr seen seeing t.0).1 in
        let l = (fold_type_expr become becoming t.0).1 in
        record {
          owns = λ scope v e. let a = from_then (l scope) (λ t. number_value t number) v e in number_owns a.0 number v a.2;
          sound = λ here context env scope h at well_typed end limits v e.
              let wrong = range_faults span (j context).ty number in
              let u = (type_part t.0).lowers here context env scope h at (record { faults = (none_in (j context).faults wrong well_typed.faults).0; reached = well_typed.reached }) in
              let own = unlimited_type (j context).ty ((j context).faults ++ wrong) (j context).reached (Some 1) well_typed.faults ∙ u.typed in
              number_sound (types_at context) u.ty number v u.declared u.wide end (sym (ap (type_limits end) own) ∙ limits) (sym (ap (λ o. and_then o (λ t. number_value t number)) u.is) ∙ e);
        }

field_claim : (y : FieldValueLevel Held)
    → FieldTyped (seeing.field (map_field trees seen (folds seen seeing) (map_field Held trees tree y))).1 (becoming.field (map_field trees become (folds become becoming) (map_field Held trees tree y))).1
field_claim y = by_value y.value
  where
    with_value : Option ExprPart → FieldValueLevel Held
    with_value o = record { name = y.name; value = o }

    by_value : (o : Option ExprPart)
        → FieldTyped (seeing.field (map_field trees seen (folds seen seeing) (map_field Held trees tree (with_value o)))).1 (becoming.field (map_field trees become (folds become becoming) (map_field Held trees tree (with_value o)))).1
    by_value None = record { typed = λ here context struct env scope fs ts h at scoped well_typed. name_is_typed fs ts y.name.name scope scoped }
    by_value (Some e) = record {
      typed = λ here context struct env scope fs ts h at scoped well_typed.
          let a = alone context (fold_expr seen seeing e.0) in
          e.1 here context env scope fs ts h at scoped (alone_well_typed (reaching context.known here) (span_of (fold_expr seen seeing e.0)) (within context (fold_expr seen seeing e.0)) (record { faults = (none_in a.faults _ well_typed.faults).0; reached = well_typed.reached })).well_typed;
    }

-- ---- the whole

-- what holds between two holds between what is the same
moved : {A B : Type 0} (R : A → B → Type 0) {a a' : A} {b b' : B} → a ≡ a' → b ≡ b' → R a' b' → R a b
moved R {a' = a'} {b = b} e f h = subst (λ x. R x b) (sym e) (subst (λ y. R a' y) (sym f) h)

all_typed : HoldOn lowers_to_typed
all_typed = record {
  stmt = λ y. moved (λ p q. StatementIsTyped p.1 q.1) (fold_stmt-roll seen seeing (map_stmt Held trees tree y)) (fold_stmt-roll become becoming (map_stmt Held trees tree y)) (stmt_claim y);
  node = λ y span. moved (λ p q. PartIsTyped (p.1 span false) q.1) (fold_node-roll seen seeing (map_node Held trees tree y)) (fold_node-roll become becoming (map_node Held trees tree y)) (node_claim y span);
  shape = λ y span. moved (λ p q. PatternIsTyped (p.1 span) q.1) (fold_shape-roll seen seeing (map_shape Held trees tree y)) (fold_shape-roll become becoming (map_shape Held trees tree y)) (shape_claim y span);
  type_node = λ y span. subst (λ p. KeepsTypeLimits (p.1 span)) (sym (fold_type_node-roll seen seeing (map_type_node Held trees tree y))) (type_claim y span);
  block = λ y. moved (λ p q. PartIsTyped (p.1 false) q.1) (fold_block-roll seen seeing (map_block Held trees tree y)) (fold_block-roll become becoming (map_block Held trees tree y)) (block_claim y);
  bind = λ y. moved (λ p q. StatementIsTyped p.1 q.1) (fold_bind-roll seen seeing (map_bind Held trees tree y)) (fold_bind-roll become becoming (map_bind Held trees tree y)) (bind_claim y);
  arg = λ y. tt;
  arm = λ y. moved (λ p q. ArmTyped p.1 q.1) (fold_arm-roll seen seeing (map_arm Held trees tree y)) (fold_arm-roll become becoming (map_arm Held trees tree y)) (arm_claim y);
  expr = λ y. moved (λ p q. PartIsTyped (p.1 false) q.1) (fold_expr-roll seen seeing (map_expr Held trees tree y)) (fold_expr-roll become becoming (map_expr Held trees tree y)) (expr_claim y);
  field = λ y. moved (λ p q. FieldTyped p.1 q.1) (fold_field-roll seen seeing (map_field Held trees tree y)) (fold_field-roll become becoming (map_field Held trees tree y)) (field_claim y);
  loop = λ y span. moved (λ p q. PartIsTyped (p.1 span) q.1) (fold_loop-roll seen seeing (map_loop Held trees tree y)) (fold_loop-roll become becoming (map_loop Held trees tree y)) (loop_claim y span);
  number = λ y span. moved (λ p q. NumberTyped (p.1 span) q.1) (fold_number-roll seen seeing (map_number Held trees tree y)) (fold_number-roll become becoming (map_number Held trees tree y)) (number_claim y span);
  pattern = λ y. moved (λ p q. PatternIsTyped p.1 q.1) (fold_pattern-roll seen seeing (map_pattern Held trees tree y)) (fold_pattern-roll become becoming (map_pattern Held trees tree y)) (y.shape.1 y.span);
  type_expr = λ y. subst (λ p. KeepsTypeLimits p.1) (sym (fold_type_expr-roll seen seeing (map_type_expr Held trees tree y))) (y.node.1 y.span);
}
  where
    expr_claim : (y : ExprLevel Held) → PartIsTyped ((fold_node seen seeing y.node.0).1 y.span false) (fold_node become becoming y.node.0).1
    expr_claim y = y.node.1 y.span

pub expression_is_typed : (e : Expr) → PartIsTyped ((expr_pair e).1 false) (lower_expression e)
expression_is_typed e = holds_expr lowers_to_typed all_typed e

pub block_is_typed : (b : Block) → PartIsTyped ((block_pair b).1 false) (lower_block_of_text b)
block_is_typed b = holds_block lowers_to_typed all_typed b

pub pattern_is_typed : (p : Pattern) → PatternIsTyped (fold_pattern seen seeing p).1 (fold_pattern become becoming p).1
pattern_is_typed = holds_pattern lowers_to_typed all_typed

-- a written type keeps the limits
pub type_keeps_limits : (t : TypeExpr) → KeepsTypeLimits (fold_type_expr seen seeing t).1
type_keeps_limits t = holds_type_expr lowers_to_typed all_typed t

-- and is sound
pub written_type_is_sound : (here : Instance → Bool) (context : TypeEnv) (env : Env) (scope : CoreScope) (t : TypeExpr) → IsWellTypedEnv context env → ScopeMatchesEnv here context scope
    → IsWellTypedPart (reaching context.known here) ((type_pair t).1 context) → (u : DslxType) → lower_type_of_text t scope ≡ Some u → is_sound_type u ≡ true
written_type_is_sound here context env scope t h at well_typed u e =
    let l = type_part_lowers_to here context env scope t h at well_typed in
    let same = same_some l.ty u (sym l.is ∙ e) in
    let k = type_keeps_limits t context well_typed.faults in
    ap is_sound_type (sym same) ∙ written_sound (types_at context) h.known.parts k.0 l.ty (type_is_wide t context at.widths l.ty l.typed) l.declared (sym (ap (type_limits k.0) l.typed) ∙ k.1)
