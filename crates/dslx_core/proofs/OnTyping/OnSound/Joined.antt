-- The induction on all sorts of parts of a tree: each part has a value of its type wherever nothing is wrong with it.
use Rattle.std.proofs.Common.{◌≡◌, suc, length, true, false, List, [], ◌∷◌, map, Option, Some, None, refl, ap, ◌∙◌}
use Rattle.xb_span.specs.declared.span.Span.{Span}
use Rattle.dslx_tree.specs.declared.block.Block.{Block}
use Rattle.dslx_tree.specs.declared.block.Stmt.TheOpen.{Stmt-F, Node-F, Shape-F, TypeNode-F}
use Rattle.dslx_tree.specs.declared.expr.Arg.{Arg}
use Rattle.dslx_tree.specs.declared.expr.Expr.{Expr}
use Rattle.dslx_tree.specs.declared.ident.Ident.{Ident}
use Rattle.dslx_tree.specs.declared.block.Stmt.{Stmt}
use Rattle.dslx_tree.specs.declared.pattern.Pattern.{Pattern}
use Rattle.dslx_tree.specs.declared.type_expr.TypeExpr.{TypeExpr}
use Rattle.dslx_tree.proofs.Lemmas.Folds.Levels.{Carriers, StmtLevel, NodeLevel, ShapeLevel, TypeNodeLevel, BlockLevel, LetLevel, ArmLevel, FieldValueLevel, ForLevel, NumberLevel, map_stmt, map_node, map_shape, map_type_node, map_block, map_bind, map_arm, map_field, map_loop, map_number}
use Rattle.dslx_tree.proofs.Lemmas.Folds.Folds.{fold_stmt}
use Rattle.dslx_tree.proofs.Lemmas.Folds.Related.{both, firsts, seconds, KeepRelated, related_arg, related_expr, related_block, related_pattern, related_stmt, related_type_expr}
use Rattle.dslx_meaning.specs.Callees.{AllOnes, CallKind, Calls, CountsLeading, CountsTrailing, Joins, Parity, Receives, ReceivesIf, Reverses, Sends, SendsIf, SomeOne, Updates, kind_of_call}
use Rattle.dslx_meaning.specs.Lists.{with_both}
use Rattle.dslx_meaning.specs.Environment.{Env}
use Rattle.dslx_meaning.specs.Meaning.{ExprDen, PatternDen, TypeDen, call_den, denotation, arg_denotation, pattern_denotation, value_of, value_of_block, values_of, written_type}
use Rattle.dslx_meaning.specs.declared.value.UntypedLiteral.{UntypedLiteral}
use Rattle.dslx_meaning.specs.Rules.CallRules.{call_typing, receiving, receiving_if, sending, sending_if, unnumbered_effect}
use Rattle.dslx_meaning.specs.Rules.ControlRules.{same_ends, span_of_block}
use Rattle.dslx_meaning.specs.Rules.ConstantRules.{constant_of}
use Rattle.dslx_meaning.specs.Rules.TypeEnvs.{ExprPair, ExprTyping, TypeEnv, alone, breaks, no_token, span_of, unlimited}
use Rattle.dslx_meaning.specs.Rules.PatternRules.{is_there}
use Rattle.dslx_meaning.specs.Types.{bool_type}
use Rattle.dslx_meaning.specs.Values.{bool_value}
use Rattle.dslx_meaning.specs.Rules.Typings.{PatternTyping, TypeExprTyping, StatementTyping, typing_sorts}
use Rattle.dslx_meaning.specs.Rules.NameRules.{member_typing, name_typing}
use Rattle.dslx_meaning.specs.Rules.NodeRules.{arg_pair, block_pair, expr_pair, typing_steps, second_of, type_pair}
use Rattle.dslx_meaning.specs.Rules.Paired.{paired_pattern, paired_stmt}
use Rattle.dslx_core.specs.Typing.Typed.Complete.{IsWellTypedPart}
use Rattle.dslx_core.specs.Typing.Typed.WellTyped.{IsWellTypedEnv, types_at}
use Rattle.dslx_core.proofs.Lemmas.Typing.Typed.{none_some}
use Rattle.dslx_core.specs.Typing.Sound.Scopes.{EachPatternSeesAlike, PatternSeesAlike, SeeAlike, TypeSeesAlike}
use Rattle.dslx_core.specs.Typing.Sound.Sound.{ArmHasValue, BlockGives, EachArmHasValue, EachExprGives, EachFieldGives, EachPatternGives, EachTypeHasDen, ExprGives, FieldGives, HasTypedValue, PartGives, PatternGives, StatementGives, StatementsGive, TypeHasDen}
use Rattle.dslx_core.proofs.OnTyping.OnSound.WellTypedParts.{alone_well_typed, alone_has, limited_well_typed, none_in, some_fault}
use Rattle.dslx_core.proofs.OnTyping.OnSound.Links.{Claims, claimed, typing, expr_typing, meaning, meanings, link_stmt, link_node, link_shape, link_type_node, link_block, link_bind, link_arg, link_arm, link_expr, link_field, link_loop, link_number, link_pattern, link_type_expr}
use Rattle.dslx_core.proofs.OnTyping.OnSound.OfOperations.{binary_has, cast_has, field_has, index_has, part_has, prefix_has}
use Rattle.dslx_core.proofs.OnTyping.OnSound.OfConstants.{slice_has}
use Rattle.dslx_core.proofs.OnTyping.OnSound.OfTypes.{array_has_den, name_has_den, plain_has_den, tuple_has_den, wide_has_den}
use Rattle.dslx_core.proofs.OnTyping.OnSound.OfAggregates.{element_has, struct_has, tuple_has, typed_has, untyped_has}
use Rattle.dslx_core.proofs.OnTyping.OnSound.OfNames.{bool_has, member_has, name_has, number_has}
use Rattle.dslx_core.proofs.OnTyping.OnSound.OfControl.{bare_has, block_has, if_has, let_has}
use Rattle.dslx_core.proofs.OnTyping.OnSound.OfLoops.{loop_has}
use Rattle.dslx_core.proofs.OnTyping.OnSound.OfBuiltins.{builtin_has}
use Rattle.dslx_core.proofs.OnTyping.OnSound.OfFunctions.{function_has}
use Rattle.dslx_core.proofs.OnTyping.OnSound.OfShapes.{bool_pattern_gives, member_pattern_gives, name_pattern_gives, number_pattern_gives, tuple_pattern_gives, wild_gives}
use Rattle.dslx_core.proofs.OnTyping.OnSound.OfMatch.{match_has}
use Rattle.dslx_core.proofs.OnTyping.OnSound.OfNarrow.{narrow_come}
use Rattle.dslx_core.proofs.OnTyping.OnSound.OfScopes.{EachTypeSeesAlike, array_alike, member_alike, name_alike, name_pattern_alike, number_alike, one_value_alike, tuple_alike, tuple_pattern_alike, wide_alike, wild_alike}

-- ---- what is to hold of each sort

pub record ExprClaim (j : ExprTyping) (x : ExprDen) : Type 0 where
  pub gives : BlockGives j x.value
  pub untyped : (number : UntypedLiteral) → x.bare ≡ Some number → (context : TypeEnv) → (j false context).ty ≡ None

pub record NumberClaim (j : TypeExprTyping) (x : ExprDen) : Type 0 where
  pub gives : PartGives j x.value
  pub untyped : (number : UntypedLiteral) → x.bare ≡ Some number → (context : TypeEnv) → (j context).ty ≡ None
  pub alike : (context : TypeEnv) (a b : Env) → SeeAlike context a b → IsWellTypedPart context.known (j context) → x.value a ≡ x.value b

abbrev pub TypeClaim : TypeExprTyping → TypeDen → Type 0
TypeClaim j f = TypeHasDen j f × TypeSeesAlike j f

abbrev pub PatternClaim : PatternTyping → PatternDen → Type 0
PatternClaim p x = PatternGives p x × PatternSeesAlike p x

abbrev pub sound : Claims
sound = record {
  stmt = StatementGives;
  node = λ j x. (span : Span) → ExprClaim (j span) x;
  shape = λ p x. (span : Span) → PatternClaim (p span) x;
  type_node = λ j f. (span : Span) → TypeClaim (j span) f;
  block = BlockGives;
  bind = StatementGives;
  arg = ExprGives;
  arm = ArmHasValue;
  expr = ExprClaim;
  field = FieldGives;
  loop = λ j f. (span : Span) → PartGives (j span) f;
  number = λ j x. (span : Span) → NumberClaim (j span) x;
  pattern = PatternClaim;
  type_expr = TypeClaim;
}

abbrev Parts : Carriers
Parts = both typing meanings (claimed sound)

abbrev ExprPart : Type 0
ExprPart = Parts.expr

abbrev ArgPart : Type 0
ArgPart = Parts.arg

abbrev FieldPart : Type 0
FieldPart = Parts.field

abbrev ArmPart : Type 0
ArmPart = Parts.arm

abbrev PatternPart : Type 0
PatternPart = Parts.pattern

abbrev TypePart : Type 0
TypePart = Parts.type_expr

abbrev StmtPart : Type 0
StmtPart = Parts.stmt

abbrev typing_of_node : NodeLevel Parts → Span → ExprTyping
typing_of_node x = (expr_typing.node (map_node Parts typing (firsts typing meanings (claimed sound)) x)).1

abbrev den_of_node : NodeLevel Parts → ExprDen
den_of_node x = meaning.node (map_node Parts meanings (seconds typing meanings (claimed sound)) x)

-- ---- lists of parts

expr_gives : (p : ExprPart) → ExprGives p.0 p.1
expr_gives p = record { is = p.2.0; gives = p.2.1.gives; untyped = p.2.1.untyped }

each_expr : (ps : List ExprPart) → EachExprGives (map (λ (p : ExprPart). p.0) ps) (map (λ (p : ExprPart). p.1) ps)
each_expr [] = tt
each_expr (p ∷ ps) = (expr_gives p, each_expr ps)

each_arg : (ps : List ArgPart) → EachExprGives (map (λ (a : Arg × ExprPair). a.1) (map (λ (p : ArgPart). p.0) ps)) (map (λ (p : ArgPart). p.1) ps)
each_arg [] = tt
each_arg (p ∷ ps) = (p.2.1, each_arg ps)

as_many : (ps : List ArgPart) → length (map (λ (p : ArgPart). p.0) ps) ≡ length (map (λ (p : ArgPart). p.1) ps)
as_many [] = refl
as_many (p ∷ ps) = ap suc (as_many ps)

each_field : (ps : List FieldPart) → EachFieldGives (map second_of (map (λ (p : FieldPart). p.0) ps)) (map (λ (p : FieldPart). p.1) ps)
each_field [] = tt
each_field (p ∷ ps) = (p.2.1, each_field ps)

each_arm : (ps : List ArmPart) → EachArmHasValue (map second_of (map (λ (p : ArmPart). p.0) ps)) (map (λ (p : ArmPart). p.1) ps)
each_arm [] = tt
each_arm (p ∷ ps) = (p.2.1, each_arm ps)

each_pattern : (ps : List PatternPart) → EachPatternGives (map (λ (p : PatternPart). p.0) ps) (map (λ (p : PatternPart). p.1) ps)
each_pattern [] = tt
each_pattern (p ∷ ps) = (p.2.1.0, each_pattern ps)

each_pattern_alike : (ps : List PatternPart) → EachPatternSeesAlike (map (λ (p : PatternPart). p.0) ps) (map (λ (p : PatternPart). p.1) ps)
each_pattern_alike [] = tt
each_pattern_alike (p ∷ ps) = ((p.2.0, p.2.1.1), each_pattern_alike ps)

each_type : (ps : List TypePart) → EachTypeHasDen (map (λ (p : TypePart). p.0) ps) (map (λ (p : TypePart). p.1) ps)
each_type [] = tt
each_type (p ∷ ps) = (p.2.1.0, each_type ps)

each_type_alike : (ps : List TypePart) → EachTypeSeesAlike (map (λ (p : TypePart). p.0) ps) (map (λ (p : TypePart). p.1) ps)
each_type_alike [] = tt
each_type_alike (p ∷ ps) = (p.2.1.1, each_type_alike ps)

each_stmt : (ps : List StmtPart) → StatementsGive (map (λ (s : Stmt × StatementTyping). s.1) (map (λ (p : StmtPart). p.0) ps)) (map (λ (p : StmtPart). p.1) ps)
each_stmt [] = tt
each_stmt (p ∷ ps) = (p.2.1, each_stmt ps)

-- ---- expressions

call_claim : (kind : CallKind) (span : Span) (f : Ident) (parametric_args : List ArgPart) (es : List ExprPart) (context : TypeEnv) (env : Env) → IsWellTypedEnv context env
    → IsWellTypedPart context.known (call_typing kind span f (map (λ (p : ArgPart). p.0) parametric_args) (map (λ (p : ExprPart). p.0) es) false context)
    → HasTypedValue (types_at context) (call_typing kind span f (map (λ (p : ArgPart). p.0) parametric_args) (map (λ (p : ExprPart). p.0) es) false context)
    (with_both (values_of (map (λ (p : ArgPart). p.1) parametric_args) env) (values_of (map (λ (p : ExprPart). p.1) es) env) (call_den kind f.name env))
call_claim Joins span f parametric_args es context env h well_typed = builtin_has Joins span context env f.name (map (λ (p : ArgPart). p.0) parametric_args) (map (λ (p : ArgPart). p.1) parametric_args) (map (λ (p : ExprPart). p.0) es) (map (λ (p : ExprPart). p.1) es) tt (as_many parametric_args) (each_expr es) h well_typed
call_claim CountsLeading span f parametric_args es context env h well_typed = builtin_has CountsLeading span context env f.name (map (λ (p : ArgPart). p.0) parametric_args) (map (λ (p : ArgPart). p.1) parametric_args) (map (λ (p : ExprPart). p.0) es) (map (λ (p : ExprPart). p.1) es) tt (as_many parametric_args) (each_expr es) h well_typed
call_claim CountsTrailing span f parametric_args es context env h well_typed = builtin_has CountsTrailing span context env f.name (map (λ (p : ArgPart). p.0) parametric_args) (map (λ (p : ArgPart). p.1) parametric_args) (map (λ (p : ExprPart). p.0) es) (map (λ (p : ExprPart). p.1) es) tt (as_many parametric_args) (each_expr es) h well_typed
call_claim Reverses span f parametric_args es context env h well_typed = builtin_has Reverses span context env f.name (map (λ (p : ArgPart). p.0) parametric_args) (map (λ (p : ArgPart). p.1) parametric_args) (map (λ (p : ExprPart). p.0) es) (map (λ (p : ExprPart). p.1) es) tt (as_many parametric_args) (each_expr es) h well_typed
call_claim AllOnes span f parametric_args es context env h well_typed = builtin_has AllOnes span context env f.name (map (λ (p : ArgPart). p.0) parametric_args) (map (λ (p : ArgPart). p.1) parametric_args) (map (λ (p : ExprPart). p.0) es) (map (λ (p : ExprPart). p.1) es) tt (as_many parametric_args) (each_expr es) h well_typed
call_claim SomeOne span f parametric_args es context env h well_typed = builtin_has SomeOne span context env f.name (map (λ (p : ArgPart). p.0) parametric_args) (map (λ (p : ArgPart). p.1) parametric_args) (map (λ (p : ExprPart). p.0) es) (map (λ (p : ExprPart). p.1) es) tt (as_many parametric_args) (each_expr es) h well_typed
call_claim Parity span f parametric_args es context env h well_typed = builtin_has Parity span context env f.name (map (λ (p : ArgPart). p.0) parametric_args) (map (λ (p : ArgPart). p.1) parametric_args) (map (λ (p : ExprPart). p.0) es) (map (λ (p : ExprPart). p.1) es) tt (as_many parametric_args) (each_expr es) h well_typed
call_claim Updates span f parametric_args es context env h well_typed = builtin_has Updates span context env f.name (map (λ (p : ArgPart). p.0) parametric_args) (map (λ (p : ArgPart). p.1) parametric_args) (map (λ (p : ExprPart). p.0) es) (map (λ (p : ExprPart). p.1) es) tt (as_many parametric_args) (each_expr es) h well_typed
call_claim Receives span f parametric_args es context env h well_typed = some_fault (breaks 28 span) [] (none_in (unnumbered_effect span context (map (λ (p : ArgPart). p.0) parametric_args) (map (λ (p : ExprPart). p.0) es) (receiving span context (map (λ (p : ExprPart). p.0) es))).faults (breaks 28 span ∷ []) well_typed.faults).1
call_claim ReceivesIf span f parametric_args es context env h well_typed = some_fault (breaks 28 span) [] (none_in (unnumbered_effect span context (map (λ (p : ArgPart). p.0) parametric_args) (map (λ (p : ExprPart). p.0) es) (receiving_if span context (map (λ (p : ExprPart). p.0) es))).faults (breaks 28 span ∷ []) well_typed.faults).1
call_claim Sends span f parametric_args es context env h well_typed = some_fault (breaks 28 span) [] (none_in (unnumbered_effect span context (map (λ (p : ArgPart). p.0) parametric_args) (map (λ (p : ExprPart). p.0) es) (sending span context (map (λ (p : ExprPart). p.0) es))).faults (breaks 28 span ∷ []) well_typed.faults).1
call_claim SendsIf span f parametric_args es context env h well_typed = some_fault (breaks 28 span) [] (none_in (unnumbered_effect span context (map (λ (p : ArgPart). p.0) parametric_args) (map (λ (p : ExprPart). p.0) es) (sending_if span context (map (λ (p : ExprPart). p.0) es))).faults (breaks 28 span ∷ []) well_typed.faults).1
call_claim Calls span f parametric_args es context env h well_typed =
    function_has span context env f (map (λ (p : ArgPart). p.0) parametric_args) (map (λ (p : ArgPart). p.1) parametric_args) (map (λ (p : ExprPart). p.0) es) (map (λ (p : ExprPart). p.1) es) (each_arg parametric_args) (each_expr es) h well_typed

node_gives : (x : NodeLevel Parts) (span : Span) → BlockGives (typing_of_node x span) (den_of_node x).value
node_gives (Node-F.Node::Number n) span context env h well_typed = (n.2.1 span).gives context env h (limited_well_typed context.known span (n.0.1 span context) well_typed)
node_gives (Node-F.Node::Bool bit) span context env h well_typed = bool_has span bit context env h well_typed
node_gives (Node-F.Node::Array None es dots) span context env h well_typed = untyped_has span context env (map (λ (p : ExprPart). p.0) es) dots (map (λ (p : ExprPart). p.1) es) (each_expr es) h well_typed
node_gives (Node-F.Node::Array (Some t) es dots) span context env h well_typed = typed_has span context env t.0.1 t.1 (map (λ (p : ExprPart). p.0) es) dots (map (λ (p : ExprPart). p.1) es) t.2.1.0 (each_expr es) h well_typed
node_gives (Node-F.Node::Name name) span context env h well_typed = name_has span context name env h well_typed
node_gives (Node-F.Node::Member e a) span context env h well_typed = member_has context e a env h (limited_well_typed context.known span (member_typing context e a) well_typed)
node_gives (Node-F.Call f parametric_args es) span context env h well_typed = call_claim (kind_of_call f.name) span f parametric_args es context env h well_typed
node_gives (Node-F.Node::Tuple es) span context env h well_typed = tuple_has span context env (map (λ (p : ExprPart). p.0) es) (map (λ (p : ExprPart). p.1) es) (each_expr es) h well_typed
node_gives (Node-F.Struct name fields None) span context env h well_typed =
    struct_has span context env name (map second_of (map (λ (p : FieldPart). p.0) fields)) (map (λ (p : FieldPart). p.1) fields) None None (each_field fields) tt h well_typed
node_gives (Node-F.Struct name fields (Some rest)) span context env h well_typed =
    struct_has span context env name (map second_of (map (λ (p : FieldPart). p.0) fields)) (map (λ (p : FieldPart). p.1) fields) (Some rest.0) (Some rest.1) (each_field fields) (expr_gives rest) h well_typed
node_gives (Node-F.Block block) span context env h well_typed = block.2.1 context env h well_typed
node_gives (Node-F.If test taken other) span context env h well_typed = if_has span context env test.0 taken.0 other.0 test.1 taken.1 other.1 (expr_gives test) taken.2.1 (expr_gives other) h well_typed
node_gives (Node-F.Match e arms) span context env h well_typed =
    match_has span context env e.0 e.1 (map second_of (map (λ (p : ArmPart). p.0) arms)) (map (λ (p : ArmPart). p.1) arms) (expr_gives e) (each_arm arms) h
    (λ t v f r g. narrow_come context env t (map second_of (map (λ (p : ArmPart). p.0) arms)) (map (λ (p : ArmPart). p.1) arms) v h (each_arm arms) f r g) well_typed
node_gives (Node-F.For loop) span context env h well_typed = loop.2.1 span context env h well_typed
node_gives (Node-F.Index e place) span context env h well_typed = index_has span context env e.0 place.0 e.1 place.1 (expr_gives e) (expr_gives place) h well_typed
node_gives (Node-F.Slice e low high) span context env h well_typed = slice_has span context env e.0 low.0 high.0 e.1 low.1 high.1 (expr_gives e) (expr_gives low) (expr_gives high) h well_typed
node_gives (Node-F.Part e start t) span context env h well_typed = part_has span context env e.0 start.0 t.0.1 e.1 start.1 t.1 (expr_gives e) (expr_gives start) t.2.1.0 h well_typed
node_gives (Node-F.Field e name) span context env h well_typed = field_has span context env e.0 name e.1 (expr_gives e) h well_typed
node_gives (Node-F.Element e at k) span context env h well_typed = element_has span context env e.0 k e.1 (expr_gives e) h well_typed
node_gives (Node-F.Prefix o e) span context env h well_typed = prefix_has span context env o e.0 e.1 (expr_gives e) h well_typed
node_gives (Node-F.Cast e t) span context env h well_typed = cast_has span context env e.0 t.0.1 e.1 t.1 (expr_gives e) t.2.1.0 h well_typed
node_gives (Node-F.Binary o l r) span context env h well_typed = binary_has span context env o l.0 r.0 l.1 r.1 (expr_gives l) (expr_gives r) h well_typed

-- a number without a type alone is one
node_untyped : (x : NodeLevel Parts) (span : Span) (number : UntypedLiteral) → (den_of_node x).bare ≡ Some number → (context : TypeEnv) → (typing_of_node x span false context).ty ≡ None
node_untyped (Node-F.Node::Number n) span number e context = (n.2.1 span).untyped number e context
node_untyped (Node-F.Node::Bool bit) span number e context = none_some number e
node_untyped (Node-F.Node::Array t es dots) span number e context = none_some number e
node_untyped (Node-F.Node::Name name) span number e context = none_some number e
node_untyped (Node-F.Node::Member enum a) span number e context = none_some number e
node_untyped (Node-F.Call f parametric_args es) span number e context = none_some number e
node_untyped (Node-F.Node::Tuple es) span number e context = none_some number e
node_untyped (Node-F.Struct name fields rest) span number e context = none_some number e
node_untyped (Node-F.Block block) span number e context = none_some number e
node_untyped (Node-F.If test taken other) span number e context = none_some number e
node_untyped (Node-F.Match x arms) span number e context = none_some number e
node_untyped (Node-F.For loop) span number e context = none_some number e
node_untyped (Node-F.Index x place) span number e context = none_some number e
node_untyped (Node-F.Slice x low high) span number e context = none_some number e
node_untyped (Node-F.Part x start t) span number e context = none_some number e
node_untyped (Node-F.Field x name) span number e context = none_some number e
node_untyped (Node-F.Element x at k) span number e context = none_some number e
node_untyped (Node-F.Prefix o x) span number e context = none_some number e
node_untyped (Node-F.Cast x t) span number e context = none_some number e
node_untyped (Node-F.Binary o l r) span number e context = none_some number e

-- ---- types and patterns

type_claim : (x : TypeNodeLevel Parts) (span : Span) → TypeClaim ((expr_typing.type_node (map_type_node Parts typing (firsts typing meanings (claimed sound)) x)).1 span) (meaning.type_node (map_type_node Parts meanings (seconds typing meanings (claimed sound)) x))
type_claim (TypeNode-F.Bits signed width) span = (plain_has_den span signed width, λ context a b h well_typed. refl)
type_claim (TypeNode-F.Wide signed e) span = (wide_has_den span signed e.0 e.1 (expr_gives e), wide_alike span signed e.0 e.1 e.2.0)
type_claim TypeNode-F.TypeNode::Bool span = (plain_has_den span false 1, λ context a b h well_typed. refl)
type_claim (TypeNode-F.TypeNode::Name name) span = (name_has_den span name, name_alike span name)
type_claim (TypeNode-F.TypeNode::Tuple ts) span = (tuple_has_den span (map (λ (p : TypePart). p.0) ts) (map (λ (p : TypePart). p.1) ts) (each_type ts), tuple_alike span (map (λ (p : TypePart). p.0) ts) (map (λ (p : TypePart). p.1) ts) (each_type_alike ts))
type_claim (TypeNode-F.TypeNode::Array t e) span = (array_has_den span t.0 t.1 e.0 e.1 t.2.1.0 (expr_gives e), array_alike span t.0 t.1 e.0 e.1 t.2.1.1 e.2.0)

shape_claim : (x : ShapeLevel Parts) (span : Span) → PatternClaim ((expr_typing.shape (map_shape Parts typing (firsts typing meanings (claimed sound)) x)).1 span) (meaning.shape (map_shape Parts meanings (seconds typing meanings (claimed sound)) x))
shape_claim Shape-F.Wild span = (wild_gives, wild_alike)
shape_claim (Shape-F.Shape::Bool bit) span = (bool_pattern_gives span bit, one_value_alike span (λ context. unlimited (Some bool_type) [] [] (Some 1)) (λ context. true) (λ place env. Some (bool_value bit)) (λ context place other a b at h well_typed. refl))
shape_claim (Shape-F.Shape::Number n) span = (number_pattern_gives span (n.0.1 span) n.1.value (n.2.1 span).gives, one_value_alike span (n.0.1 span) (λ context. is_there (n.0.1 span context).ty) (λ place env. n.1.value place) (λ context place other a b at h well_typed. (n.2.1 span).alike context place other at well_typed))
shape_claim (Shape-F.Shape::Name name) span = (name_pattern_gives span name, name_pattern_alike span name)
shape_claim (Shape-F.Shape::Member e a) span = (member_pattern_gives span e a, member_alike span e a)
shape_claim (Shape-F.Shape::Tuple ps) span =
    (tuple_pattern_gives span (map (λ (p : PatternPart). p.0) ps) (map (λ (p : PatternPart). p.1) ps) (each_pattern ps), tuple_pattern_alike span (map (λ (p : PatternPart). p.0) ps) (map (λ (p : PatternPart). p.1) ps) (each_pattern_alike ps))

arm_claim : (x : ArmLevel Parts) → ArmHasValue (expr_typing.arm (map_arm Parts typing (firsts typing meanings (claimed sound)) x)).1 (meaning.arm (map_arm Parts meanings (seconds typing meanings (claimed sound)) x))
arm_claim x = record { patterns = each_pattern x.patterns; alike = each_pattern_alike x.patterns; meaning = x.value.1; value = expr_gives x.value; is = refl }

-- ---- statements and blocks

bind_claim : (x : LetLevel Parts) → StatementGives (expr_typing.bind (map_bind Parts typing (firsts typing meanings (claimed sound)) x)).1 (meaning.bind (map_bind Parts meanings (seconds typing meanings (claimed sound)) x))
bind_claim x = by_type x.ty
  where
    by_type : (o : Option TypePart)
        → StatementGives (expr_typing.bind (map_bind Parts typing (firsts typing meanings (claimed sound)) (record { span = x.span; pattern = x.pattern; ty = o; value = x.value }))).1
        (meaning.bind (map_bind Parts meanings (seconds typing meanings (claimed sound)) (record { span = x.span; pattern = x.pattern; ty = o; value = x.value })))
    by_type None = let_has (span_of x.value.0) x.value.0 x.value.1 None None x.pattern.0 x.pattern.1 (expr_gives x.value) tt x.pattern.2.1.0.keeps
    by_type (Some t) = let_has (span_of x.value.0) x.value.0 x.value.1 (Some t.0) (Some t.1) x.pattern.0 x.pattern.1 (expr_gives x.value) t.2.1.0 x.pattern.2.1.0.keeps

stmt_claim : (x : StmtLevel Parts) → StatementGives (expr_typing.stmt (map_stmt Parts typing (firsts typing meanings (claimed sound)) x)).1 (meaning.stmt (map_stmt Parts meanings (seconds typing meanings (claimed sound)) x))
stmt_claim (Stmt-F.Let l) = l.2.1
stmt_claim (Stmt-F.Bare e) = let b = bare_has e.0 e.1 (expr_gives e) in record { known = λ context. refl; keeps = b.keeps; sized = b.sized }

block_claim : (x : BlockLevel Parts) → BlockGives (expr_typing.block (map_block Parts typing (firsts typing meanings (claimed sound)) x)).1 (meaning.block (map_block Parts meanings (seconds typing meanings (claimed sound)) x))
block_claim x = by_value x.value
  where
    ss : List StatementTyping
    ss = map (λ (s : Stmt × StatementTyping). s.1) (map (λ (p : StmtPart). p.0) x.statements)

    by_value : (o : Option ExprPart)
        → BlockGives (expr_typing.block (map_block Parts typing (firsts typing meanings (claimed sound)) (record { span = x.span; statements = x.statements; value = o }))).1
        (meaning.block (map_block Parts meanings (seconds typing meanings (claimed sound)) (record { span = x.span; statements = x.statements; value = o })))
    by_value None = block_has x.span ss (map (λ (p : StmtPart). p.1) x.statements) None None (each_stmt x.statements) tt
    by_value (Some e) = block_has x.span ss (map (λ (p : StmtPart). p.1) x.statements) (Some e.0) (Some e.1) (each_stmt x.statements) (expr_gives e)

-- ---- loops, numbers and fields

loop_claim : (x : ForLevel Parts) (span : Span) → PartGives ((expr_typing.loop (map_loop Parts typing (firsts typing meanings (claimed sound)) x)).1 span) (meaning.loop (map_loop Parts meanings (seconds typing meanings (claimed sound)) x))
loop_claim x span = by_type x.ty
  where
    with_type : Option TypePart → ForLevel Parts
    with_type o = record { index = x.index; accumulator = x.accumulator; ty = o; from = x.from; to = x.to; body = x.body; start = x.start }

    by_type : (o : Option TypePart) → PartGives ((expr_typing.loop (map_loop Parts typing (firsts typing meanings (claimed sound)) (with_type o))).1 span) (meaning.loop (map_loop Parts meanings (seconds typing meanings (claimed sound)) (with_type o)))
    by_type None = λ context env h well_typed.
        loop_has span (span_of_block x.body.0) context env x.from.0 x.to.0 x.start.0 x.from.1 x.to.1 x.start.1 None None x.index.0 x.accumulator.0 x.index.1 x.accumulator.1 x.body.0 x.body.1
        (expr_gives x.from) (expr_gives x.to) (expr_gives x.start) tt x.index.2.1.0.keeps x.accumulator.2.1.0.keeps x.body.2.1 h
        (same_ends (constant_of context x.from.0).judgement.ty (constant_of context x.to.0).judgement.ty) refl well_typed
    by_type (Some t) = λ context env h well_typed.
        loop_has span (span_of_block x.body.0) context env x.from.0 x.to.0 x.start.0 x.from.1 x.to.1 x.start.1 (Some t.0) (Some t.1) x.index.0 x.accumulator.0 x.index.1 x.accumulator.1 x.body.0 x.body.1
        (expr_gives x.from) (expr_gives x.to) (expr_gives x.start) t.2.1.0 x.index.2.1.0.keeps x.accumulator.2.1.0.keeps x.body.2.1 h
        (same_ends (constant_of context x.from.0).judgement.ty (constant_of context x.to.0).judgement.ty) refl well_typed

number_claim : (x : NumberLevel Parts) (span : Span) → NumberClaim ((expr_typing.number (map_number Parts typing (firsts typing meanings (claimed sound)) x)).1 span) (meaning.number (map_number Parts meanings (seconds typing meanings (claimed sound)) x))
number_claim x span = by_type x.ty
  where
    by_type : (o : Option TypePart)
        → NumberClaim ((expr_typing.number (map_number Parts typing (firsts typing meanings (claimed sound)) (record { ty = o; is_negative = x.is_negative; value = x.value }))).1 span)
        (meaning.number (map_number Parts meanings (seconds typing meanings (claimed sound)) (record { ty = o; is_negative = x.is_negative; value = x.value })))
    by_type None = record {
      gives = λ context env h well_typed. some_fault (breaks 7 span) [] well_typed.faults;
      untyped = λ number e context. refl;
      alike = λ context a b h well_typed. refl;
    }
    by_type (Some t) = record {
      gives = number_has span t.0.1 t.1 (record { is_negative = x.is_negative; value = x.value }) t.2.1.0;
      untyped = λ number e context. none_some number e;
      alike = number_alike span t.0.1 t.1 (record { is_negative = x.is_negative; value = x.value }) t.2.1.1;
    }

field_claim : (x : FieldValueLevel Parts) → FieldGives (expr_typing.field (map_field Parts typing (firsts typing meanings (claimed sound)) x)).1 (meaning.field (map_field Parts meanings (seconds typing meanings (claimed sound)) x))
field_claim x = by_value x.value
  where
    by_value : (o : Option ExprPart)
        → FieldGives (expr_typing.field (map_field Parts typing (firsts typing meanings (claimed sound)) (record { name = x.name; value = o }))).1
        (meaning.field (map_field Parts meanings (seconds typing meanings (claimed sound)) (record { name = x.name; value = o })))
    by_value None = record {
      name = refl;
      gives = λ context struct env h well_typed.
          let j = name_typing x.name.span context x.name.name in
          let own = no_token x.name.span j in
          let a = alone_well_typed context.known x.name.span j (record { faults = (none_in own.faults _ well_typed.faults).0; reached = well_typed.reached }) in
          let g = name_has x.name.span context x.name.name env h a.well_typed in
          (g.0, a.same_type ∙ g.1, g.2, (g.3.0, a.same_size ∙ g.3.1));
    }
    by_value (Some e) = record {
      name = refl;
      gives = λ context struct env h well_typed.
          let a = alone context e.0 in
          let g = alone_has context env e.0 e.1 (expr_gives e) h (none_in a.faults _ well_typed.faults).0 well_typed.reached in
          (g.0, g.1, g.2, g.3);
    }

-- ---- the whole

pub all_keep : KeepRelated typing meanings (claimed sound) expr_typing meaning
all_keep = record {
  stmt = λ x. (link_stmt sound x, stmt_claim x);
  node = λ x. (link_node sound x, λ span. record { gives = node_gives x span; untyped = node_untyped x span });
  shape = λ x. (link_shape sound x, shape_claim x);
  type_node = λ x. (link_type_node sound x, type_claim x);
  block = λ x. (link_block sound x, block_claim x);
  bind = λ x. (link_bind sound x, bind_claim x);
  arg = λ x. (link_arg sound x, expr_gives x.value);
  arm = λ x. (link_arm sound x, arm_claim x);
  expr = λ x. (link_expr sound x, x.node.2.1 x.span);
  field = λ x. (link_field sound x, field_claim x);
  loop = λ x. (link_loop sound x, loop_claim x);
  number = λ x. (link_number sound x, number_claim x);
  pattern = λ x. (link_pattern sound x, x.shape.2.1 x.span);
  type_expr = λ x. (link_type_expr sound x, x.node.2.1 x.span);
}

-- an expression has a value of its type wherever nothing is wrong with it
pub expression_has : (e : Expr) → BlockGives (expr_pair e).1 (value_of e)
expression_has e = (related_expr typing meanings (claimed sound) expr_typing meaning all_keep e).1.gives

-- and so has a block
pub block_of_text_has : (b : Block) → BlockGives (block_pair b).1 (value_of_block b)
block_of_text_has b = (related_block typing meanings (claimed sound) expr_typing meaning all_keep b).1

-- an expression as a part of others, for what is known of constants
pub expression_gives : (e : Expr) → ExprGives (expr_pair e) (denotation e)
expression_gives e =
    let claim = related_expr typing meanings (claimed sound) expr_typing meaning all_keep e in
    record { is = claim.0; gives = claim.1.gives; untyped = claim.1.untyped }

-- so is what stands between `<` and `>`
pub argument_gives : (a : Arg) → ExprGives (arg_pair a).1 (arg_denotation a)
argument_gives a = (related_arg typing meanings (claimed sound) expr_typing meaning all_keep a).1

-- a written type means what is known of it, and is known where nothing is wrong with it
pub type_has_den : (t : TypeExpr) → TypeHasDen (type_pair t).1 (written_type t)
type_has_den t = (related_type_expr typing meanings (claimed sound) expr_typing meaning all_keep t).1.0

-- a statement, and a pattern, keep the type environment well typed
pub statement_gives : (s : Stmt) → StatementGives (paired_stmt typing_sorts typing_steps s).1 (fold_stmt meanings meaning s)
statement_gives s = (related_stmt typing meanings (claimed sound) expr_typing meaning all_keep s).1

pub pattern_gives : (p : Pattern) → PatternGives (paired_pattern typing_sorts typing_steps p).1 (pattern_denotation p)
pattern_gives p = (related_pattern typing meanings (claimed sound) expr_typing meaning all_keep p).1.0
