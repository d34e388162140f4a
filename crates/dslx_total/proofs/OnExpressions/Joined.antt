-- The induction on all sorts of parts of a tree: each part becomes something wherever nothing is wrong with it.
use Rattle.xb_span.specs.declared.span.Span.{Span}
use Rattle.std.proofs.Common.{Bool, Option, false, ◌≡◌, List, None, Some, [], map, refl, subst, sym, ◌∙◌, ◌∷◌, ◌++◌}
use Rattle.dslx_tree.proofs.Lemmas.Folds.Levels.{Carriers, Maps, trees, ArmLevel, NodeLevel, ShapeLevel, TypeNodeLevel, map_arm, map_node, map_shape, map_type_node, BlockLevel, ExprLevel, FieldValueLevel, ForLevel, LetLevel, NumberLevel, StmtLevel, map_arg, map_bind, map_block, map_expr, map_field, map_loop, map_number, map_pattern, map_stmt, map_type_expr}
use Rattle.dslx_tree.proofs.Lemmas.Folds.Folds.{Steps, fold_arg, fold_arm, fold_bind, fold_block, fold_expr, fold_field, fold_loop, fold_node, fold_number, fold_pattern, fold_shape, fold_stmt, fold_type_expr, fold_type_node, folds, fold_arg-roll, fold_arm-roll, fold_bind-roll, fold_block-roll, fold_expr-roll, fold_field-roll, fold_loop-roll, fold_node-roll, fold_number-roll, fold_pattern-roll, fold_shape-roll, fold_stmt-roll, fold_type_expr-roll, fold_type_node-roll}
use Rattle.dslx_tree.specs.declared.expr.Expr.{Expr}
use Rattle.dslx_tree.specs.declared.pattern.Pattern.{Pattern}
use Rattle.dslx_meaning.specs.Rules.NodeRules.{typing_steps, second_of, block_pair, expr_pair, type_pair}
use Rattle.dslx_meaning.specs.Rules.Typings.{TypeExprTyping, typing_sorts, StatementTyping}
use Rattle.dslx_meaning.specs.Rules.TypeEnvs.{ExprPair, TypeEnv, alone, breaks, no_token, span_of, Instance}
use Rattle.dslx_meaning.specs.declared.ty.DslxType as ty
use Rattle.dslx_total.specs.Expressions.ExprLowering.{IsWide, IsLimited, PartLowers, PatternLowers, TypeLowers, ExprLowers, WrittenLowers, reaching, LowersWhereWellTyped, TypeLowersWhereWellTyped}
use Rattle.dslx_total.proofs.OnExpressions.OfStructs.{FieldLowers, EachFieldLowers, lower_total_struct}
use Rattle.dslx_total.proofs.OnExpressions.OfPatterns.{NumberExists, EachPatternLowers, lower_total_bool_pattern, lower_total_member_pattern, lower_total_name_pattern, lower_total_number_pattern, lower_total_tuple_pattern, lower_total_wild}
use Rattle.dslx_total.proofs.OnExpressions.OfMatch.{ArmLowers, EachArmLowers, lower_total_match}
use Rattle.dslx_total.proofs.OnExpressions.OfControl.{StatementLowers, BlockLowers, EachStatementLowers, lower_total_if, lower_total_bare, lower_total_block, lower_total_let, block_lowers_to}
use Rattle.dslx_total.proofs.OnExpressions.OfCalls.{ExprGivesSome, EachNumber, lower_total_call}
use Rattle.dslx_core.specs.Lowering.Trees.{TypeLowering, lowering_sorts, lowering_steps, LoweredPair, FieldLowering, second_parts, lower_block_of_text, lower_expression, lower_type_of_text}
use Rattle.dslx_core.specs.Lowering.Patterns.{ExprLowering, ArmLowering, lower_loop}
use Rattle.dslx_core.specs.Lowering.CoreScopes.{CoreScope, bound_at, size_at, constant_at}
use Rattle.dslx_tree.specs.declared.expr.FieldValue.{FieldValue}
use Rattle.dslx_tree.specs.declared.expr.Arm.{Arm}
use Rattle.dslx_tree.specs.declared.block.Stmt.TheOpen.{Node-F, Shape-F, TypeNode-F, Stmt-F}
use Rattle.dslx_tree.specs.declared.block.Stmt.{Stmt}
use Rattle.dslx_tree.specs.declared.block.Block.{Block}
use Rattle.dslx_core.specs.Typing.Sound.Sound.{EachPatternGives, TypeHasDenIf, loop_at}
use Rattle.dslx_core.proofs.Lemmas.Typing.Sound.{alone_well_typed, block_of_text_has, expression_gives, name_has, none_in, pattern_gives, some_fault, type_has_den, HoldOn, TreeClaims, holds_block, holds_expr, holds_pattern, holds_type_expr, own_expr, held, held_tree, paired, pairing, limited_well_typed, unlimited_type}
use Rattle.dslx_meaning.specs.Rules.TypeRules.{array_of, counted_type, inner_type}
use Rattle.dslx_meaning.specs.Rules.OperatorRules.{slice_typing}
use Rattle.dslx_meaning.specs.Rules.Mentions.{AsType, is_of_use}
use Rattle.dslx_meaning.specs.Rules.ConstantRules.{count_of, constant_of}
use Rattle.dslx_meaning.specs.Meaning.{TypeDen, denotation, pattern_denotation, value_of_block, written_type}
use Rattle.dslx_meaning.specs.Lists.{and_then, with_both}
use Rattle.dslx_meaning.specs.Items.{item_named}
use Rattle.dslx_meaning.specs.Callees.{kind_of_call}
use Rattle.dslx_total.proofs.OnExpressions.OfTypes.{EachIsWide, EachTypeLowers, lower_total_array_type, array_type_wide, lower_total_bits_type, bits_type_wide, lower_total_named, named_wide, lower_total_tuple_type, tuple_type_wide, lower_total_wide, wide_wide}
use Rattle.dslx_total.proofs.OnExpressions.OfSlices.{lower_total_slice}
use Rattle.dslx_total.proofs.OnExpressions.OfOperations.{lower_total_binary, lower_total_cast, lower_total_field, lower_total_index, lower_total_part, lower_total_prefix}
use Rattle.dslx_total.proofs.OnExpressions.OfNames.{lower_total_bool, literal_typed, lower_total_member, lower_total_name, lower_total_number}
use Rattle.dslx_total.proofs.OnExpressions.OfAggregates.{lower_total_element, lower_total_tuple, lower_total_typed, lower_total_untyped}
use Rattle.dslx_total.proofs.OnExpressions.Lists.{EachExprLowers}
use Rattle.dslx_total.proofs.OnExpressions.Limits.{limited_keeps}
use Rattle.dslx_total.proofs.OnExpressions.Limited.{binary_limited, bool_limited, call_limited, cast_limited, element_limited, field_limited, if_limited, index_limited, match_limited, name_limited, part_limited, prefix_limited, slice_limited, struct_limited, tuple_limited, typed_limited, untyped_limited, block_limited, loop_limited}
use Rattle.dslx_core.specs.Lowering.Lowering.{lower_slice, lower_name}
use Rattle.dslx_core.specs.Typing.Typed.WellTyped.{types_at, IsWellTypedEnv}
use Rattle.dslx_tree.specs.declared.type_expr.TypeExpr.{TypeExpr}
use Rattle.dslx_meaning.specs.Rules.NameRules.{name_typing, member_typing}
use Rattle.dslx_meaning.specs.Rules.ControlRules.{same_ends, span_of_block}
use Rattle.dslx_meaning.specs.Rules.AggregateRules.{range_faults}
use Rattle.dslx_meaning.specs.declared.value.UntypedLiteral.{UntypedLiteral}
use Rattle.dslx_meaning.specs.Values.{bits_of}
use Rattle.dslx_meaning.specs.Environment.{value_of_name, Env}
use Rattle.dslx_total.proofs.OnExpressions.Parts.{alone_lowers_to, becomes, well_typed_there, type_lowers_to, within_lowers_to, LowersTo, LowersToType}
use Rattle.dslx_total.proofs.OnExpressions.OfLoops.{lower_total_loop}
use Rattle.dslx_core.specs.Typing.Typed.Complete.{IsWellTypedPart}
use Rattle.dslx_total.specs.Expressions.Beside.{ScopeMatchesEnv}

-- ---- what parts come to, and what they become

abbrev pub seen : Carriers
seen = paired typing_sorts

abbrev pub seeing : Steps seen
seeing = pairing typing_sorts typing_steps

abbrev pub become : Carriers
become = paired lowering_sorts

abbrev pub becoming : Steps become
becoming = pairing lowering_sorts lowering_steps

-- ---- what is to hold of each sort

-- a part becomes something of its type, and keeps the limits
pub record PartClaim (j : TypeExprTyping) (l : ExprLowering) : Type 0 where
  pub lowers : PartLowers j l
  pub limited : IsLimited j

pub record TypeClaim (j : TypeExprTyping) (l : TypeLowering) : Type 0 where
  pub lowers : TypeLowers j l
  pub wide : IsWide j

pub record ArgClaim (e : ExprPair) (l : Expr) : Type 0 where
  pub same : e.0 ≡ l
  pub gives : ExprGivesSome e

abbrev lowers_to_something : TreeClaims
lowers_to_something = record {
  stmt = λ x. StatementLowers (fold_stmt seen seeing x).1 (fold_stmt become becoming x).1;
  node = λ x. (span : Span) → PartClaim ((fold_node seen seeing x).1 span false) (fold_node become becoming x).1;
  shape = λ x. (span : Span) → PatternLowers ((fold_shape seen seeing x).1 span) (fold_shape become becoming x).1;
  type_node = λ x. (span : Span) → TypeClaim ((fold_type_node seen seeing x).1 span) (fold_type_node become becoming x).1;
  block = λ x. PartClaim ((fold_block seen seeing x).1 false) (fold_block become becoming x).1;
  bind = λ x. StatementLowers (fold_bind seen seeing x).1 (fold_bind become becoming x).1;
  arg = λ x. ArgClaim (fold_arg seen seeing x).1 (fold_arg become becoming x).1;
  arm = λ x. ArmLowers (fold_arm seen seeing x).1 (fold_arm become becoming x).1;
  expr = λ x. PartClaim ((fold_expr seen seeing x).1 false) (fold_expr become becoming x).1;
  field = λ x. FieldLowers (fold_field seen seeing x).1 (fold_field become becoming x).1;
  loop = λ x. (span : Span) → PartClaim ((fold_loop seen seeing x).1 span) (fold_loop become becoming x).1;
  number = λ x. (span : Span) → NumberExists ((fold_number seen seeing x).1 span) (fold_number become becoming x).1;
  pattern = λ x. PatternLowers (fold_pattern seen seeing x).1 (fold_pattern become becoming x).1;
  type_expr = λ x. TypeClaim (fold_type_expr seen seeing x).1 (fold_type_expr become becoming x).1;
}

abbrev Held : Carriers
Held = held lowers_to_something

abbrev tree : Maps Held trees
tree = held_tree lowers_to_something

abbrev ExprPart : Type 0
ExprPart = Held.expr

abbrev TypePart : Type 0
TypePart = Held.type_expr

abbrev PatternPart : Type 0
PatternPart = Held.pattern

abbrev ArgPart : Type 0
ArgPart = Held.arg

abbrev ArmPart : Type 0
ArmPart = Held.arm

abbrev FieldPart : Type 0
FieldPart = Held.field

abbrev StmtPart : Type 0
StmtPart = Held.stmt

-- ---- parts

same_tree : (x : Expr) → (fold_expr seen seeing x).0 ≡ (fold_expr become becoming x).0
same_tree x = own_expr typing_sorts typing_steps x ∙ sym (own_expr lowering_sorts lowering_steps x)

expr_part : (p : ExprPart) → ExprLowers (fold_expr seen seeing p.0) (fold_expr become becoming p.0).1
expr_part p = let c = p.1 in record { meaning = denotation p.0; gives = expression_gives p.0; lowers = c.lowers; limited = c.limited }

block_part : (p : Held.block) → BlockLowers (fold_block seen seeing p.0).1 (fold_block become becoming p.0).1
block_part p = let c = p.1 in record { meaning = value_of_block p.0; gives = block_of_text_has p.0; lowers = c.lowers; limited = c.limited }

type_part : (p : TypePart) → WrittenLowers (fold_type_expr seen seeing p.0).1 (fold_type_expr become becoming p.0).1
type_part p = let c = p.1 in record { meaning = written_type p.0; stands = type_has_den p.0; lowers = c.lowers; wide = c.wide }

-- ---- lists of parts

abbrev exprs_seen : List ExprPart → List ExprPair
exprs_seen ps = map (fold_expr seen seeing) (map (λ (p : ExprPart). p.0) ps)

abbrev exprs_become : List ExprPart → List LoweredPair
exprs_become ps = map (fold_expr become becoming) (map (λ (p : ExprPart). p.0) ps)

each_expr : (ps : List ExprPart) → EachExprLowers (exprs_seen ps) (exprs_become ps)
each_expr [] = tt
each_expr (p ∷ ps) = (same_tree p.0, expr_part p, each_expr ps)

each_number : (ps : List ArgPart) → EachNumber (map (fold_arg seen seeing) (map (λ (p : ArgPart). p.0) ps)) (map (fold_arg become becoming) (map (λ (p : ArgPart). p.0) ps))
each_number [] = tt
each_number (p ∷ ps) =
    let c = p.1 in
    (c.same, c.gives, each_number ps)

each_field : (ps : List FieldPart) → EachFieldLowers (map second_of (map (fold_field seen seeing) (map (λ (p : FieldPart). p.0) ps))) (map (λ (f : FieldValue × FieldLowering). f.1) (map (fold_field become becoming) (map (λ (p : FieldPart). p.0) ps)))
each_field [] = tt
each_field (p ∷ ps) = (p.1, each_field ps)

each_arm : (ps : List ArmPart) → EachArmLowers (map second_of (map (fold_arm seen seeing) (map (λ (p : ArmPart). p.0) ps))) (map (λ (a : Arm × ArmLowering). a.1) (map (fold_arm become becoming) (map (λ (p : ArmPart). p.0) ps)))
each_arm [] = tt
each_arm (p ∷ ps) = (p.1, each_arm ps)

each_pattern : (ps : List PatternPart) → EachPatternLowers (map (fold_pattern seen seeing) (map (λ (p : PatternPart). p.0) ps)) (second_parts (map (fold_pattern become becoming) (map (λ (p : PatternPart). p.0) ps)))
each_pattern [] = tt
each_pattern (p ∷ ps) = (p.1, each_pattern ps)

each_pattern_gives : (ps : List PatternPart) → EachPatternGives (map (fold_pattern seen seeing) (map (λ (p : PatternPart). p.0) ps)) (map (λ (p : PatternPart). pattern_denotation p.0) ps)
each_pattern_gives [] = tt
each_pattern_gives (p ∷ ps) = (pattern_gives p.0, each_pattern_gives ps)

each_type : (ps : List TypePart) → EachTypeLowers (map (fold_type_expr seen seeing) (map (λ (p : TypePart). p.0) ps)) (map (fold_type_expr become becoming) (map (λ (p : TypePart). p.0) ps))
each_type [] = tt
each_type (p ∷ ps) = (p.1.lowers, each_type ps)

each_type_wide : (ps : List TypePart) → EachIsWide (map (fold_type_expr seen seeing) (map (λ (p : TypePart). p.0) ps))
each_type_wide [] = tt
each_type_wide (p ∷ ps) = (p.1.wide, each_type_wide ps)

each_stmt : (ps : List StmtPart) → EachStatementLowers (map (λ (s : Stmt × StatementTyping). s.1) (map (fold_stmt seen seeing) (map (λ (p : StmtPart). p.0) ps))) (map (λ (s : Stmt × (ExprLowering → ExprLowering)). s.1) (map (fold_stmt become becoming) (map (λ (p : StmtPart). p.0) ps)))
each_stmt [] = tt
each_stmt (p ∷ ps) = (p.1, each_stmt ps)

-- ---- expressions

node_claim : (y : NodeLevel Held) → (span : Span)
    → PartClaim ((seeing.node (map_node trees seen (folds seen seeing) (map_node Held trees tree y))).1 span false) (becoming.node (map_node trees become (folds become becoming) (map_node Held trees tree y))).1
node_claim (Node-F.Node::Number n) span =
    let c = n.1 span in
    let j = (fold_number seen seeing n.0).1 span in
    record {
      lowers = λ here context env scope h at well_typed.
          literal_typed ((fold_number become becoming n.0).1 scope) ∙ c.lowers here context env scope h at (limited_well_typed (reaching context.known here) span (j context) well_typed);
      limited = λ context. limited_keeps span (j context);
    }
node_claim (Node-F.Node::Bool b) span = record { lowers = lower_total_bool span b; limited = bool_limited span }
node_claim (Node-F.Node::Array None es dots) span = record { lowers = lower_total_untyped span (exprs_seen es) dots (exprs_become es) (each_expr es); limited = untyped_limited span (exprs_seen es) dots }
node_claim (Node-F.Node::Array (Some t) es dots) span =
    record {
      lowers = lower_total_typed span (fold_type_expr seen seeing t.0).1 (fold_type_expr become becoming t.0).1 (exprs_seen es) dots (exprs_become es) (type_part t) (each_expr es);
      limited = typed_limited span (fold_type_expr seen seeing t.0).1 (exprs_seen es) dots;
    }
node_claim (Node-F.Node::Name name) span = record { lowers = lower_total_name span name; limited = name_limited span name }
node_claim (Node-F.Node::Member e a) span = record { lowers = lower_total_member span e a; limited = λ context. limited_keeps span (member_typing context e a) }
node_claim (Node-F.Call f parametric_args es) span =
    let as' = map (fold_arg seen seeing) (map (λ (p : ArgPart). p.0) parametric_args) in
    record {
      lowers = lower_total_call (kind_of_call f.name) span f as' (map (fold_arg become becoming) (map (λ (p : ArgPart). p.0) parametric_args)) (exprs_seen es) (exprs_become es) (each_number parametric_args) (each_expr es);
      limited = call_limited (kind_of_call f.name) span f as' (exprs_seen es);
    }
node_claim (Node-F.Node::Tuple es) span = record { lowers = lower_total_tuple span (exprs_seen es) (exprs_become es) (each_expr es); limited = tuple_limited span (exprs_seen es) }
node_claim (Node-F.Struct name fields None) span =
    let fs = map second_of (map (fold_field seen seeing) (map (λ (p : FieldPart). p.0) fields)) in
    record {
      lowers = lower_total_struct span name fs (map (λ (f : FieldValue × FieldLowering). f.1) (map (fold_field become becoming) (map (λ (p : FieldPart). p.0) fields))) None None (each_field fields) tt;
      limited = struct_limited span name fs None;
    }
node_claim (Node-F.Struct name fields (Some rest)) span =
    let fs = map second_of (map (fold_field seen seeing) (map (λ (p : FieldPart). p.0) fields)) in
    record {
      lowers = lower_total_struct span name fs (map (λ (f : FieldValue × FieldLowering). f.1) (map (fold_field become becoming) (map (λ (p : FieldPart). p.0) fields))) (Some (fold_expr seen seeing rest.0))
          (Some (fold_expr become becoming rest.0)) (each_field fields) (expr_part rest);
      limited = struct_limited span name fs (Some (fold_expr seen seeing rest.0));
    }
node_claim (Node-F.Block block) span = let c = block.1 in record { lowers = c.lowers; limited = c.limited }
node_claim (Node-F.If test taken other) span =
    record {
      lowers = lower_total_if span (fold_expr seen seeing test.0) (fold_block seen seeing taken.0) (fold_expr seen seeing other.0) (fold_expr become becoming test.0).1 (fold_block become becoming taken.0).1 (fold_expr become becoming other.0).1
          (expr_part test) (block_part taken) (expr_part other);
      limited = if_limited span (fold_expr seen seeing test.0) (fold_block seen seeing taken.0) (fold_expr seen seeing other.0);
    }
node_claim (Node-F.Match e arms) span =
    let as' = map second_of (map (fold_arm seen seeing) (map (λ (p : ArmPart). p.0) arms)) in
    record {
      lowers = lower_total_match span (fold_expr seen seeing e.0) as' (fold_expr become becoming e.0).1 (map (λ (a : Arm × ArmLowering). a.1) (map (fold_arm become becoming) (map (λ (p : ArmPart). p.0) arms))) (expr_part e) (each_arm arms);
      limited = match_limited span (fold_expr seen seeing e.0) as';
    }
node_claim (Node-F.For loop) span = let c = loop.1 span in record { lowers = c.lowers; limited = c.limited }
node_claim (Node-F.Index e i) span =
    record {
      lowers = lower_total_index span (fold_expr seen seeing e.0) (fold_expr seen seeing i.0) (fold_expr become becoming e.0).1 (fold_expr become becoming i.0).1 (expr_part e) (expr_part i);
      limited = index_limited span (fold_expr seen seeing e.0) (fold_expr seen seeing i.0);
    }
node_claim (Node-F.Slice e low high) span =
    let typing : TypeExprTyping = λ context. slice_typing span context (fold_expr seen seeing e.0) (fold_expr seen seeing low.0) (fold_expr seen seeing high.0) in
    record {
      lowers = subst (λ t. PartLowers typing (λ scope. lower_slice ((fold_expr become becoming e.0).1 scope) (bound_at scope (fold_expr become becoming low.0).0) (bound_at scope t))) (same_tree high.0)
          (subst (λ t. PartLowers typing (λ scope. lower_slice ((fold_expr become becoming e.0).1 scope) (bound_at scope t) (bound_at scope (fold_expr seen seeing high.0).0))) (same_tree low.0)
          (lower_total_slice span (fold_expr seen seeing e.0) (fold_expr seen seeing low.0) (fold_expr seen seeing high.0) (fold_expr become becoming e.0).1 (fold_expr become becoming low.0).1 (fold_expr become becoming high.0).1
          (expr_part e) (expr_part low) (expr_part high)));
      limited = slice_limited span (fold_expr seen seeing e.0) (fold_expr seen seeing low.0) (fold_expr seen seeing high.0);
    }
node_claim (Node-F.Part e start t) span =
    record {
      lowers = lower_total_part span (fold_expr seen seeing e.0) (fold_expr seen seeing start.0) (fold_type_expr seen seeing t.0).1 (fold_expr become becoming e.0).1 (fold_expr become becoming start.0).1 (fold_type_expr become becoming t.0).1
          (expr_part e) (expr_part start) (type_part t);
      limited = part_limited span (fold_expr seen seeing e.0) (fold_expr seen seeing start.0) (fold_type_expr seen seeing t.0).1;
    }
node_claim (Node-F.Field e name) span = record { lowers = lower_total_field span (fold_expr seen seeing e.0) name (fold_expr become becoming e.0).1 (expr_part e); limited = field_limited span (fold_expr seen seeing e.0) name }
node_claim (Node-F.Element e at k) span = record { lowers = lower_total_element span (fold_expr seen seeing e.0) k (fold_expr become becoming e.0).1 (expr_part e); limited = element_limited span (fold_expr seen seeing e.0) k }
node_claim (Node-F.Prefix o e) span = record { lowers = lower_total_prefix span o (fold_expr seen seeing e.0) (fold_expr become becoming e.0).1 (expr_part e); limited = prefix_limited span (fold_expr seen seeing e.0) }
node_claim (Node-F.Cast e t) span =
    record {
      lowers = lower_total_cast span (fold_expr seen seeing e.0) (fold_type_expr seen seeing t.0).1 (fold_expr become becoming e.0).1 (fold_type_expr become becoming t.0).1 (expr_part e) (type_part t);
      limited = cast_limited span (fold_expr seen seeing e.0) (fold_type_expr seen seeing t.0).1;
    }
node_claim (Node-F.Binary o l r) span =
    record {
      lowers = lower_total_binary span o (fold_expr seen seeing l.0) (fold_expr seen seeing r.0) (fold_expr become becoming l.0).1 (fold_expr become becoming r.0).1 (expr_part l) (expr_part r);
      limited = binary_limited span o (fold_expr seen seeing l.0) (fold_expr seen seeing r.0);
    }

-- ---- types and patterns

type_claim : (y : TypeNodeLevel Held) → (span : Span)
    → TypeClaim ((seeing.type_node (map_type_node trees seen (folds seen seeing) (map_type_node Held trees tree y))).1 span) (becoming.type_node (map_type_node trees become (folds become becoming) (map_type_node Held trees tree y))).1
type_claim (TypeNode-F.Bits s n) span = record { lowers = lower_total_bits_type span s n; wide = bits_type_wide span s n }
type_claim (TypeNode-F.Wide s e) span =
    let p = fold_expr seen seeing e.0 in
    record {
      lowers = subst (λ t. TypeLowers (λ context. counted_type span (and_then (count_of context p).count (λ w. Some (ty.Bits s w))) [] (count_of context p)) (λ scope. and_then (size_at scope t) (λ w. Some (ty.Bits s w)))) (same_tree e.0)
          (lower_total_wide span s p (denotation e.0) (expression_gives e.0));
      wide = wide_wide span s p;
    }
type_claim TypeNode-F.TypeNode::Bool span = record { lowers = lower_total_bits_type span false 1; wide = bits_type_wide span false 1 }
type_claim (TypeNode-F.TypeNode::Name name) span =
    let named = λ (context : TypeEnv). is_of_use AsType (item_named name context.known.whole.items) in
    record { lowers = lower_total_named span name named; wide = named_wide span name named }
type_claim (TypeNode-F.TypeNode::Tuple ts) span =
    let ps = map (fold_type_expr seen seeing) (map (λ (p : TypePart). p.0) ts) in
    record { lowers = lower_total_tuple_type span ps (map (fold_type_expr become becoming) (map (λ (p : TypePart). p.0) ts)) (each_type ts); wide = tuple_type_wide span ps (each_type_wide ts) }
type_claim (TypeNode-F.TypeNode::Array t e) span =
    let p = fold_type_expr seen seeing t.0 in
    let n = fold_expr seen seeing e.0 in
    record {
      lowers = subst (λ x. TypeLowers (λ context. array_of span (inner_type context p) (count_of context n)) (λ scope. with_both ((fold_type_expr become becoming t.0).1 scope) (size_at scope x) (λ t n. Some (ty.Array t n)))) (same_tree e.0)
          (lower_total_array_type span p (fold_type_expr become becoming t.0).1 n (denotation e.0) t.1.lowers (expression_gives e.0));
      wide = array_type_wide span p n t.1.wide;
    }

shape_claim : (y : ShapeLevel Held) → (span : Span)
    → PatternLowers ((seeing.shape (map_shape trees seen (folds seen seeing) (map_shape Held trees tree y))).1 span) (becoming.shape (map_shape trees become (folds become becoming) (map_shape Held trees tree y))).1
shape_claim Shape-F.Wild span = lower_total_wild
shape_claim (Shape-F.Shape::Bool b) span = lower_total_bool_pattern span b
shape_claim (Shape-F.Shape::Number n) span = lower_total_number_pattern span ((fold_number seen seeing n.0).1 span) (fold_number become becoming n.0).1 (n.1 span)
shape_claim (Shape-F.Shape::Name name) span = lower_total_name_pattern span name
shape_claim (Shape-F.Shape::Member e a) span = lower_total_member_pattern span e a
shape_claim (Shape-F.Shape::Tuple ps) span =
    lower_total_tuple_pattern span (map (fold_pattern seen seeing) (map (λ (p : PatternPart). p.0) ps)) (second_parts (map (fold_pattern become becoming) (map (λ (p : PatternPart). p.0) ps))) (each_pattern ps)

arm_claim : (y : ArmLevel Held)
    → ArmLowers (seeing.arm (map_arm trees seen (folds seen seeing) (map_arm Held trees tree y))).1 (becoming.arm (map_arm trees become (folds become becoming) (map_arm Held trees tree y))).1
arm_claim y = record { patterns = each_pattern y.patterns; meanings = map (λ (p : PatternPart). pattern_denotation p.0) y.patterns; give = each_pattern_gives y.patterns; value = expr_part y.value }

-- ---- statements and blocks

bind_claim : (y : LetLevel Held)
    → StatementLowers (seeing.bind (map_bind trees seen (folds seen seeing) (map_bind Held trees tree y))).1 (becoming.bind (map_bind trees become (folds become becoming) (map_bind Held trees tree y))).1
bind_claim y = by_type y.ty
  where
    with_type : Option TypePart → LetLevel Held
    with_type o = record { span = y.span; pattern = y.pattern; ty = o; value = y.value }

    by_type : (o : Option TypePart) → StatementLowers (seeing.bind (map_bind trees seen (folds seen seeing) (map_bind Held trees tree (with_type o)))).1 (becoming.bind (map_bind trees become (folds become becoming) (map_bind Held trees tree (with_type o)))).1
    by_type None =
        lower_total_let (span_of (fold_expr seen seeing y.value.0)) (fold_expr seen seeing y.value.0) (fold_expr become becoming y.value.0).1 None None (fold_pattern seen seeing y.pattern.0) (fold_pattern become becoming y.pattern.0).1
        (pattern_denotation y.pattern.0) (expr_part y.value) tt y.pattern.1 (pattern_gives y.pattern.0)
    by_type (Some t) =
        lower_total_let (span_of (fold_expr seen seeing y.value.0)) (fold_expr seen seeing y.value.0) (fold_expr become becoming y.value.0).1 (Some (fold_type_expr seen seeing t.0)) (Some (written_type t.0)) (fold_pattern seen seeing y.pattern.0)
        (fold_pattern become becoming y.pattern.0).1 (pattern_denotation y.pattern.0) (expr_part y.value) (type_has_den t.0) y.pattern.1 (pattern_gives y.pattern.0)

stmt_claim : (y : StmtLevel Held)
    → StatementLowers (seeing.stmt (map_stmt trees seen (folds seen seeing) (map_stmt Held trees tree y))).1 (becoming.stmt (map_stmt trees become (folds become becoming) (map_stmt Held trees tree y))).1
stmt_claim (Stmt-F.Let l) = l.1
stmt_claim (Stmt-F.Bare e) = record { lowers = (lower_total_bare (fold_expr seen seeing e.0)).lowers }

block_claim : (y : BlockLevel Held)
    → PartClaim ((seeing.block (map_block trees seen (folds seen seeing) (map_block Held trees tree y))).1 false) (becoming.block (map_block trees become (folds become becoming) (map_block Held trees tree y))).1
block_claim y = by_value y.value
  where
    with_value : Option ExprPart → BlockLevel Held
    with_value o = record { span = y.span; statements = y.statements; value = o }

    ss : List StatementTyping
    ss = map (λ (s : Stmt × StatementTyping). s.1) (map (fold_stmt seen seeing) (map (λ (p : StmtPart). p.0) y.statements))

    ls : List (ExprLowering → ExprLowering)
    ls = map (λ (s : Stmt × (ExprLowering → ExprLowering)). s.1) (map (fold_stmt become becoming) (map (λ (p : StmtPart). p.0) y.statements))

    by_value : (o : Option ExprPart)
        → PartClaim ((seeing.block (map_block trees seen (folds seen seeing) (map_block Held trees tree (with_value o)))).1 false) (becoming.block (map_block trees become (folds become becoming) (map_block Held trees tree (with_value o)))).1
    by_value None = record { lowers = lower_total_block y.span ss ls None None (each_stmt y.statements) tt; limited = block_limited y.span ss None }
    by_value (Some e) =
        record {
          lowers = lower_total_block y.span ss ls (Some (fold_expr seen seeing e.0)) (Some (fold_expr become becoming e.0)) (each_stmt y.statements) (expr_part e);
          limited = block_limited y.span ss (Some (fold_expr seen seeing e.0));
        }

-- ---- loops

loop_claim : (y : ForLevel Held) → (span : Span)
    → PartClaim ((seeing.loop (map_loop trees seen (folds seen seeing) (map_loop Held trees tree y))).1 span) (becoming.loop (map_loop trees become (folds become becoming) (map_loop Held trees tree y))).1
loop_claim y span = by_type y.ty
  where
    with_type : Option TypePart → ForLevel Held
    with_type o = record { index = y.index; accumulator = y.accumulator; ty = o; from = y.from; to = y.to; body = y.body; start = y.start }

    claim : (o : Option TypePart) (g : Option TypeDen) → TypeHasDenIf (map_loop trees seen (folds seen seeing) (map_loop Held trees tree (with_type o))).ty g
        → PartClaim ((seeing.loop (map_loop trees seen (folds seen seeing) (map_loop Held trees tree (with_type o)))).1 span) (becoming.loop (map_loop trees become (folds become becoming) (map_loop Held trees tree (with_type o)))).1
    claim o g stands =
        let from = fold_expr seen seeing y.from.0 in
        let to = fold_expr seen seeing y.to.0 in
        let start = fold_expr seen seeing y.start.0 in
        let index = fold_pattern seen seeing y.index.0 in
        let acc = fold_pattern seen seeing y.accumulator.0 in
        let body = fold_block seen seeing y.body.0 in
        let written = (map_loop trees seen (folds seen seeing) (map_loop Held trees tree (with_type o))).ty in
        let typing : TypeExprTyping = (seeing.loop (map_loop trees seen (folds seen seeing) (map_loop Held trees tree (with_type o)))).1 span in
        let lower_from = fold_expr become becoming y.from.0 in
        let lower_start = fold_expr become becoming y.start.0 in
        let il = (fold_pattern become becoming y.index.0).1 in
        let al = (fold_pattern become becoming y.accumulator.0).1 in
        let bl = (fold_block become becoming y.body.0).1 in
        record {
          lowers = subst (λ u. PartLowers typing (λ scope. lower_loop (lower_start.1 scope) (lower_from.1 scope) (and_then (constant_at scope lower_from.0) bits_of) (and_then (constant_at scope u) bits_of) il al bl scope)) (same_tree y.to.0)
              (subst (λ u. PartLowers typing (λ scope. lower_loop (lower_start.1 scope) (lower_from.1 scope) (and_then (constant_at scope u) bits_of) (and_then (constant_at scope to.0) bits_of) il al bl scope)) (same_tree y.from.0)
              (lower_total_loop span (span_of_block body) from to start lower_from.1 (fold_expr become becoming y.to.0).1 lower_start.1 written g index acc il al (pattern_denotation y.index.0) (pattern_denotation y.accumulator.0) body bl
              (expr_part y.from) (expr_part y.to) (expr_part y.start) stands y.index.1 y.accumulator.1 (pattern_gives y.index.0) (pattern_gives y.accumulator.0) (block_part y.body)));
          limited = loop_limited span (span_of_block body) (λ context. loop_at context from to start written index acc body (same_ends (constant_of context from).judgement.ty (constant_of context to).judgement.ty));
        }

    by_type : (o : Option TypePart) → PartClaim ((seeing.loop (map_loop trees seen (folds seen seeing) (map_loop Held trees tree (with_type o)))).1 span) (becoming.loop (map_loop trees become (folds become becoming) (map_loop Held trees tree (with_type o)))).1
    by_type None = claim None None tt
    by_type (Some t) = claim (Some t) (Some (written_type t.0)) (type_has_den t.0)

-- ---- numbers and fields

number_claim : (y : NumberLevel Held) → (span : Span)
    → NumberExists ((seeing.number (map_number trees seen (folds seen seeing) (map_number Held trees tree y))).1 span) (becoming.number (map_number trees become (folds become becoming) (map_number Held trees tree y))).1
number_claim y span = by_type y.ty
  where
    number : UntypedLiteral
    number = record { is_negative = y.is_negative; value = y.value }

    with_type : Option TypePart → NumberLevel Held
    with_type o = record { ty = o; is_negative = y.is_negative; value = y.value }

    by_type : (o : Option TypePart)
        → NumberExists ((seeing.number (map_number trees seen (folds seen seeing) (map_number Held trees tree (with_type o)))).1 span) (becoming.number (map_number trees become (folds become becoming) (map_number Held trees tree (with_type o)))).1
    by_type None = record {
      lowers = λ here context env scope h at well_typed. refl;
      known = λ here context env scope h at well_typed. some_fault (breaks 7 span) [] well_typed.faults;
    }
    by_type (Some t) =
        let part = type_part t in
        let j = (fold_type_expr seen seeing t.0).1 in
        record {
          lowers = lower_total_number span j (fold_type_expr become becoming t.0).1 number part;
          known = λ here context env scope h at well_typed.
              let wrong = range_faults span (j context).ty number in
              let t = type_lowers_to here context env scope j _ part h at (record { faults = (none_in (j context).faults wrong well_typed.faults).0; reached = well_typed.reached }) in
              (t.ty, unlimited_type (j context).ty ((j context).faults ++ wrong) (j context).reached (Some 1) well_typed.faults ∙ t.typed, t.declared);
        }

field_claim : (y : FieldValueLevel Held)
    → FieldLowers (seeing.field (map_field trees seen (folds seen seeing) (map_field Held trees tree y))).1 (becoming.field (map_field trees become (folds become becoming) (map_field Held trees tree y))).1
field_claim y = by_value y.value
  where
    with_value : Option ExprPart → FieldValueLevel Held
    with_value o = record { name = y.name; value = o }

    by_value : (o : Option ExprPart)
        → FieldLowers (seeing.field (map_field trees seen (folds seen seeing) (map_field Held trees tree (with_value o)))).1 (becoming.field (map_field trees become (folds become becoming) (map_field Held trees tree (with_value o)))).1
    by_value None = record {
      name = refl;
      lowers = λ here context struct env scope h at well_typed.
          let j = name_typing y.name.span context y.name.name in
          let own = no_token y.name.span j in
          let a = alone_well_typed (reaching context.known here) y.name.span j (record { faults = (none_in own.faults _ well_typed.faults).0; reached = well_typed.reached }) in
          let g = name_has y.name.span context y.name.name env h (well_typed_there here context scope j at a.well_typed) in
          let b = becomes (types_at context) j (lower_name y.name.name scope) (value_of_name y.name.name env) g.0 g.1 g.2 (lower_total_name y.name.span y.name.name here context env scope h at a.well_typed)
          (name_limited y.name.span y.name.name context a.well_typed.faults g.0 g.1) in
          record { expr = b.expr; is = b.is; typed = a.same_type ∙ b.typed; declared = b.declared; value = b.value; given = b.given; narrow = b.narrow };
    }
    by_value (Some e) = record {
      name = refl;
      lowers = λ here context struct env scope h at well_typed.
          let a = alone context (fold_expr seen seeing e.0) in
          let b = alone_lowers_to here context env scope (fold_expr seen seeing e.0) (fold_expr become becoming e.0).1 (expr_part e) h at (none_in a.faults _ well_typed.faults).0 well_typed.reached in
          record { expr = b.expr; is = b.is; typed = b.typed; declared = b.declared; value = b.value; given = b.given; narrow = b.narrow };
    }

-- ---- the whole

-- what holds between two holds between what is the same
moved : {A B : Type 0} (R : A → B → Type 0) {a a' : A} {b b' : B} → a ≡ a' → b ≡ b' → R a' b' → R a b
moved R {a' = a'} {b = b} e f h = subst (λ x. R x b) (sym e) (subst (λ y. R a' y) (sym f) h)

all_become : HoldOn lowers_to_something
all_become = record {
  stmt = λ y. moved (λ p q. StatementLowers p.1 q.1) (fold_stmt-roll seen seeing (map_stmt Held trees tree y)) (fold_stmt-roll become becoming (map_stmt Held trees tree y)) (stmt_claim y);
  node = λ y span. moved (λ p q. PartClaim (p.1 span false) q.1) (fold_node-roll seen seeing (map_node Held trees tree y)) (fold_node-roll become becoming (map_node Held trees tree y)) (node_claim y span);
  shape = λ y span. moved (λ p q. PatternLowers (p.1 span) q.1) (fold_shape-roll seen seeing (map_shape Held trees tree y)) (fold_shape-roll become becoming (map_shape Held trees tree y)) (shape_claim y span);
  type_node = λ y span. moved (λ p q. TypeClaim (p.1 span) q.1) (fold_type_node-roll seen seeing (map_type_node Held trees tree y)) (fold_type_node-roll become becoming (map_type_node Held trees tree y)) (type_claim y span);
  block = λ y. moved (λ p q. PartClaim (p.1 false) q.1) (fold_block-roll seen seeing (map_block Held trees tree y)) (fold_block-roll become becoming (map_block Held trees tree y)) (block_claim y);
  bind = λ y. moved (λ p q. StatementLowers p.1 q.1) (fold_bind-roll seen seeing (map_bind Held trees tree y)) (fold_bind-roll become becoming (map_bind Held trees tree y)) (bind_claim y);
  arg = λ y. moved (λ p q. ArgClaim p.1 q.1) (fold_arg-roll seen seeing (map_arg Held trees tree y)) (fold_arg-roll become becoming (map_arg Held trees tree y)) (record { same = same_tree y.value.0; gives = (denotation y.value.0, expression_gives y.value.0) });
  arm = λ y. moved (λ p q. ArmLowers p.1 q.1) (fold_arm-roll seen seeing (map_arm Held trees tree y)) (fold_arm-roll become becoming (map_arm Held trees tree y)) (arm_claim y);
  expr = λ y. moved (λ p q. PartClaim (p.1 false) q.1) (fold_expr-roll seen seeing (map_expr Held trees tree y)) (fold_expr-roll become becoming (map_expr Held trees tree y)) (expr_claim y);
  field = λ y. moved (λ p q. FieldLowers p.1 q.1) (fold_field-roll seen seeing (map_field Held trees tree y)) (fold_field-roll become becoming (map_field Held trees tree y)) (field_claim y);
  loop = λ y span. moved (λ p q. PartClaim (p.1 span) q.1) (fold_loop-roll seen seeing (map_loop Held trees tree y)) (fold_loop-roll become becoming (map_loop Held trees tree y)) (loop_claim y span);
  number = λ y span. moved (λ p q. NumberExists (p.1 span) q.1) (fold_number-roll seen seeing (map_number Held trees tree y)) (fold_number-roll become becoming (map_number Held trees tree y)) (number_claim y span);
  pattern = λ y. moved (λ p q. PatternLowers p.1 q.1) (fold_pattern-roll seen seeing (map_pattern Held trees tree y)) (fold_pattern-roll become becoming (map_pattern Held trees tree y)) (y.shape.1 y.span);
  type_expr = λ y. moved (λ p q. TypeClaim p.1 q.1) (fold_type_expr-roll seen seeing (map_type_expr Held trees tree y)) (fold_type_expr-roll become becoming (map_type_expr Held trees tree y)) (y.node.1 y.span);
}
  where
    expr_claim : (y : ExprLevel Held) → PartClaim ((fold_node seen seeing y.node.0).1 y.span false) (fold_node become becoming y.node.0).1
    expr_claim y = y.node.1 y.span

pub expression_part : (e : Expr) → ExprLowers (expr_pair e) (lower_expression e)
expression_part e = expr_part (e, holds_expr lowers_to_something all_become e)

pub pattern_part : (p : Pattern) → PatternLowers (fold_pattern seen seeing p).1 (fold_pattern become becoming p).1
pattern_part = holds_pattern lowers_to_something all_become

-- whole parts, with what else is known of what they become
pub block_part_lowers_to : (here : Instance → Bool) (context : TypeEnv) (env : Env) (scope : CoreScope) (b : Block) → IsWellTypedEnv context env → ScopeMatchesEnv here context scope
    → IsWellTypedPart (reaching context.known here) ((block_pair b).1 false context) → LowersTo (types_at context) ((block_pair b).1 false context) (lower_block_of_text b scope)
block_part_lowers_to here context env scope b h at well_typed = block_lowers_to here context env scope (block_pair b).1 (lower_block_of_text b) (block_part (b, holds_block lowers_to_something all_become b)) h at well_typed

pub type_part_lowers_to : (here : Instance → Bool) (context : TypeEnv) (env : Env) (scope : CoreScope) (t : TypeExpr) → IsWellTypedEnv context env → ScopeMatchesEnv here context scope
    → IsWellTypedPart (reaching context.known here) ((type_pair t).1 context) → LowersToType (types_at context) ((type_pair t).1 context) (lower_type_of_text t scope)
type_part_lowers_to here context env scope t h at well_typed = type_lowers_to here context env scope (type_pair t).1 (lower_type_of_text t) (type_part (t, holds_type_expr lowers_to_something all_become t)) h at well_typed

-- an expression becomes something of its type
pub expression_is_lowered : (e : Expr) → LowersWhereWellTyped ((expr_pair e).1 false) (lower_expression e)
expression_is_lowered e here context env scope h at well_typed =
    let b = within_lowers_to here context env scope (expr_pair e) (lower_expression e) (expression_part e) h at well_typed in
    record { expr = b.expr; is = b.is; typed = b.typed }

-- so does a block
pub block_is_lowered : (b : Block) → LowersWhereWellTyped ((block_pair b).1 false) (lower_block_of_text b)
block_is_lowered b here context env scope h at well_typed =
    let c = block_part_lowers_to here context env scope b h at well_typed in
    record { expr = c.expr; is = c.is; typed = c.typed }

-- and a written type becomes what is known of it
pub type_is_lowered : (t : TypeExpr) → TypeLowersWhereWellTyped (type_pair t).1 (lower_type_of_text t)
type_is_lowered t here context env scope h at well_typed =
    let b = type_part_lowers_to here context env scope t h at well_typed in
    record { ty = b.ty; is = b.is; typed = b.typed }

-- all bits in a type have a width
pub type_is_wide : (t : TypeExpr) → IsWide (type_pair t).1
type_is_wide t = (type_part (t, holds_type_expr lowers_to_something all_become t)).wide
