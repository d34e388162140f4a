use Rattle.std.proofs.Common.{◌≡◌, ◌∙◌, ◌++◌, ◌∷◌, [], List, ℕ, Option, Some, None, length, map, arith, refl, sym, ap, subst}
use Rattle.std.proofs.lemmas.Result.{IfOk-weaker}
use Rattle.std.specs.Option.{option_copied}
use Rattle.dslx_tree.specs.declared.block.Stmt.TheOpen.{Node-F, TypeNode-F, Shape-F}
use Rattle.dslx_tree.specs.declared.block.Block.{out-Block}
use Rattle.dslx_tree.specs.declared.block.Let.{out-Let}
use Rattle.dslx_tree.specs.declared.expr.Arg.{out-Arg}
use Rattle.dslx_tree.specs.declared.expr.Arm.{out-Arm}
use Rattle.dslx_tree.specs.declared.expr.Expr.{Expr, out-Expr}
use Rattle.dslx_tree.specs.declared.expr.FieldValue.{out-FieldValue}
use Rattle.dslx_tree.specs.declared.expr.For.{out-For}
use Rattle.dslx_tree.specs.declared.type_expr.TypeExpr.{out-TypeExpr}
use Rattle.dslx_tree.specs.declared.pattern.Pattern.{out-Pattern}
use Rattle.dslx_check_facts.specs.Walks.{shown}
use Rattle.dslx_check_leaves.specs.Named.Constants.{expr_typed}
use Rattle.dslx_check_leaves.specs.Fits.Typed.{arm_typed, pattern_typed, type_typed}
use Rattle.dslx_check_leaves.proofs.Lemmas.Fits.Levels.{pattern_at, pattern_number}
use Rattle.dslx_check_leaves.specs.Typed.{element_at, given_at, placed, placed_field, placed_token, placed_type}
use Rattle.dslx_check_leaves.proofs.Lemmas.Walking as walk
use Rattle.dslx_check_leaves.proofs.Lemmas.Each as each
use Rattle.dslx_check_leaves.proofs.Lemmas.Levels as level
use Rattle.dslx_check_leaves.proofs.Lemmas.OnArrays as arrays
use Rattle.dslx_check_leaves.proofs.Lemmas.Moving as moving
use Rattle.dslx_check_leaves.proofs.Lemmas.Scopes as scope
use Rattle.dslx_check_leaves.proofs.Lemmas.Binding as binding
use Rattle.dslx_check_leaves.proofs.Lemmas.OnPatterns as patterns
use Rattle.dslx_check_leaves.proofs.Lemmas.Loops as loops
use Rattle.dslx_check_leaves.proofs.Lemmas.Whole as whole
use Rattle.dslx_check_leaves.proofs.Lemmas.OnArms as arms
use Rattle.dslx_check_leaves.proofs.Lemmas.Tops as top
use Rattle.dslx_check_leaves.proofs.Lemmas.OnCallTops as calltop
use Rattle.dslx_check_leaves.proofs.Lemmas.OnStructs as structs
use Rattle.dslx_check_leaves.proofs.Lemmas.OnCalls as calls
use Rattle.dslx_check_leaves.proofs.Lemmas.OnEffects as effects
use Rattle.dslx_check_parts.proofs.OnParts as own
use Rattle.dslx_tree.specs.declared.block.Stmt.TheVariants as on_stmt
use Rattle.dslx_tree.specs.declared.pattern.Shape as shape
use Rattle.dslx_tree.specs.declared.pattern.Shape.TheVariants as on_shape
use Rattle.dslx_meaning.specs.Rules.EffectNames.{effect_channel}
use Rattle.dslx_check_parts.specs.declared.builtins.BuiltinForm.TheVariants as forms
use Rattle.dslx_check_parts.proofs.OnWalks as walks
use Rattle.dslx_tree.specs.declared.expr.Node as node
use Rattle.dslx_tree.specs.declared.expr.Node.TheVariants as on_node
use Rattle.dslx_tree.specs.declared.type_expr.TypeNode as type_node
use Rattle.dslx_tree.specs.declared.type_expr.TypeNode.TheVariants as on_type_node
use Rattle.dslx_check_parts.proofs.+parts.Goals as goal

-- ---- values

pub exprs::alone-returns : goal.exprs::alone-returns
exprs::alone-returns t c = walk.one_kept c.in_ok-value.ensures c.no_token.ensures (walk.no_token_reached (out-Expr c.args.e.now).span)

pub exprs::placed-returns : goal.exprs::placed-returns
exprs::placed-returns t c = each.at_place (out-Expr c.args.e.now).span c.in_ok-typing.ensures

-- ---- numbers

pub numbers::number_node-returns : goal.numbers::number_node-returns
numbers::number_node-returns t c = walk.one_kept c.in_ok-value.ensures (walk.limited_from c.args.span c.limited.ensures.ty c.limited.ensures.faults c.limited.ensures.size) (λ x. refl)

pub numbers::number_value-returns-in-None : goal.numbers::number_value-returns-in-None
numbers::number_value-returns-in-None t c = walk.retyped (level.number_none c.args.number.now c.args.span c.in-None.is) (walk.none_kept (c.untyped_number.ensures (shown c.args.w.now).rows) refl)

pub numbers::number_value-returns-in_ok-written-in-Some : goal.numbers::number_value-returns-in_ok-written-in-Some
numbers::number_value-returns-in_ok-written-in-Some t c =
    walk.retyped (level.number_some c.args.number.now c.args.span c.get.result.now (c.in-Some.is ∙ ap Some (sym c.get.ensures))) (walk.one_kept c.in_ok-written-in-Some.ensures c.number_typing.ensures (λ x. refl))

-- ---- operators

pub operators::prefix-returns : goal.operators::prefix-returns
operators::prefix-returns t c = walk.one_kept c.in_ok-value.ensures c.prefix_typing.ensures (λ x. refl)

pub operators::binary-returns : goal.operators::binary-returns
operators::binary-returns t c = walk.by_half c.binary_typing.result c.binary_typing.ensures.grows c.binary_typing.ensures.items c.binary_typing.ensures.typed (λ j p h. walk.two c.in_ok-first.ensures c.in_ok-second.ensures p h (λ x y. refl))

pub operators::cast-returns : goal.operators::cast-returns
operators::cast-returns t c = walk.two_kept c.in_ok-from.ensures c.in_ok-target.ensures c.cast_typing.ensures (λ x y. refl)

pub operators::slice-returns : goal.operators::slice-returns
operators::slice-returns t c = walk.by_half c.slice_typing.result c.slice_typing.ensures.grows c.slice_typing.ensures.items c.slice_typing.ensures.typed
    (λ j p h. walk.of_slice c.in_ok-value.ensures c.in_ok-first.ensures c.in_ok-second.ensures p h (λ x y z. refl))

pub operators::part-returns : goal.operators::part-returns
operators::part-returns t c = walk.three_kept c.in_ok-value.ensures c.in_ok-first.ensures c.in_ok-target.ensures c.part_typing.ensures (λ x y z. refl)

-- ---- tuples, struct values and parts of values

pub aggregates::index-returns : goal.aggregates::index-returns
aggregates::index-returns t c = walk.two_kept c.in_ok-array.ensures c.in_ok-at.ensures c.index_typing.ensures (λ x y. refl)

pub aggregates::field-returns : goal.aggregates::field-returns
aggregates::field-returns t c = whole.field_walked c.args.span c.args.name.now.name c.in_ok-value.ensures c.field_of-ty.ensures.row c.field_of-ty.ensures.is c.field_part_typing.ensures

pub aggregates::element-returns : goal.aggregates::element-returns
aggregates::element-returns t c = walk.retyped (arrays.tuple_element_is c.args.span c.args.whole.now c.args.place)
    (walk.one_kept c.in_ok-value.ensures c.tuple_element_typing.ensures (arrays.tuple_element_reached c.args.span (out-Expr c.args.whole.now).span c.args.place))

pub aggregates::tuple-returns : goal.aggregates::tuple-returns
aggregates::tuple-returns t c = walk.by_half c.tuple_typing.result c.tuple_typing.ensures.grows c.tuple_typing.ensures.items c.tuple_typing.ensures.typed
    (λ j p h. walk.retyped (arrays.tuple_is c.args.span c.args.parts.now) (own.of_slice c.as_slice.ensures.value c.in_ok-all.ensures p h each.inner_reach))

pub aggregates::structure-returns : goal.aggregates::structure-returns
aggregates::structure-returns t c = IfOk-weaker c.struct_of.result _ _
    (λ j h. structs.struct_walked c.args.span c.args.name.now c.args.fields.now c.args.others.now (own.in_slice c.as_slice.ensures.value c.in_ok-values.ensures) c.in_ok-rest.ensures h) c.struct_of.ensures

-- ---- arrays

pub arrays::array-returns-in-None : goal.arrays::array-returns-in-None
arrays::array-returns-in-None t c = IfOk-weaker c.untyped_array.result _ _
    (λ j h. walk.retyped (top.array_none c.args.span c.args.ty.now c.args.elements.now c.args.dots c.in-None.is) h) c.untyped_array.ensures

pub arrays::array-returns-in-Some : goal.arrays::array-returns-in-Some
arrays::array-returns-in-Some t c = IfOk-weaker c.typed_array.result _ _
    (λ j h. walk.retyped (top.array_some c.args.span c.args.ty.now c.get.result.now c.args.elements.now c.args.dots (c.in-Some.is ∙ ap Some (sym c.get.ensures))) h) c.typed_array.ensures

pub arrays::untyped_array-returns : goal.arrays::untyped_array-returns
arrays::untyped_array-returns t c = walk.by_half c.untyped_array_typing.result c.untyped_array_typing.ensures.grows c.untyped_array_typing.ensures.items c.untyped_array_typing.ensures.typed
    (λ j p h. walk.retyped (arrays.untyped_array_is c.args.span c.args.dots c.args.elements.now) (own.of_slice c.as_slice.ensures.value c.in_ok-all.ensures p h each.inner_reach))

pub arrays::typed_array-returns : goal.arrays::typed_array-returns
arrays::typed_array-returns t c = own.array_walked c.args.span c.args.dots c.args.ty.now c.args.elements.now c.as_slice.ensures.value c.in_ok-written.ensures c.in_ok-all.ensures c.typed_array_typing.ensures

pub arrays::one_element-returns-in-Some : goal.arrays::one_element-returns-in-Some
arrays::one_element-returns-in-Some t c = arrays.element_number c.args.e.now c.in-Some.number (sym c.untyped_of.ensures ∙ c.in-Some.is)

pub arrays::one_element-returns-in_ok-typing-in-None : goal.arrays::one_element-returns-in_ok-typing-in-None
arrays::one_element-returns-in_ok-typing-in-None t c = arrays.element_value c.args.e.now (sym c.untyped_of.ensures ∙ c.in-None.is) c.in_ok-typing-in-None.ensures

pub arrays::all_elements-elements-init : goal.arrays::all_elements-elements-init
arrays::all_elements-elements-init t c = own.each_begun element_at c.args.elements.now c.new-all.ensures.items

pub arrays::all_elements-elements-preserved : goal.arrays::all_elements-elements-preserved
arrays::all_elements-elements-preserved t c = own.each_next element_at c.args.elements.now c.elements.i c.index-elements-i.result each.element_stays (omega arith) c.index-elements-i.is c.in_ok-push.ensures.items c.elements.invariant c.in_ok-element.ensures

pub arrays::all_elements-returns : goal.arrays::all_elements-returns
arrays::all_elements-returns t c = each.each_by (each.all_of element_at c.args.elements.now c.elements.i (omega arith)) c.elements.invariant

-- ---- arguments

pub arguments::all_placed-operands-init : goal.arguments::all_placed-operands-init
arguments::all_placed-operands-init t c = own.each_begun placed c.args.operands.now c.new-all.ensures.items

pub arguments::all_placed-operands-preserved : goal.arguments::all_placed-operands-preserved
arguments::all_placed-operands-preserved t c = own.each_next placed c.args.operands.now c.operands.i c.index-operands-i.result each.placed_stays (omega arith) c.index-operands-i.is c.in_ok-push.ensures.items c.operands.invariant c.in_ok-one.ensures

pub arguments::all_placed-returns : goal.arguments::all_placed-returns
arguments::all_placed-returns t c = each.each_by (each.all_of placed c.args.operands.now c.operands.i (omega arith)) c.operands.invariant

pub arguments::all_given-given-init : goal.arguments::all_given-given-init
arguments::all_given-given-init t c = own.each_begun given_at c.args.args.now c.new-all.ensures.items

pub arguments::all_given-given-preserved : goal.arguments::all_given-given-preserved
arguments::all_given-given-preserved t c = own.each_next given_at c.args.args.now c.given.i c.index-args-i.result whole.given_stays (omega arith) c.index-args-i.is c.in_ok-push.ensures.items c.given.invariant c.in_ok-one.ensures

pub arguments::all_given-returns : goal.arguments::all_given-returns
arguments::all_given-returns t c = each.each_by (each.all_of given_at c.args.args.now c.given.i (omega arith)) c.given.invariant

pub arguments::one_given-returns : goal.arguments::one_given-returns
arguments::one_given-returns t c = whole.argument_given c.args.arg.now c.in_ok-value.ensures

pub arguments::all_fields-fields-init : goal.arguments::all_fields-fields-init
arguments::all_fields-fields-init t c = own.each_begun placed_field c.args.fields.now c.new-all.ensures.items

pub arguments::all_fields-fields-preserved : goal.arguments::all_fields-fields-preserved
arguments::all_fields-fields-preserved t c = own.each_next placed_field c.args.fields.now c.fields.i c.index-fields-i.result each.placed_stays (omega arith) c.index-fields-i.is c.in_ok-push.ensures.items c.fields.invariant c.in_ok-one.ensures

pub arguments::all_fields-returns : goal.arguments::all_fields-returns
arguments::all_fields-returns t c = each.each_by (each.all_of placed_field c.args.fields.now c.fields.i (omega arith)) c.fields.invariant

pub arguments::one_field-returns-in_ok-typing-in-Some : goal.arguments::one_field-returns-in_ok-typing-in-Some
arguments::one_field-returns-in_ok-typing-in-Some t c = whole.field_value c.args.field.now c.get-e.result.now (c.in-Some.is ∙ ap Some (sym c.get-e.ensures)) c.in_ok-typing-in-Some.ensures

pub arguments::one_field-returns-in_ok-value-in-None : goal.arguments::one_field-returns-in_ok-value-in-None
arguments::one_field-returns-in_ok-value-in-None t c = whole.field_named c.args.field.now c.in-None.is
    (walk.one_kept c.in_ok-value-in-None.ensures c.no_token.ensures (walk.no_token_reached (out-FieldValue c.args.field.now).name.span))

pub arguments::placed_if-returns-in-None : goal.arguments::placed_if-returns-in-None
arguments::placed_if-returns-in-None t c = whole.others_none c.in-None.is

pub arguments::placed_if-returns-in_ok-typing-in-Some : goal.arguments::placed_if-returns-in_ok-typing-in-Some
arguments::placed_if-returns-in_ok-typing-in-Some t c = whole.others_some (c.in-Some.is ∙ ap Some (sym c.get-inner.ensures)) c.in_ok-typing-in-Some.ensures

-- ---- constants

pub constants::constant-returns : goal.constants::constant-returns
constants::constant-returns t c = IfOk-weaker c.constant_typing.result _ _ (λ k h. walk.of_constant c.in_ok-inner.ensures (omega (arith, c.len-from.ensures, c.args.w.now.reached.ok.0)) (omega (arith, c.len-missing.ensures, c.args.w.now.missing.ok.0)) h (λ env. refl)) c.constant_typing.ensures

pub constants::constant_or_untyped-returns-in-Some : goal.constants::constant_or_untyped-returns-in-Some
constants::constant_or_untyped-returns-in-Some t c = walk.reconstant (level.constant_some c.args.e.now c.in-Some.number (sym c.untyped_of.ensures ∙ c.in-Some.is)) (walk.found_constant c.untyped_constant.ensures refl)

pub constants::constant_or_untyped-returns-in_ok-value-in-None : goal.constants::constant_or_untyped-returns-in_ok-value-in-None
constants::constant_or_untyped-returns-in_ok-value-in-None t c = walk.reconstant (level.constant_none c.args.e.now (sym c.untyped_of.ensures ∙ c.in-None.is)) c.in_ok-value-in-None.ensures

pub constants::count-returns : goal.constants::count-returns
constants::count-returns t c = walk.of_count c.in_ok-held.ensures c.count_typing.ensures (λ x. refl)

-- ---- types

pub types::type_if-returns-in-None : goal.types::type_if-returns-in-None
types::type_if-returns-in-None t c = level.written_none c.in-None.is

pub types::type_if-returns-in_ok-written-in-Some : goal.types::type_if-returns-in_ok-written-in-Some
types::type_if-returns-in_ok-written-in-Some t c = level.written_some (c.in-Some.is ∙ ap Some (sym c.get.ensures)) c.in_ok-written-in-Some.ensures

pub types::inner_type-returns : goal.types::inner_type-returns
types::inner_type-returns t c = walk.one_kept c.in_ok-own.ensures c.inner_type.ensures (λ x. refl)

pub types::placed_type-returns : goal.types::placed_type-returns
types::placed_type-returns t c = each.at_place (out-TypeExpr c.args.ty.now).span c.in_ok-typing.ensures

pub types::all_types-types-init : goal.types::all_types-types-init
types::all_types-types-init t c = own.each_begun placed_type c.args.types.now c.new-all.ensures.items

pub types::all_types-types-preserved : goal.types::all_types-types-preserved
types::all_types-types-preserved t c = own.each_next placed_type c.args.types.now c.types.i c.index-types-i.result each.placed_stays (omega arith) c.index-types-i.is c.in_ok-push.ensures.items c.types.invariant c.in_ok-one.ensures

pub types::all_types-returns : goal.types::all_types-returns
types::all_types-returns t c = each.each_by (each.all_of placed_type c.args.types.now c.types.i (omega arith)) c.types.invariant

pub types::tuple_of_types-returns : goal.types::tuple_of_types-returns
types::tuple_of_types-returns t c = walk.by_half c.tuple_type.result c.tuple_type.ensures.grows c.tuple_type.ensures.items c.tuple_type.ensures.typed
    (λ j p h. walk.retyped (arrays.tuple_type_is c.args.span c.args.parts.now) (own.of_slice c.as_slice.ensures.value c.in_ok-all.ensures p h each.inner_reach))

pub types::array_of_type-returns : goal.types::array_of_type-returns
types::array_of_type-returns t c = walk.by_half c.array_type.result c.array_type.ensures.grows c.array_type.ensures.items c.array_type.ensures.typed
    (λ j p h. walk.from_part_and_count c.in_ok-of.ensures c.in_ok-number.ensures p h (λ x y. refl))

pub types::wide_bits-returns : goal.types::wide_bits-returns
types::wide_bits-returns t c = walk.by_half c.wide_typing.result c.wide_typing.ensures.grows c.wide_typing.ensures.items c.wide_typing.ensures.typed (λ j p h. walk.from_count c.in_ok-number.ensures p h (λ x. refl))

-- ---- choices, blocks and statements

pub control::if_node-returns : goal.control::if_node-returns
control::if_node-returns t c = walk.three_kept c.in_ok-own.ensures c.in_ok-first.ensures c.in_ok-second.ensures c.if_typing.ensures (λ x y z. refl)

pub control::block-returns : goal.control::block-returns
control::block-returns t c = walk.retyped (scope.block_at c.args.b.now c.args.on_top)
    (moving.block_walked (out-Block c.args.b.now).span (walks.statements_of c.args.on_top c.as_slice.ensures c.in_ok-walked.ensures) c.in_ok-last.ensures
    (moving.kept_scope c.in_ok-walked.ensures.behind c.in_ok-last.ensures.sight c.len-names.ensures c.len-used.ensures c.keep.ensures c.keep-2.ensures) c.block_typing.ensures)

pub control::last_value-returns-in-None : goal.control::last_value-returns-in-None
control::last_value-returns-in-None t c = walk.by_half c.no_value.result c.no_value.ensures.grows c.no_value.ensures.items c.no_value.ensures.typed
    (λ j p h. walk.retyped (moving.last_none c.in-None.is) (walk.none p h refl))

pub control::last_value-returns-in-Some : goal.control::last_value-returns-in-Some
control::last_value-returns-in-Some t c = IfOk-weaker c.alone.result _ _ (λ j h. walk.retyped (moving.last_some (c.in-Some.is ∙ ap Some (sym c.get.ensures))) h) c.alone.ensures

-- ---- expressions by their nodes

pub exprs::expr-returns-in-Number : goal.exprs::expr-returns-in-Number
exprs::expr-returns-in-Number t c = IfOk-weaker c.number_node.result _ _
    (λ j h. walk.retyped (level.number_expr c.args.e.now c.args.on_top c.in-Number.number (c.in-Number.is ∙ sym (on_node.rolls-Number c.in-Number.number))) h) c.number_node.ensures

pub exprs::expr-returns-in-Bool : goal.exprs::expr-returns-in-Bool
exprs::expr-returns-in-Bool t c = IfOk-weaker c.bool_value.result _ _
    (λ j h. walk.retyped (level.expr_at c.args.e.now c.args.on_top (Node-F.Node::Bool c.in-Bool.field-0) (c.in-Bool.is ∙ sym (on_node.rolls-Bool c.in-Bool.field-0))) h) c.bool_value.ensures

pub exprs::expr-returns-in-Array : goal.exprs::expr-returns-in-Array
exprs::expr-returns-in-Array t c = IfOk-weaker c.array.result _ _
    (λ j h. walk.retyped (top.array_top c.args.e.now c.args.on_top c.in-Array.ty c.as_slice.result.now c.in-Array.dots (c.in-Array.is ∙ (λ i. node.Array c.in-Array.ty (sym c.as_slice.ensures i) c.in-Array.dots) ∙ sym (on_node.rolls-Array c.in-Array.ty c.as_slice.result.now c.in-Array.dots))) h) c.array.ensures

pub exprs::expr-returns-in-Name : goal.exprs::expr-returns-in-Name
exprs::expr-returns-in-Name t c = IfOk-weaker c.name_node.result _ _
    (λ j h. walk.retyped (level.expr_at c.args.e.now c.args.on_top (Node-F.Node::Name c.in-Name.name) (c.in-Name.is ∙ sym (on_node.rolls-Name c.in-Name.name))) h) c.name_node.ensures

pub exprs::expr-returns-in-Member : goal.exprs::expr-returns-in-Member
exprs::expr-returns-in-Member t c = IfOk-weaker c.member_node.result _ _
    (λ j h. walk.retyped (level.expr_at c.args.e.now c.args.on_top (Node-F.Node::Member c.in-Member.choice c.in-Member.member) (c.in-Member.is ∙ sym (on_node.rolls-Member c.in-Member.choice c.in-Member.member))) h) c.member_node.ensures

pub exprs::expr-returns-in-Call : goal.exprs::expr-returns-in-Call
exprs::expr-returns-in-Call t c = IfOk-weaker c.call.result _ _
    (λ j h. walk.retyped (calltop.call_top c.args.e.now c.args.on_top c.in-Call.name c.as_slice-in-Call.result.now c.as_slice-in-Call-2.result.now (c.in-Call.is ∙ (λ i. node.Call c.in-Call.name (sym c.as_slice-in-Call.ensures i) (sym c.as_slice-in-Call-2.ensures i)) ∙ sym (on_node.rolls-Call c.in-Call.name c.as_slice-in-Call.result.now c.as_slice-in-Call-2.result.now))) h) c.call.ensures

pub exprs::expr-returns-in-Tuple : goal.exprs::expr-returns-in-Tuple
exprs::expr-returns-in-Tuple t c = IfOk-weaker c.tuple.result _ _
    (λ j h. walk.retyped (level.expr_at c.args.e.now c.args.on_top (Node-F.Node::Tuple c.as_slice-in-Tuple.result.now) (c.in-Tuple.is ∙ (λ i. node.Tuple (sym c.as_slice-in-Tuple.ensures i)) ∙ sym (on_node.rolls-Tuple c.as_slice-in-Tuple.result.now))) h) c.tuple.ensures

pub exprs::expr-returns-in-Struct : goal.exprs::expr-returns-in-Struct
exprs::expr-returns-in-Struct t c = IfOk-weaker c.structure.result _ _
    (λ j h. walk.retyped (top.struct_top c.args.e.now c.args.on_top c.in-Struct.name c.as_slice-in-Struct.result.now c.in-Struct.others (c.in-Struct.is ∙ (λ i. node.Struct c.in-Struct.name (sym c.as_slice-in-Struct.ensures i) c.in-Struct.others) ∙ sym (on_node.rolls-Struct c.in-Struct.name c.as_slice-in-Struct.result.now c.in-Struct.others))) h) c.structure.ensures

pub exprs::expr-returns-in-Block : goal.exprs::expr-returns-in-Block
exprs::expr-returns-in-Block t c = IfOk-weaker c.block.result _ _
    (λ j h. walk.retyped (level.expr_at c.args.e.now c.args.on_top (Node-F.Block c.get.result.now) (c.in-Block.is ∙ (λ i. node.Block (sym c.get.ensures i)) ∙ sym (on_node.rolls-Block c.get.result.now))) h) c.block.ensures

pub exprs::expr-returns-in-If : goal.exprs::expr-returns-in-If
exprs::expr-returns-in-If t c = IfOk-weaker c.if_node.result _ _
    (λ j h. walk.retyped (level.expr_at c.args.e.now c.args.on_top (Node-F.If c.get-in-If.result.now c.get-in-If-2.result.now c.get-in-If-3.result.now) (c.in-If.is ∙ (λ i. node.If (sym c.get-in-If.ensures i) (sym c.get-in-If-2.ensures i) (sym c.get-in-If-3.ensures i)) ∙ sym (on_node.rolls-If c.get-in-If.result.now c.get-in-If-2.result.now c.get-in-If-3.result.now))) h) c.if_node.ensures

pub exprs::expr-returns-in-Match : goal.exprs::expr-returns-in-Match
exprs::expr-returns-in-Match t c = IfOk-weaker c.match_node.result _ _
    (λ j h. walk.retyped (top.match_top c.args.e.now c.args.on_top c.get-in-Match.result.now c.as_slice-in-Match.result.now (c.in-Match.is ∙ (λ i. node.Match (sym c.get-in-Match.ensures i) (sym c.as_slice-in-Match.ensures i)) ∙ sym (on_node.rolls-Match c.get-in-Match.result.now c.as_slice-in-Match.result.now))) h) c.match_node.ensures

pub exprs::expr-returns-in-For : goal.exprs::expr-returns-in-For
exprs::expr-returns-in-For t c = IfOk-weaker c.loop_node.result _ _
    (λ j h. walk.retyped (top.for_top c.args.e.now c.args.on_top c.get-in-For.result.now (c.in-For.is ∙ (λ i. node.For (sym c.get-in-For.ensures i)) ∙ sym (on_node.rolls-For c.get-in-For.result.now))) h) c.loop_node.ensures

pub exprs::expr-returns-in-Index : goal.exprs::expr-returns-in-Index
exprs::expr-returns-in-Index t c = IfOk-weaker c.index.result _ _
    (λ j h. walk.retyped (level.expr_at c.args.e.now c.args.on_top (Node-F.Index c.get-in-Index.result.now c.get-in-Index-2.result.now) (c.in-Index.is ∙ (λ i. node.Index (sym c.get-in-Index.ensures i) (sym c.get-in-Index-2.ensures i)) ∙ sym (on_node.rolls-Index c.get-in-Index.result.now c.get-in-Index-2.result.now))) h) c.index.ensures

pub exprs::expr-returns-in-Slice : goal.exprs::expr-returns-in-Slice
exprs::expr-returns-in-Slice t c = IfOk-weaker c.slice.result _ _
    (λ j h. walk.retyped (level.expr_at c.args.e.now c.args.on_top (Node-F.Slice c.get-in-Slice.result.now c.get-in-Slice-2.result.now c.get-in-Slice-3.result.now) (c.in-Slice.is ∙ (λ i. node.Slice (sym c.get-in-Slice.ensures i) (sym c.get-in-Slice-2.ensures i) (sym c.get-in-Slice-3.ensures i)) ∙ sym (on_node.rolls-Slice c.get-in-Slice.result.now c.get-in-Slice-2.result.now c.get-in-Slice-3.result.now))) h) c.slice.ensures

pub exprs::expr-returns-in-Part : goal.exprs::expr-returns-in-Part
exprs::expr-returns-in-Part t c = IfOk-weaker c.part.result _ _
    (λ j h. walk.retyped (level.expr_at c.args.e.now c.args.on_top (Node-F.Part c.get-in-Part.result.now c.get-in-Part-2.result.now c.get-in-Part-3.result.now) (c.in-Part.is ∙ (λ i. node.Part (sym c.get-in-Part.ensures i) (sym c.get-in-Part-2.ensures i) (sym c.get-in-Part-3.ensures i)) ∙ sym (on_node.rolls-Part c.get-in-Part.result.now c.get-in-Part-2.result.now c.get-in-Part-3.result.now))) h) c.part.ensures

pub exprs::expr-returns-in-Field : goal.exprs::expr-returns-in-Field
exprs::expr-returns-in-Field t c = IfOk-weaker c.field.result _ _
    (λ j h. walk.retyped (level.expr_at c.args.e.now c.args.on_top (Node-F.Field c.get-in-Field.result.now c.in-Field.name) (c.in-Field.is ∙ (λ i. node.Field (sym c.get-in-Field.ensures i) c.in-Field.name) ∙ sym (on_node.rolls-Field c.get-in-Field.result.now c.in-Field.name))) h) c.field.ensures

pub exprs::expr-returns-in-Element : goal.exprs::expr-returns-in-Element
exprs::expr-returns-in-Element t c = IfOk-weaker c.element.result _ _
    (λ j h. walk.retyped (level.expr_at c.args.e.now c.args.on_top (Node-F.Element c.get-in-Element.result.now c.in-Element.field-1 c.in-Element.place) (c.in-Element.is ∙ (λ i. node.Element (sym c.get-in-Element.ensures i) c.in-Element.field-1 c.in-Element.place) ∙ sym (on_node.rolls-Element c.get-in-Element.result.now c.in-Element.field-1 c.in-Element.place))) h) c.element.ensures

pub exprs::expr-returns-in-Prefix : goal.exprs::expr-returns-in-Prefix
exprs::expr-returns-in-Prefix t c = IfOk-weaker c.prefix.result _ _
    (λ j h. walk.retyped (level.expr_at c.args.e.now c.args.on_top (Node-F.Prefix c.in-Prefix.field-0 c.get-in-Prefix.result.now) (c.in-Prefix.is ∙ (λ i. node.Prefix c.in-Prefix.field-0 (sym c.get-in-Prefix.ensures i)) ∙ sym (on_node.rolls-Prefix c.in-Prefix.field-0 c.get-in-Prefix.result.now))) h) c.prefix.ensures

pub exprs::expr-returns-in-Cast : goal.exprs::expr-returns-in-Cast
exprs::expr-returns-in-Cast t c = IfOk-weaker c.cast.result _ _
    (λ j h. walk.retyped (level.expr_at c.args.e.now c.args.on_top (Node-F.Cast c.get-in-Cast.result.now c.get-in-Cast-2.result.now) (c.in-Cast.is ∙ (λ i. node.Cast (sym c.get-in-Cast.ensures i) (sym c.get-in-Cast-2.ensures i)) ∙ sym (on_node.rolls-Cast c.get-in-Cast.result.now c.get-in-Cast-2.result.now))) h) c.cast.ensures

pub exprs::expr-returns-in-Binary : goal.exprs::expr-returns-in-Binary
exprs::expr-returns-in-Binary t c = IfOk-weaker c.binary.result _ _
    (λ j h. walk.retyped (level.expr_at c.args.e.now c.args.on_top (Node-F.Binary c.in-Binary.op c.get-in-Binary.result.now c.get-in-Binary-2.result.now) (c.in-Binary.is ∙ (λ i. node.Binary c.in-Binary.op (sym c.get-in-Binary.ensures i) (sym c.get-in-Binary-2.ensures i)) ∙ sym (on_node.rolls-Binary c.in-Binary.op c.get-in-Binary.result.now c.get-in-Binary-2.result.now))) h) c.binary.ensures

-- ---- types by their nodes

pub types::type_expr-returns-in-Bits : goal.types::type_expr-returns-in-Bits
types::type_expr-returns-in-Bits t c = IfOk-weaker c.named_bits.result _ _
    (λ j h. walk.retyped (level.type_at c.args.ty.now (TypeNode-F.Bits c.in-Bits.signed c.in-Bits.width) (c.in-Bits.is ∙ sym (on_type_node.rolls-Bits c.in-Bits.signed c.in-Bits.width))) h) c.named_bits.ensures

pub types::type_expr-returns-in-Wide : goal.types::type_expr-returns-in-Wide
types::type_expr-returns-in-Wide t c = IfOk-weaker c.wide_bits.result _ _
    (λ j h. walk.retyped (level.type_at c.args.ty.now (TypeNode-F.Wide c.in-Wide.signed c.get.result.now) (c.in-Wide.is ∙ (λ i. type_node.Wide c.in-Wide.signed (sym c.get.ensures i)) ∙ sym (on_type_node.rolls-Wide c.in-Wide.signed c.get.result.now))) h) c.wide_bits.ensures

pub types::type_expr-returns-in-Bool : goal.types::type_expr-returns-in-Bool
types::type_expr-returns-in-Bool t c = IfOk-weaker c.bool_name.result _ _
    (λ j h. walk.retyped (level.type_at c.args.ty.now (TypeNode-F.TypeNode::Bool) (c.in-Bool.is ∙ sym on_type_node.rolls-Bool)) h) c.bool_name.ensures

pub types::type_expr-returns-in-Name : goal.types::type_expr-returns-in-Name
types::type_expr-returns-in-Name t c = IfOk-weaker c.type_of_name.result _ _
    (λ j h. walk.retyped (level.type_at c.args.ty.now (TypeNode-F.TypeNode::Name c.in-Name.name) (c.in-Name.is ∙ sym (on_type_node.rolls-Name c.in-Name.name))) h) c.type_of_name.ensures

pub types::type_expr-returns-in-Tuple : goal.types::type_expr-returns-in-Tuple
types::type_expr-returns-in-Tuple t c = IfOk-weaker c.tuple_of_types.result _ _
    (λ j h. walk.retyped (level.type_at c.args.ty.now (TypeNode-F.TypeNode::Tuple c.as_slice.result.now) (c.in-Tuple.is ∙ (λ i. type_node.Tuple (sym c.as_slice.ensures i)) ∙ sym (on_type_node.rolls-Tuple c.as_slice.result.now))) h) c.tuple_of_types.ensures

pub types::type_expr-returns-in-Array : goal.types::type_expr-returns-in-Array
types::type_expr-returns-in-Array t c = IfOk-weaker c.array_of_type.result _ _
    (λ j h. walk.retyped (level.type_at c.args.ty.now (TypeNode-F.TypeNode::Array c.get-in-Array.result.now c.get-in-Array-2.result.now) (c.in-Array.is ∙ (λ i. type_node.Array (sym c.get-in-Array.ensures i) (sym c.get-in-Array-2.ensures i)) ∙ sym (on_type_node.rolls-Array c.get-in-Array.result.now c.get-in-Array-2.result.now))) h) c.array_of_type.ensures

-- ---- choices, blocks and statements

pub sequences::statements-statements-init : goal.sequences::statements-statements-init
sequences::statements-statements-init t c = moving.no_statements c.none-walked.ensures

pub sequences::statements-statements-preserved : goal.sequences::statements-statements-preserved
sequences::statements-statements-preserved t c = moving.restated (moving.statements_next c.args.all.now c.statements.i c.index-all-i.result c.args.on_top (omega arith) c.index-all-i.is)
    (moving.one_statement c.statements.invariant c.in_ok-next.ensures c.and-walked.ensures)

pub sequences::statements-returns : goal.sequences::statements-returns
sequences::statements-returns t c = moving.restated (moving.statements_all c.args.all.now c.statements.i c.args.on_top (omega arith)) c.statements.invariant

pub sequences::statement-returns-in-Let : goal.sequences::statement-returns-in-Let
sequences::statement-returns-in-Let t c = IfOk-weaker c.let_node.result _ _ (λ j h. moving.restated (scope.stmt_let c.args.statement.now c.args.on_top c.in-Let.binding (c.in-Let.is ∙ sym (on_stmt.rolls-Let c.in-Let.binding))) h) c.let_node.ensures

pub sequences::statement-returns-in-Bare : goal.sequences::statement-returns-in-Bare
sequences::statement-returns-in-Bare t c = IfOk-weaker c.bare_node.result _ _ (λ j h. moving.restated (scope.stmt_bare c.args.statement.now c.args.on_top c.in-Bare.e (c.in-Bare.is ∙ sym (on_stmt.rolls-Bare c.in-Bare.e))) h) c.bare_node.ensures

pub sequences::let_node-returns : goal.sequences::let_node-returns
sequences::let_node-returns t c = binding.let_moves (out-Let c.args.binding.now).value (out-Expr (out-Let c.args.binding.now).value).span c.in_ok-typing.ensures c.in_ok-written.ensures
    c.bound_type-ty.ensures.is c.bound_type-ty.ensures.there c.in_ok-bound.ensures.walked
    (walks.with_channel c.in_ok-bound.ensures.middle c.in_ok-bound.ensures.names (effect_channel (out-Let c.args.binding.now).value) c.in_ok-bound.ensures.is c.in_ok-use_channel.ensures) c.let_typing.ensures

pub sequences::bare_node-returns : goal.sequences::bare_node-returns
sequences::bare_node-returns t c = binding.bare_moves c.args.on_top c.args.e.now c.in_ok-value.ensures c.in_ok-use_channel.ensures c.bare_value-own.ensures

pub scopes::bind_pattern-returns : goal.scopes::bind_pattern-returns
scopes::bind_pattern-returns t c = record {
  middle = c.pattern.new.s;
  names = c.pattern.new.names;
  walked = own.from_none c.new-names.ensures c.in_ok-bound.ensures;
  is = walks.with_names c.pattern.new.s c.pattern.new.names c.in_ok-bind_all.ensures;
}

-- ---- patterns

pub patterns::pattern-returns-in-Wild : goal.patterns::pattern-returns-in-Wild
patterns::pattern-returns-in-Wild t c = patterns.repatterned (pattern_at c.args.p.now c.args.may_fail Shape-F.Wild (c.in-Wild.is ∙ sym on_shape.rolls-Wild))
    (patterns.plain_pattern (λ env ty names locals. c.wild_pattern.ensures names locals) (λ env ty names locals. refl) (λ env ty names locals. refl) (λ env ty names locals. refl))

pub patterns::pattern-returns-in-Bool : goal.patterns::pattern-returns-in-Bool
patterns::pattern-returns-in-Bool t c = IfOk-weaker c.bool_pattern.result _ _ (λ j h. patterns.repatterned (pattern_at c.args.p.now c.args.may_fail (Shape-F.Shape::Bool c.in-Bool.field-0) (c.in-Bool.is ∙ sym (on_shape.rolls-Bool c.in-Bool.field-0))) h) c.bool_pattern.ensures

pub patterns::pattern-returns-in-Number : goal.patterns::pattern-returns-in-Number
patterns::pattern-returns-in-Number t c = IfOk-weaker c.number_pattern.result _ _ (λ j h. patterns.repatterned (pattern_number c.args.p.now c.args.may_fail c.in-Number.number (c.in-Number.is ∙ sym (on_shape.rolls-Number c.in-Number.number))) h) c.number_pattern.ensures

pub patterns::pattern-returns-in-Name : goal.patterns::pattern-returns-in-Name
patterns::pattern-returns-in-Name t c = IfOk-weaker c.name_pattern.result _ _ (λ j h. patterns.repatterned (pattern_at c.args.p.now c.args.may_fail (Shape-F.Shape::Name c.in-Name.name) (c.in-Name.is ∙ sym (on_shape.rolls-Name c.in-Name.name))) h) c.name_pattern.ensures

pub patterns::pattern-returns-in-Member : goal.patterns::pattern-returns-in-Member
patterns::pattern-returns-in-Member t c = IfOk-weaker c.member_pattern.result _ _
    (λ j h. patterns.repatterned (pattern_at c.args.p.now c.args.may_fail (Shape-F.Shape::Member c.in-Member.choice c.in-Member.member) (c.in-Member.is ∙ sym (on_shape.rolls-Member c.in-Member.choice c.in-Member.member))) h) c.member_pattern.ensures

pub patterns::pattern-returns-in-Tuple : goal.patterns::pattern-returns-in-Tuple
patterns::pattern-returns-in-Tuple t c = IfOk-weaker c.tuple_pattern.result _ _
    (λ j h. patterns.repatterned (pattern_at c.args.p.now c.args.may_fail (Shape-F.Shape::Tuple c.as_slice.result.now)
    (c.in-Tuple.is ∙ ap (λ ps. shape.Tuple ps) (sym c.as_slice.ensures) ∙ sym (on_shape.rolls-Tuple c.as_slice.result.now))) h) c.tuple_pattern.ensures

pub patterns::number_pattern-returns : goal.patterns::number_pattern-returns
patterns::number_pattern-returns t c = own.number_walked c.args.span c.args.may_fail c.args.number.now c.in_ok-own.ensures c.has_type-is_known.ensures c.value_pattern.ensures

pub patterns::tuple_pattern-parts-init : goal.patterns::tuple_pattern-parts-init
patterns::tuple_pattern-parts-init t c = patterns.head_walked c.args.span (length c.args.parts.now) c.tuple_pattern-all.ensures

pub patterns::tuple_pattern-parts-preserved : goal.patterns::tuple_pattern-parts-preserved
patterns::tuple_pattern-parts-preserved t c = patterns.repatterned (patterns.parts_next c.args.span c.args.may_fail c.args.parts.now c.parts.i c.index-parts-i.result (omega arith) c.index-parts-i.is)
    (patterns.part_walked (length c.args.parts.now) c.parts.i c.parts.invariant c.part_type_of-of.ensures.is c.part_type_of-of.ensures.there c.in_ok-next.ensures c.and-all.ensures)

pub patterns::tuple_pattern-returns : goal.patterns::tuple_pattern-returns
patterns::tuple_pattern-returns t c = patterns.repatterned (patterns.parts_all c.args.span c.args.may_fail c.args.parts.now c.parts.i (omega arith)) c.parts.invariant

-- ---- matches

pub matches::match_node-returns : goal.matches::match_node-returns
matches::match_node-returns t c = IfOk-weaker c.match_of.result _ _
    (λ j h. arms.match_walked c.args.span c.in_ok-of.ensures (own.arms_in_slice c.as_slice.ensures.value c.in_ok-all.ensures) h) c.match_of.ensures

pub matches::all_arms-arms-init : goal.matches::all_arms-arms-init
matches::all_arms-arms-init t c = own.arms_begun c.args.arms.now c.new-all.ensures.items

pub matches::all_arms-arms-preserved : goal.matches::all_arms-arms-preserved
matches::all_arms-arms-preserved t c = own.arms_next c.args.arms.now c.arms.i c.index-arms-i.result (omega arith) c.index-arms-i.is c.in_ok-push.ensures.items c.arms.invariant c.in_ok-one.ensures

pub matches::all_arms-returns : goal.matches::all_arms-returns
matches::all_arms-returns t c = arms.arms_by (ap (map arm_typed) (each.take_all c.args.arms.now c.arms.i (omega arith))) c.arms.invariant

pub matches::one_arm-returns : goal.matches::one_arm-returns
matches::one_arm-returns t c = own.arm_done c.args.arm.now c.len-count.ensures (walks.alternatives_of c.as_slice.ensures c.in_ok-alternatives.ensures) c.in_ok-value.ensures c.keep.ensures c.len.ensures

pub matches::bind_alternatives-returns : goal.matches::bind_alternatives-returns
matches::bind_alternatives-returns t c = record {
  middle = c.alternatives.new.s;
  names = c.alternatives.new.bound.items;
  walked = own.alternatives_from_none c.new-bound.ensures.items c.in_ok-all.ensures;
  is = c.in_ok-bind_last_first.ensures;
}

pub matches::alternatives-patterns-init : goal.matches::alternatives-patterns-init
matches::alternatives-patterns-init t c = arms.no_alternatives c.args.bound.now.items c.none-all.ensures

pub matches::alternatives-patterns-preserved : goal.matches::alternatives-patterns-preserved
matches::alternatives-patterns-preserved t c = arms.over_by (arms.next_upto pattern_typed c.args.patterns.now c.patterns.i c.index-patterns-i.result (omega arith) c.index-patterns-i.is)
    (arms.next_alternative (pattern_typed c.index-patterns-i.result) c.patterns.invariant (own.from_none c.new-names.ensures c.in_ok-next.ensures) c.in_ok-push.ensures.items
    (arms.binds_some c.pattern.new.names c.len-binds.result c.len-binds.ensures) c.and-all.ensures)

pub matches::alternatives-returns : goal.matches::alternatives-returns
matches::alternatives-returns t c = arms.alternatives_walked c.args.patterns.now c.patterns.i (omega arith) c.patterns.invariant

-- ---- loops

pub loops::loop_heads-returns : goal.loops::loop_heads-returns
loops::loop_heads-returns t c = own.heads_are (loops.heads_walked c.in_ok-from.ensures c.in_ok-to.ensures c.in_ok-start.ensures c.in_ok-written.ensures)

-- ---- calls

pub calls::call-returns-in-Effect : goal.calls::call-returns-in-Effect
calls::call-returns-in-Effect t c = IfOk-weaker c.effect_if_on_top.result _ _
    (λ j h. walk.retyped (own.call_effect _ c.in-Effect.direction c.in-Effect.count c.args.span c.args.name.now c.args.args.now c.args.operands.now c.args.on_top
    (sym c.in-Effect.is ∙ c.form_of.ensures ∙ own.formed c.callee_of-callee.ensures)) h) c.effect_if_on_top.ensures

pub calls::call-returns-in-Function : goal.calls::call-returns-in-Function
calls::call-returns-in-Function t c = IfOk-weaker c.function_call.result _ _
    (λ j h. walk.retyped (own.call_function _ c.args.span c.args.name.now c.args.args.now c.args.operands.now c.args.on_top
    (sym c.in-Function.is ∙ c.form_of.ensures ∙ own.formed c.callee_of-callee.ensures)) h) c.function_call.ensures

pub calls::call-returns-in-Builtin : goal.calls::call-returns-in-Builtin
calls::call-returns-in-Builtin t c = IfOk-weaker c.builtin.result _ _
    (λ j h. walk.retyped (own.call_builtin _ _ c.args.span c.args.name.now c.args.args.now c.args.operands.now c.args.on_top c.callee_of-callee.ensures
    (sym c.in-Builtin.is ∙ c.form_of.ensures ∙ own.formed c.callee_of-callee.ensures)) h) c.builtin.ensures

pub calls::function_call-returns : goal.calls::function_call-returns
calls::function_call-returns t c = IfOk-weaker c.call_of.result _ _
    (λ j h. walk.retyped (calls.call_parts_are c.args.span c.args.name.now c.args.args.now c.args.operands.now)
    (whole.call_from (own.in_slice c.as_slice.ensures.value c.in_ok-given.ensures) (own.in_slice c.as_slice-2.ensures.value c.in_ok-parts.ensures) h calls.places_reach))
    c.call_of.ensures

-- ---- builtins

pub builtins::builtin-returns-in-empty : goal.builtins::builtin-returns-in-empty
builtins::builtin-returns-in-empty t c = IfOk-weaker c.builtin_of.result _ _
    (λ j h. walk.retyped (own.builtin_formed _ _ c.args.span c.args.operands.now c.builtin_form.ensures ∙ calls.builtin_none _ c.args.span c.args.args.now c.args.operands.now (omega arith)) h) c.builtin_of.ensures

pub builtins::builtin-returns-in-len1-up : goal.builtins::builtin-returns-in-len1-up
builtins::builtin-returns-in-len1-up t c = IfOk-weaker c.refused.result _ _
    (λ j h. walk.retyped (calls.builtin_some _ c.args.span c.args.args.now c.args.operands.now (omega arith)) h) c.refused.ensures

pub builtins::refused-returns : goal.builtins::refused-returns
builtins::refused-returns t c = walk.retyped (calls.refused_is c.args.span c.args.args.now c.args.operands.now)
    (whole.call_from (own.in_slice c.as_slice.ensures.value c.in_ok-given.ensures) (own.in_slice c.as_slice-2.ensures.value c.in_ok-parts.ensures)
    (calls.refused_from (λ names later gs xs p are at. c.refused_call.ensures names later gs xs [] p are at c.none.ensures)) calls.places_reach)

pub builtins::joining-returns : goal.builtins::joining-returns
builtins::joining-returns t c = walk.by_half c.joining_typing.result c.joining_typing.ensures.grows c.joining_typing.ensures.items c.joining_typing.ensures.typed
    (λ j p h. walk.retyped (calls.joining_is c.args.span c.args.operands.now) (own.of_slice c.as_slice.ensures.value c.in_ok-tokens.ensures p h calls.places_reach))

pub builtins::counting-returns : goal.builtins::counting-returns
builtins::counting-returns t c = walk.by_half c.counting_typing.result c.counting_typing.ensures.grows c.counting_typing.ensures.items c.counting_typing.ensures.typed
    (λ j p h. walk.retyped (calls.counting_is c.args.gives_bool c.args.span c.args.operands.now) (own.of_slice c.as_slice.ensures.value c.in_ok-parts.ensures p h (calls.counting_reached c.args.span c.args.gives_bool)))

pub builtins::updating-returns : goal.builtins::updating-returns
builtins::updating-returns t c = walk.retyped (calls.updating_is c.args.span c.args.operands.now)
    (own.of_slice c.as_slice.ensures.value c.in_ok-parts.ensures (walk.same_types _) c.updating_typing.ensures (calls.updating_reached c.args.span))

-- ---- effects

pub effects::effect_if_on_top-returns : goal.effects::effect_if_on_top-returns
effects::effect_if_on_top-returns t c = walk.one_kept c.in_ok-own.ensures (c.only_on_top.ensures _) (effects.on_top_reached c.args.on_top c.args.span)

pub effects::effect-returns-then-fits_effect : goal.effects::effect-returns-then-fits_effect
effects::effect-returns-then-fits_effect t c = IfOk-weaker c.right_effect.result _ _
    (λ j h. walk.retyped (effects.effect_fits c.args.direction c.args.count c.args.span c.args.args.now c.args.operands.now (sym c.fits_effect.ensures ∙ c.if-fits_effect.true)) h) c.right_effect.ensures

pub effects::effect-returns-else-fits_effect : goal.effects::effect-returns-else-fits_effect
effects::effect-returns-else-fits_effect t c = IfOk-weaker c.wrong_effect.result _ _
    (λ j h. walk.retyped (effects.effect_unfit c.args.direction c.args.count c.args.span c.args.args.now c.args.operands.now (sym c.fits_effect.ensures ∙ c.if-fits_effect.false)) h) c.wrong_effect.ensures

pub effects::effect_of-returns : goal.effects::effect_of-returns
effects::effect_of-returns t c = walk.by_half c.effect_typing.result c.effect_typing.ensures.grows c.effect_typing.ensures.items c.effect_typing.ensures.typed
    (λ j p h. effects.effect_walked c.args.span c.args.direction c.in_ok-before.ensures c.in_ok-to.ensures (own.in_slice c.as_slice.ensures.value c.in_ok-rest.ensures) p h)

pub effects::wrong_effect-returns : goal.effects::wrong_effect-returns
effects::wrong_effect-returns t c = walk.retyped (effects.wrong_effect_is c.args.span c.args.args.now c.args.operands.now)
    (effects.wrong_walked c.args.span (own.in_slice c.as_slice.ensures.value c.in_ok-given.ensures) c.in_ok-places.ensures c.given_faults.ensures c.and-parts.ensures
    (λ names later fs reached p e. c.wrong_call_typing.ensures names later fs [] reached p e c.none.ensures))

-- ---- tokens

pub tokens::token-returns : goal.tokens::token-returns
tokens::token-returns t c = walk.one_kept c.in_ok-value.ensures c.token_typing.ensures (λ x. refl)

pub tokens::held-returns : goal.tokens::held-returns
tokens::held-returns t c = walk.one_kept c.in_ok-value.ensures c.held_typing.ensures (λ x. refl)

pub tokens::placed_token-returns : goal.tokens::placed_token-returns
tokens::placed_token-returns t c = each.at_place (out-Expr c.args.e.now).span c.in_ok-typing.ensures

pub tokens::all_tokens-operands-init : goal.tokens::all_tokens-operands-init
tokens::all_tokens-operands-init t c = own.each_begun placed_token c.args.operands.now c.new-all.ensures.items

pub tokens::all_tokens-operands-preserved : goal.tokens::all_tokens-operands-preserved
tokens::all_tokens-operands-preserved t c = own.each_next placed_token c.args.operands.now c.operands.i c.index-operands-i.result each.placed_stays (omega arith) c.index-operands-i.is c.in_ok-push.ensures.items c.operands.invariant c.in_ok-one.ensures

pub tokens::all_tokens-returns : goal.tokens::all_tokens-returns
tokens::all_tokens-returns t c = each.each_by (each.all_of placed_token c.args.operands.now c.operands.i (omega arith)) c.operands.invariant

pub tokens::channel-returns-in-Some : goal.tokens::channel-returns-in-Some
tokens::channel-returns-in-Some t c = effects.channel_walked c.args.e.now c.in-Some.name.now (sym c.name_of.ensures ∙ ap option_copied c.in-Some.is) c.channel_named.ensures

pub tokens::channel-returns-in_ok-typing-in-None : goal.tokens::channel-returns-in_ok-typing-in-None
tokens::channel-returns-in_ok-typing-in-None t c = effects.no_channel c.args.e.now (sym c.name_of.ensures ∙ ap option_copied c.in-None.is) c.in_ok-typing-in-None.ensures

-- ---- loops of the text

pub loops::loop_node-returns : goal.loops::loop_node-returns
loops::loop_node-returns t c =
    let heads = c.in_ok-heads.ensures in
    let index = c.in_ok-index.ensures in
    let acc = c.in_ok-accumulator.ensures in
    let bound = loops.index_moves (own.heads_of heads) c.same_ends-ty.ensures.is c.same_ends-ty.ensures.there index.walked index.is in
    let scope_now = loops.twice_behind index.names acc.names (index.walked.sight ∙ heads.sight) index.is acc.walked.sight acc.is in
    let back = arms.kept_names (acc.names ++ index.names) scope_now c.in_ok-inner.ensures.sight c.len-count.ensures c.keep.ensures in
    walk.by_half c.loop_typing.result c.loop_typing.ensures.grows c.loop_typing.ensures.items c.loop_typing.ensures.typed
    (λ j p h. loops.loop_walked c.args.span bound acc.walked acc.is c.in_ok-inner.ensures back p refl refl refl refl refl refl refl h)

-- ---- others

pub effects::right_effect-returns-in-len2-up : goal.effects::right_effect-returns-in-len2-up
effects::right_effect-returns-in-len2-up t c = IfOk-weaker c.effect_of.result _ _
    (λ j h. walk.retyped (effects.effect_there c.args.direction c.args.span c.args.args.now c.args.operands.now c.first-item.result c.end-item.result _
    (effects.some_operands c.args.operands.now c.first-item.result c.end-item.result c.in-len2-up.len_at_least c.first-item.is c.end-item.is)) h) c.effect_of.ensures

pub effects::wrong_operands-returns-in-empty : goal.effects::wrong_operands-returns-in-empty
effects::wrong_operands-returns-in-empty t c = effects.no_places c.args.operands.now c.in-empty.len_below c.none.ensures

pub effects::wrong_operands-returns-in_ok-before-in-len1 : goal.effects::wrong_operands-returns-in_ok-before-in-len1
effects::wrong_operands-returns-in_ok-before-in-len1 t c =
    effects.one_place c.args.operands.now c.first-item.result c.in-len1.len_at_least c.in-len1.len_below c.first-item.is c.in_ok-before-in-len1.ensures

pub effects::wrong_places-returns : goal.effects::wrong_places-returns
effects::wrong_places-returns t c = effects.some_places (c.args.first.now ∷ c.args.end.now ∷ c.args.others.now) c.args.first.now c.args.end.now c.args.others.now refl c.in_ok-before.ensures c.in_ok-to.ensures
    (own.in_slice c.as_slice.ensures.value c.in_ok-rest.ensures) c.faults_of_all.ensures c.and-behind.ensures c.and.ensures

pub effects::right_effect-returns-in_default : goal.effects::right_effect-returns-in_default
effects::right_effect-returns-in_default t c = IfOk-weaker c.wrong_effect.result _ _
    (λ j h. walk.retyped (effects.too_few c.args.direction c.args.span c.args.args.now c.args.operands.now c.in_default.len_below) h) c.wrong_effect.ensures

pub builtins::builtin_of-returns-in-Join : goal.builtins::builtin_of-returns-in-Join
builtins::builtin_of-returns-in-Join t c = IfOk-weaker c.joining.result _ _ (λ j h. walk.retyped (walks.by_form c.args.form forms.Join c.args.span c.args.operands.now c.in-Join.is) h) c.joining.ensures

pub builtins::builtin_of-returns-in-Update : goal.builtins::builtin_of-returns-in-Update
builtins::builtin_of-returns-in-Update t c = IfOk-weaker c.updating.result _ _ (λ j h. walk.retyped (walks.by_form c.args.form forms.Update c.args.span c.args.operands.now c.in-Update.is) h) c.updating.ensures

pub builtins::builtin_of-returns-in-Count : goal.builtins::builtin_of-returns-in-Count
builtins::builtin_of-returns-in-Count t c = IfOk-weaker c.counting.result _ _
    (λ j h. walk.retyped (walks.by_form c.args.form (forms.Count c.in-Count.gives_bool) c.args.span c.args.operands.now c.in-Count.is) h) c.counting.ensures
