use Rattle.std.proofs.Common.{arith, ◌∙◌, ◌+◌, ◌++◌, [], ◌∷◌, refl, sym, ap, ap₂, subst, take, map, Some, true, ◌≡◌}
use Rattle.std.proofs.lemmas.List.{take_all, take_more}
use Rattle.std.proofs.lemmas.Bool.Decides.{nat_tests}
use Rattle.std.proofs.lemmas.Result.{IfOk-weaker}
use Rattle.xb_value.specs.declared.ty.Ty as ty
use Rattle.dslx_meaning.specs.Lists.{and_then}
use Rattle.dslx_core.specs.declared.expr.CoreExpr as core
use Rattle.dslx_core.specs.declared.expr.Arm.{out-Arm}
use Rattle.dslx_core.specs.Types.Typing.{all_fit, arm_binds, binds_types, elements_alike, is_certain, shapes_of}
use Rattle.ir_lower_nodes.specs.Exprs.NodeTypes.{arm_node_type, if_node, node_type}
use Rattle.ir_lower.specs.Types.Signatures.{call_types}
use Rattle.ir_lower.specs.Types.Typed.{ArmsTyped, EachTyped}
use Rattle.ir_lower.proofs.OnTypes.OnArms.{arms_one, first_of, last_of, tested}
use Rattle.ir_lower.proofs.OnTypes.OnBound.{grown_twice, kept_behind}
use Rattle.ir_lower.proofs.OnTypes.OnKinds.{array_typed, binary_typed, bind_typed, call_typed, cast_typed, choose_typed, each_more, element_typed, index_typed, loop_typed, part_typed, same_bound, select_typed, slice_typed, tuple_typed, unary_typed, update_typed}
use Rattle.ir_lower.proofs.types.exprs.+types.Goals as goal

pub type_tuple-returns-clause-ty : goal.type_tuple-returns-clause-ty
type_tuple-returns-clause-ty t c =
    IfOk-weaker c.tuple.result _ _
    (λ u h. tuple_typed (call_types c.args.signatures.now) c.args.bound.now.items c.args.parts.now c.in_ok-types.types.items u c.in_ok-types.ensures.types h)
    c.tuple.ensures

pub type_array-returns-clause-ty : goal.type_array-returns-clause-ty
type_array-returns-clause-ty t c =
    IfOk-weaker c.array.result _ _
    (λ u h. array_typed (call_types c.args.signatures.now) c.args.bound.now.items c.args.elements.now c.in_ok-types.types.items u c.in_ok-types.ensures.types (subst (λ ts. if_node (elements_alike (map Some ts)) ≡ Some u) c.as_slice.ensures.value h))
    c.array.ensures

pub type_unary-returns-clause-ty : goal.type_unary-returns-clause-ty
type_unary-returns-clause-ty t c =
    IfOk-weaker c.unary.result _ _
    (λ u h. unary_typed (call_types c.args.signatures.now) c.args.bound.now.items c.args.op c.args.operand.now c.in_ok-a.a u c.in_ok-a.ensures.ty h)
    c.unary.ensures

pub type_binary-returns-clause-ty : goal.type_binary-returns-clause-ty
type_binary-returns-clause-ty t c =
    IfOk-weaker c.binary.result _ _
    (λ u h. binary_typed (call_types c.args.signatures.now) c.args.bound.now.items c.args.op c.args.left.now c.args.right.now c.in_ok-a.a c.in_ok-b.b u c.in_ok-a.ensures.ty (same_bound (call_types c.args.signatures.now) c.args.right.now c.args.bound.now.items c.type_of.new.bound.items c.in_ok-b.b (c.in_ok-a.ensures.kept) c.in_ok-b.ensures.ty) h)
    c.binary.ensures

pub type_cast-returns-clause-ty : goal.type_cast-returns-clause-ty
type_cast-returns-clause-ty t c =
    IfOk-weaker c.cast.result _ _
    (λ u h. λ sign. cast_typed (call_types c.args.signatures.now) c.args.bound.now.items sign c.args.width c.args.operand.now c.in_ok-a.a u c.in_ok-a.ensures.ty h)
    c.cast.ensures

pub type_slice-returns-clause-ty : goal.type_slice-returns-clause-ty
type_slice-returns-clause-ty t c =
    IfOk-weaker c.slice.result _ _
    (λ u h. slice_typed (call_types c.args.signatures.now) c.args.bound.now.items c.args.operand.now c.args.from c.args.width c.in_ok-a.a u c.in_ok-a.ensures.ty h)
    c.slice.ensures

pub type_part-returns-clause-ty : goal.type_part-returns-clause-ty
type_part-returns-clause-ty t c =
    IfOk-weaker c.part.result _ _
    (λ u h. part_typed (call_types c.args.signatures.now) c.args.bound.now.items c.args.operand.now c.args.start.now c.args.width c.in_ok-a.a c.in_ok-b.b u c.in_ok-a.ensures.ty (same_bound (call_types c.args.signatures.now) c.args.start.now c.args.bound.now.items c.type_of.new.bound.items c.in_ok-b.b (c.in_ok-a.ensures.kept) c.in_ok-b.ensures.ty) h)
    c.part.ensures

pub type_element-returns-clause-ty : goal.type_element-returns-clause-ty
type_element-returns-clause-ty t c =
    IfOk-weaker c.element.result _ _
    (λ u h. element_typed (call_types c.args.signatures.now) c.args.bound.now.items c.args.operand.now c.args.number c.in_ok-a.a u c.in_ok-a.ensures.ty h)
    c.element.ensures

pub type_index-returns-clause-ty : goal.type_index-returns-clause-ty
type_index-returns-clause-ty t c =
    IfOk-weaker c.index.result _ _
    (λ u h. index_typed (call_types c.args.signatures.now) c.args.bound.now.items c.args.array.now c.args.place.now c.in_ok-a.a c.in_ok-b.b u c.in_ok-a.ensures.ty (same_bound (call_types c.args.signatures.now) c.args.place.now c.args.bound.now.items c.type_of.new.bound.items c.in_ok-b.b (c.in_ok-a.ensures.kept) c.in_ok-b.ensures.ty) h)
    c.index.ensures

pub type_update-returns-clause-ty : goal.type_update-returns-clause-ty
type_update-returns-clause-ty t c =
    IfOk-weaker c.update.result _ _
    (λ u h. update_typed (call_types c.args.signatures.now) c.args.bound.now.items c.args.array.now c.args.place.now c.args.value.now c.in_ok-a.a c.in_ok-b.b c.in_ok-c.c u c.in_ok-a.ensures.ty (same_bound (call_types c.args.signatures.now) c.args.place.now c.args.bound.now.items c.type_of.new.bound.items c.in_ok-b.b (c.in_ok-a.ensures.kept) c.in_ok-b.ensures.ty) (same_bound (call_types c.args.signatures.now) c.args.value.now c.args.bound.now.items c.type_of-2.new.bound.items c.in_ok-c.c (c.in_ok-b.ensures.kept ∙ c.in_ok-a.ensures.kept) c.in_ok-c.ensures.ty) h)
    c.update.ensures

pub type_choose-returns-clause-ty : goal.type_choose-returns-clause-ty
type_choose-returns-clause-ty t c =
    IfOk-weaker c.choice.result _ _
    (λ u h. choose_typed (call_types c.args.signatures.now) c.args.bound.now.items c.args.test.now c.args.yes.now c.args.no.now c.in_ok-bit.bit c.in_ok-one.one c.in_ok-zero.zero u c.in_ok-bit.ensures.ty (same_bound (call_types c.args.signatures.now) c.args.yes.now c.args.bound.now.items c.type_of.new.bound.items c.in_ok-one.one (c.in_ok-bit.ensures.kept) c.in_ok-one.ensures.ty) (same_bound (call_types c.args.signatures.now) c.args.no.now c.args.bound.now.items c.type_of-2.new.bound.items c.in_ok-zero.zero (c.in_ok-one.ensures.kept ∙ c.in_ok-bit.ensures.kept) c.in_ok-zero.ensures.ty) h)
    c.choice.ensures

pub type_behind-returns-clause-kept : goal.type_behind-returns-clause-kept
type_behind-returns-clause-kept t c =
    c.truncate.ensures.items ∙ ap (take c.args.count) c.in_ok-ty.ensures.kept

pub type_under-returns-clause-kept : goal.type_under-returns-clause-kept
type_under-returns-clause-kept t c =
    IfOk-weaker c.type_behind.result _ _ (λ u k. kept_behind c.args.bound.now.items c.args.bound.now.items c.bind_all.new.bound.items c.type_behind.new.bound.items c.len-count.result refl (c.len-count.ensures ∙ c.args.bound.now.ok.0) c.in_ok-bind_all.ensures.kept k) c.type_behind.ensures.kept

pub type_under-returns-clause-ty : goal.type_under-returns-clause-ty
type_under-returns-clause-ty t c =
    IfOk-weaker c.type_behind.result _ _ (λ u h. ap (λ o. and_then o (node_type c.args.body.now (call_types c.args.signatures.now))) c.in_ok-bind_all.ensures.binds ∙ h) c.type_behind.ensures.ty

pub type_bind-returns-clause-ty : goal.type_bind-returns-clause-ty
type_bind-returns-clause-ty t c =
    IfOk-weaker c.within.result _ _
    (λ u h. bind_typed (call_types c.args.signatures.now) c.args.bound.now.items c.args.value.now c.args.shape.now c.args.body.now c.in_ok-a.a c.in_ok-ty.ty u c.in_ok-a.ensures.ty (subst (λ ts. and_then (binds_types true c.args.shape.now c.in_ok-a.a ts) (node_type c.args.body.now (call_types c.args.signatures.now)) ≡ Some c.in_ok-ty.ty) c.in_ok-a.ensures.kept c.in_ok-ty.ensures.ty) h)
    c.within.ensures

pub type_select-returns-clause-ty : goal.type_select-returns-clause-ty
type_select-returns-clause-ty t c =
    IfOk-weaker c.within.result _ _
    (λ u h. select_typed (call_types c.args.signatures.now) c.args.bound.now.items c.args.value.now c.args.arms.now c.in_ok-a.a c.in_ok-ty.ty u c.in_ok-a.ensures.ty (subst (λ ts. ArmsTyped c.args.signatures.now c.args.arms.now c.args.arms.now c.in_ok-a.a ts c.in_ok-ty.ty) c.in_ok-a.ensures.kept c.in_ok-ty.ensures.ty) h)
    c.within.ensures

pub type_arm-returns-clause-kept : goal.type_arm-returns-clause-kept
type_arm-returns-clause-kept t c =
    IfOk-weaker c.type_behind.result _ _ (λ u k. kept_behind c.args.bound.now.items c.args.bound.now.items c.bind_arm.new.bound.items c.type_behind.new.bound.items c.len-count.result refl (c.len-count.ensures ∙ c.args.bound.now.ok.0) c.in_ok-bind_arm.ensures.kept k) c.type_behind.ensures.kept

pub type_arm-returns-clause-ty : goal.type_arm-returns-clause-ty
type_arm-returns-clause-ty t c =
    IfOk-weaker c.type_behind.result _ _ (λ u h. ap (λ o. and_then o (node_type (out-Arm c.args.arm.now).value (call_types c.args.signatures.now))) (subst (λ shapes. arm_binds shapes c.args.ty.now c.args.bound.now.items ≡ Some c.bind_arm.new.bound.items) c.as_slice.ensures c.in_ok-bind_arm.ensures.binds) ∙ h) c.type_behind.ensures.ty

pub type_turn-returns-clause-kept : goal.type_turn-returns-clause-kept
type_turn-returns-clause-kept t c =
    IfOk-weaker c.type_behind.result _ _ (λ u k. kept_behind c.args.bound.now.items c.args.bound.now.items c.bind_all-2.new.bound.items c.type_behind.new.bound.items c.len-count.result refl (c.len-count.ensures ∙ c.args.bound.now.ok.0) (grown_twice c.args.bound.now.items c.bind_all.new.bound.items c.bind_all-2.new.bound.items c.in_ok-bind_all.ensures.kept c.in_ok-bind_all-2.ensures.kept) k) c.type_behind.ensures.kept

pub type_call-returns-clause-ty : goal.type_call-returns-clause-ty
type_call-returns-clause-ty t c =
    IfOk-weaker c.called.result _ _
    (λ u h. call_typed (call_types c.args.signatures.now) c.args.bound.now.items c.args.number c.args.operands.now c.in_ok-types.types.items u c.in_ok-types.ensures.types h)
    c.called.ensures

pub type_of-returns-in-Literal-clause-ty : goal.type_of-returns-in-Literal-clause-ty
type_of-returns-in-Literal-clause-ty t c =
    IfOk-weaker c.type_literal.result _ _ (λ u h. ap (λ e. node_type e (call_types c.args.signatures.now) c.args.bound.now.items) (c.in-Literal.is) ∙ h (call_types c.args.signatures.now) c.args.bound.now.items) c.type_literal.ensures

pub type_of-returns-in-Slot-clause-ty : goal.type_of-returns-in-Slot-clause-ty
type_of-returns-in-Slot-clause-ty t c =
    IfOk-weaker c.type_slot.result _ _ (λ u h. ap (λ e. node_type e (call_types c.args.signatures.now) c.args.bound.now.items) c.in-Slot.is ∙ (ap (λ ts. node_type (core.Slot c.in-Slot.number) (call_types c.args.signatures.now) ts) (sym c.as_slice.ensures.value) ∙ h (call_types c.args.signatures.now))) c.type_slot.ensures

pub type_of-returns-in-Tuple-clause-ty : goal.type_of-returns-in-Tuple-clause-ty
type_of-returns-in-Tuple-clause-ty t c =
    IfOk-weaker c.type_tuple.result _ _ (λ u h. ap (λ e. node_type e (call_types c.args.signatures.now) c.args.bound.now.items) (c.in-Tuple.is ∙ ap core.Tuple (sym c.as_slice-in-Tuple.ensures)) ∙ h) c.type_tuple.ensures.ty

pub type_of-returns-in-Array-clause-ty : goal.type_of-returns-in-Array-clause-ty
type_of-returns-in-Array-clause-ty t c =
    IfOk-weaker c.type_array.result _ _ (λ u h. ap (λ e. node_type e (call_types c.args.signatures.now) c.args.bound.now.items) (c.in-Array.is ∙ ap core.Array (sym c.as_slice-in-Array.ensures)) ∙ h) c.type_array.ensures.ty

pub type_of-returns-in-Unary-clause-ty : goal.type_of-returns-in-Unary-clause-ty
type_of-returns-in-Unary-clause-ty t c =
    IfOk-weaker c.type_unary.result _ _ (λ u h. ap (λ e. node_type e (call_types c.args.signatures.now) c.args.bound.now.items) (c.in-Unary.is ∙ ap (λ e. core.Unary c.in-Unary.op e) (sym c.get.ensures)) ∙ h) c.type_unary.ensures.ty

pub type_of-returns-in-Binary-clause-ty : goal.type_of-returns-in-Binary-clause-ty
type_of-returns-in-Binary-clause-ty t c =
    IfOk-weaker c.type_binary.result _ _ (λ u h. ap (λ e. node_type e (call_types c.args.signatures.now) c.args.bound.now.items) (c.in-Binary.is ∙ ap₂ (λ d e. core.Binary c.in-Binary.op d e) (sym c.get-in-Binary.ensures) (sym c.get-in-Binary-2.ensures)) ∙ h) c.type_binary.ensures.ty

pub type_of-returns-in-Cast-clause-ty : goal.type_of-returns-in-Cast-clause-ty
type_of-returns-in-Cast-clause-ty t c =
    IfOk-weaker c.type_cast.result _ _ (λ u h. ap (λ e. node_type e (call_types c.args.signatures.now) c.args.bound.now.items) (c.in-Cast.is ∙ ap (λ e. core.Cast c.in-Cast.field-0 c.in-Cast.width e) (sym c.get-in-Cast.ensures)) ∙ h c.in-Cast.field-0) c.type_cast.ensures.ty

pub type_of-returns-in-Slice-clause-ty : goal.type_of-returns-in-Slice-clause-ty
type_of-returns-in-Slice-clause-ty t c =
    IfOk-weaker c.type_slice.result _ _ (λ u h. ap (λ e. node_type e (call_types c.args.signatures.now) c.args.bound.now.items) (c.in-Slice.is ∙ ap (λ e. core.Slice e c.in-Slice.from c.in-Slice.width) (sym c.get-in-Slice.ensures)) ∙ h) c.type_slice.ensures.ty

pub type_of-returns-in-Part-clause-ty : goal.type_of-returns-in-Part-clause-ty
type_of-returns-in-Part-clause-ty t c =
    IfOk-weaker c.type_part.result _ _ (λ u h. ap (λ e. node_type e (call_types c.args.signatures.now) c.args.bound.now.items) (c.in-Part.is ∙ ap₂ (λ d e. core.Part d e c.in-Part.width) (sym c.get-in-Part.ensures) (sym c.get-in-Part-2.ensures)) ∙ h) c.type_part.ensures.ty

pub type_of-returns-in-Element-clause-ty : goal.type_of-returns-in-Element-clause-ty
type_of-returns-in-Element-clause-ty t c =
    IfOk-weaker c.type_element.result _ _ (λ u h. ap (λ e. node_type e (call_types c.args.signatures.now) c.args.bound.now.items) (c.in-Element.is ∙ ap (λ e. core.Element e c.in-Element.number) (sym c.get-in-Element.ensures)) ∙ h) c.type_element.ensures.ty

pub type_of-returns-in-Index-clause-ty : goal.type_of-returns-in-Index-clause-ty
type_of-returns-in-Index-clause-ty t c =
    IfOk-weaker c.type_index.result _ _ (λ u h. ap (λ e. node_type e (call_types c.args.signatures.now) c.args.bound.now.items) (c.in-Index.is ∙ ap₂ core.Index (sym c.get-in-Index.ensures) (sym c.get-in-Index-2.ensures)) ∙ h) c.type_index.ensures.ty

pub type_of-returns-in-Update-clause-ty : goal.type_of-returns-in-Update-clause-ty
type_of-returns-in-Update-clause-ty t c =
    IfOk-weaker c.type_update.result _ _ (λ u h. ap (λ e. node_type e (call_types c.args.signatures.now) c.args.bound.now.items) (c.in-Update.is ∙ (ap₂ (λ d e. core.Update d e c.in-Update.element) (sym c.get-in-Update.ensures) (sym c.get-in-Update-2.ensures) ∙ ap (core.Update c.get-in-Update.result.now c.get-in-Update-2.result.now) (sym c.get-in-Update-3.ensures))) ∙ h) c.type_update.ensures.ty

pub type_of-returns-in-Bind-clause-ty : goal.type_of-returns-in-Bind-clause-ty
type_of-returns-in-Bind-clause-ty t c =
    IfOk-weaker c.type_bind.result _ _ (λ u h. ap (λ e. node_type e (call_types c.args.signatures.now) c.args.bound.now.items) (c.in-Bind.is ∙ ap₂ (λ d e. core.Bind d c.in-Bind.shape e) (sym c.get-in-Bind.ensures) (sym c.get-in-Bind-2.ensures)) ∙ h) c.type_bind.ensures.ty

pub type_of-returns-in-Choose-clause-ty : goal.type_of-returns-in-Choose-clause-ty
type_of-returns-in-Choose-clause-ty t c =
    IfOk-weaker c.type_choose.result _ _ (λ u h. ap (λ e. node_type e (call_types c.args.signatures.now) c.args.bound.now.items) (c.in-Choose.is ∙ (ap₂ (λ d e. core.Choose d e c.in-Choose.no) (sym c.get-in-Choose.ensures) (sym c.get-in-Choose-2.ensures) ∙ ap (core.Choose c.get-in-Choose.result.now c.get-in-Choose-2.result.now) (sym c.get-in-Choose-3.ensures))) ∙ h) c.type_choose.ensures.ty

pub type_of-returns-in-Select-clause-ty : goal.type_of-returns-in-Select-clause-ty
type_of-returns-in-Select-clause-ty t c =
    IfOk-weaker c.type_select.result _ _ (λ u h. ap (λ e. node_type e (call_types c.args.signatures.now) c.args.bound.now.items) (c.in-Select.is ∙ ap₂ core.Select (sym c.get-in-Select.ensures) (sym c.as_slice-in-Select.ensures)) ∙ h) c.type_select.ensures.ty

pub type_of-returns-in-Loop-clause-ty : goal.type_of-returns-in-Loop-clause-ty
type_of-returns-in-Loop-clause-ty t c =
    IfOk-weaker c.type_loop.result _ _ (λ u h. ap (λ e. node_type e (call_types c.args.signatures.now) c.args.bound.now.items) (c.in-Loop.is ∙ ap₂ (λ d e. core.Loop c.in-Loop.field-0 c.in-Loop.from c.in-Loop.index c.in-Loop.shape d e) (sym c.get-in-Loop.ensures) (sym c.get-in-Loop-2.ensures)) ∙ h c.in-Loop.field-0) c.type_loop.ensures.ty

pub type_of-returns-in-Call-clause-ty : goal.type_of-returns-in-Call-clause-ty
type_of-returns-in-Call-clause-ty t c =
    IfOk-weaker c.type_call.result _ _ (λ u h. ap (λ e. node_type e (call_types c.args.signatures.now) c.args.bound.now.items) (c.in-Call.is ∙ ap (λ e. core.Call c.in-Call.number e) (sym c.as_slice-in-Call.ensures)) ∙ h) c.type_call.ensures.ty

pub type_each-exprs-init : goal.type_each-exprs-init
type_each-exprs-init t c = (refl, subst (λ ts. EachTyped c.args.signatures.now c.args.bound.now.items [] ts) (sym c.new-types.ensures.items) refl)

pub type_each-exprs-preserved : goal.type_each-exprs-preserved
type_each-exprs-preserved t c = (
  c.in_ok-type_of.ensures.kept ∙ c.exprs.invariant.0,
  subst (EachTyped c.args.signatures.now c.args.bound.now.items (take (c.exprs.expr-index + 1) c.args.exprs.now)) (sym c.in_ok-push.ensures.items)
      (each_more (call_types c.args.signatures.now) c.args.bound.now.items (take c.exprs.expr-index c.args.exprs.now) (take (c.exprs.expr-index + 1) c.args.exprs.now) c.expr-item.result c.exprs.types.items _
      (take_more c.args.exprs.now c.exprs.expr-index c.expr-item.result c.exprs-test.true ∙ ap (λ x. take c.exprs.expr-index c.args.exprs.now ++ x ∷ []) (sym c.expr-item.is)) c.exprs.invariant.1
      (same_bound (call_types c.args.signatures.now) c.expr-item.result c.args.bound.now.items c.exprs.bound.items _ c.exprs.invariant.0 c.in_ok-type_of.ensures.ty)),
)

pub type_each-returns-clause-types : goal.type_each-returns-clause-types
type_each-returns-clause-types t c = subst (λ es. EachTyped c.args.signatures.now c.args.bound.now.items es c.exprs.types.items) (take_all c.exprs.expr-index c.args.exprs.now c.exprs-test.false) c.exprs.invariant.1

pub type_loop-returns-clause-ty : goal.type_loop-returns-clause-ty
type_loop-returns-clause-ty t c =
    IfOk-weaker c.within.result _ _
    (λ u h. λ turns. loop_typed (call_types c.args.signatures.now) c.args.bound.now.items turns c.args.from c.args.index.now c.args.shape.now c.args.body.now c.args.start.now c.in_ok-first.first c.in_ok-last.last c.in_ok-ty.ty u c.in_ok-first.ensures.ty c.in_ok-last.ensures.word (subst (λ ts. and_then (binds_types true c.args.index.now (ty.Bits c.args.from.width) ts) (λ inner. and_then (binds_types true c.args.shape.now c.in_ok-first.first inner) (node_type c.args.body.now (call_types c.args.signatures.now))) ≡ Some c.in_ok-last.last) c.in_ok-first.ensures.kept c.in_ok-last.ensures.ty) c.in_ok-ty.ensures h)
    c.within.ensures

pub type_arms-returns-in-len1-clause-ty : goal.type_arms-returns-in-len1-clause-ty
type_arms-returns-in-len1-clause-ty t c =
    IfOk-weaker c.type_last.result _ _
    (λ u last. subst (λ arms. ArmsTyped c.args.signatures.now c.args.all.now arms c.args.ty.now c.args.bound.now.items u) (sym (arms_one c.args.arms.now _ c.in-len1.len_at_least c.in-len1.len_below c.last-item.is)) last)
    c.type_last.ensures.ty

pub type_first-returns-clause-ty : goal.type_first-returns-clause-ty
type_first-returns-clause-ty t c =
    IfOk-weaker c.alike.result _ _
    (λ u h. first_of (all_fit (shapes_of (map arm_node_type c.args.all.now)) c.args.ty.now) (call_types c.args.signatures.now) c.args.bound.now.items c.args.ty.now c.args.first.now c.args.rest.now c.in_ok-own.own c.in_ok-others.others u c.requires c.in_ok-own.ensures.ty
    (subst (λ ts. ArmsTyped c.args.signatures.now c.args.all.now c.args.rest.now c.args.ty.now ts c.in_ok-others.others) c.in_ok-own.ensures.kept c.in_ok-others.ensures.ty) h)
    c.alike.ensures

pub type_last-returns-then-branch-clause-ty : goal.type_last-returns-then-branch-clause-ty
type_last-returns-then-branch-clause-ty t c =
    IfOk-weaker c.type_behind.result _ _
    (λ u h. last_of (all_fit (shapes_of (map arm_node_type c.args.all.now)) c.args.ty.now) (call_types c.args.signatures.now) c.args.bound.now.items c.bind_arm.new.bound.items c.args.ty.now c.args.last.now c.in_ok-certain.certain _ u
    (tested c.in_ok-stands.field-0 _ c.in_ok-stands.ensures c.if-branch.true)
    (λ so. subst (λ ss. is_certain ss c.args.ty.now c.args.bound.now.items ≡ true) c.as_slice.ensures (tested c.in_ok-certain.certain _ c.in_ok-certain.ensures.certain so))
    (λ so. grind (arith, nat_tests, so, c.len.ensures, c.len-count.ensures, c.bind_arm.new.bound.ok.0, c.args.bound.now.ok.0))
    (subst (λ ts. arm_binds (out-Arm c.args.last.now).shapes c.args.ty.now ts ≡ Some c.bind_arm.new.bound.items) c.in_ok-certain.ensures.kept
    (subst (λ ss. arm_binds ss c.args.ty.now c.is_certain.new.bound.items ≡ Some c.bind_arm.new.bound.items) c.as_slice-2.ensures c.in_ok-bind_arm.ensures.binds)) h)
    c.type_behind.ensures.ty
