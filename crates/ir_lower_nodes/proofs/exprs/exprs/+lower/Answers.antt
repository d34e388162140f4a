use Rattle.std.proofs.Common.{◌∙◌, ◌+◌, ◌++◌, [], ◌∷◌, refl, sym, ap, ap₂, subst, take, arith}
use Rattle.std.proofs.lemmas.List.{take_all, take_more}
use Rattle.dslx_core.specs.declared.expr.CoreExpr as core
use Rattle.dslx_core.specs.CoreValues.{core_value}
use Rattle.ir_lower_nodes.specs.Exprs.NodeTypes.{node_type}
use Rattle.ir_lower_nodes.specs.Exprs.Calls.{calls_below, types_below}
use Rattle.ir_lower_nodes.proofs.OnExprs.OnAggregates.{each_none, each_step}
use Rattle.ir_lower_nodes.proofs.OnExprs.OnControl.{loop_first, loop_step}
use Rattle.std.proofs.lemmas.Result.{IfOk-weaker}
use Rattle.ir_lower_nodes.proofs.OnExprs.OnLowered.{same_slots, same_expr, literal_lowers, slot_lowers, unary_lowers, binary_lowers, cast_lowers, slice_lowers, part_lowers, element_lowers, index_lowers, update_lowers, choose_lowers, tuple_lowers, array_lowers, bind_lowers, select_lowers, loop_lowers, call_lowers, no_call_lowers, arm_lowers, last_lowers, none_lowers, choice_lowers, turn_lowers, kept_behind, none_item}
use Rattle.dslx_core.specs.declared.expr.Arm.{out-Arm}
use Rattle.ir_lower_nodes.proofs.Lemmas.Patterns.{BindsTo, grown_twice, one_item}
use Rattle.ir_lower_nodes.specs.Exprs.Lowered.{slot_or_state, Lowers, EachLowers, EachLowersBy, ArmsLower, TurnLowers}
use Rattle.ir_lower_nodes.proofs.exprs.exprs.+lower.Goals as goal

pub lower_unary-returns-clause-value : goal.lower_unary-returns-clause-value
lower_unary-returns-clause-value t c =
    IfOk-weaker c.unary.result _ _
    (λ o call. unary_lowers c.args.functions.now c.args.slots.now.items c.args.op c.args.operand.now c.args.nodes.now c.lower.new.nodes c.unary.new.nodes c.in_ok-a.a o c.in_ok-a.ensures.value call)
    c.unary.ensures

pub lower_binary-returns-clause-value : goal.lower_binary-returns-clause-value
lower_binary-returns-clause-value t c =
    IfOk-weaker c.binary.result _ _
    (λ o call. binary_lowers c.args.functions.now c.args.slots.now.items c.args.op c.args.left.now c.args.right.now c.args.nodes.now c.lower.new.nodes c.lower-2.new.nodes c.binary.new.nodes c.in_ok-a.a c.in_ok-b.b o c.in_ok-a.ensures.value (same_slots c.args.functions.now c.args.right.now c.args.slots.now.items c.lower.new.slots.items c.lower.new.nodes c.lower-2.new.nodes c.in_ok-b.b (c.in_ok-a.ensures.kept) c.in_ok-b.ensures.value) call)
    c.binary.ensures

pub lower_cast-returns-clause-value : goal.lower_cast-returns-clause-value
lower_cast-returns-clause-value t c =
    IfOk-weaker c.cast.result _ _
    (λ o call. cast_lowers c.args.functions.now c.args.slots.now.items c.args.sign c.args.width c.args.operand.now c.args.nodes.now c.lower.new.nodes c.cast.new.nodes c.in_ok-a.a o c.in_ok-a.ensures.value call)
    c.cast.ensures

pub lower_slice-returns-clause-value : goal.lower_slice-returns-clause-value
lower_slice-returns-clause-value t c =
    IfOk-weaker c.slice.result _ _
    (λ o call. slice_lowers c.args.functions.now c.args.slots.now.items c.args.operand.now c.args.from c.args.width c.from.result c.from-2.result c.args.nodes.now c.lower.new.nodes c.slice.new.self c.in_ok-a.a o c.from.ensures c.from-2.ensures c.in_ok-a.ensures.value call)
    c.slice.ensures

pub lower_part-returns-clause-value : goal.lower_part-returns-clause-value
lower_part-returns-clause-value t c =
    IfOk-weaker c.part.result _ _
    (λ o call. part_lowers c.args.functions.now c.args.slots.now.items c.args.operand.now c.args.start.now c.args.width c.from.result c.args.nodes.now c.lower.new.nodes c.lower-2.new.nodes c.part.new.self c.in_ok-a.a c.in_ok-b.b o c.from.ensures c.in_ok-a.ensures.value (same_slots c.args.functions.now c.args.start.now c.args.slots.now.items c.lower.new.slots.items c.lower.new.nodes c.lower-2.new.nodes c.in_ok-b.b (c.in_ok-a.ensures.kept) c.in_ok-b.ensures.value) call)
    c.part.ensures

pub lower_element-returns-clause-value : goal.lower_element-returns-clause-value
lower_element-returns-clause-value t c =
    IfOk-weaker c.element.result _ _
    (λ o call. element_lowers c.args.functions.now c.args.slots.now.items c.args.operand.now c.args.number c.args.nodes.now c.lower.new.nodes c.element.new.self c.in_ok-a.a o c.in_ok-a.ensures.value call)
    c.element.ensures

pub lower_index-returns-clause-value : goal.lower_index-returns-clause-value
lower_index-returns-clause-value t c =
    IfOk-weaker c.index.result _ _
    (λ o call. index_lowers c.args.functions.now c.args.slots.now.items c.args.array.now c.args.index.now c.args.nodes.now c.lower.new.nodes c.lower-2.new.nodes c.index.new.self c.in_ok-a.a c.in_ok-b.b o c.in_ok-a.ensures.value (same_slots c.args.functions.now c.args.index.now c.args.slots.now.items c.lower.new.slots.items c.lower.new.nodes c.lower-2.new.nodes c.in_ok-b.b (c.in_ok-a.ensures.kept) c.in_ok-b.ensures.value) call)
    c.index.ensures

pub lower_update-returns-clause-value : goal.lower_update-returns-clause-value
lower_update-returns-clause-value t c =
    IfOk-weaker c.update.result _ _
    (λ o call. update_lowers c.args.functions.now c.args.slots.now.items c.args.array.now c.args.index.now c.args.element.now c.args.nodes.now c.lower.new.nodes c.lower-2.new.nodes c.lower-3.new.nodes c.update.new.self c.in_ok-a.a c.in_ok-b.b c.in_ok-c.c o c.in_ok-a.ensures.value (same_slots c.args.functions.now c.args.index.now c.args.slots.now.items c.lower.new.slots.items c.lower.new.nodes c.lower-2.new.nodes c.in_ok-b.b (c.in_ok-a.ensures.kept) c.in_ok-b.ensures.value) (same_slots c.args.functions.now c.args.element.now c.args.slots.now.items c.lower-2.new.slots.items c.lower-2.new.nodes c.lower-3.new.nodes c.in_ok-c.c (c.in_ok-b.ensures.kept ∙ c.in_ok-a.ensures.kept) c.in_ok-c.ensures.value) call)
    c.update.ensures

pub lower_choose-returns-clause-value : goal.lower_choose-returns-clause-value
lower_choose-returns-clause-value t c =
    IfOk-weaker c.choose.result _ _
    (λ o call. choose_lowers c.args.functions.now c.args.slots.now.items c.args.test.now c.args.yes.now c.args.no.now c.args.nodes.now c.lower.new.nodes c.lower-2.new.nodes c.lower-3.new.nodes c.choose.new.self c.in_ok-bit.bit c.in_ok-one.one c.in_ok-zero.zero o c.in_ok-bit.ensures.value (same_slots c.args.functions.now c.args.yes.now c.args.slots.now.items c.lower.new.slots.items c.lower.new.nodes c.lower-2.new.nodes c.in_ok-one.one (c.in_ok-bit.ensures.kept) c.in_ok-one.ensures.value) (same_slots c.args.functions.now c.args.no.now c.args.slots.now.items c.lower-2.new.slots.items c.lower-2.new.nodes c.lower-3.new.nodes c.in_ok-zero.zero (c.in_ok-one.ensures.kept ∙ c.in_ok-bit.ensures.kept) c.in_ok-zero.ensures.value) call)
    c.choose.ensures

pub lower_tuple-returns-clause-value : goal.lower_tuple-returns-clause-value
lower_tuple-returns-clause-value t c =
    IfOk-weaker c.tuple.result _ _
    (λ o call. tuple_lowers c.args.functions.now c.args.slots.now.items c.args.parts.now c.args.nodes.now c.lower_each.new.nodes c.tuple.new.self c.as_slice.result.now o (subst (λ os. EachLowers c.args.functions.now c.args.parts.now c.args.slots.now.items c.args.nodes.now c.lower_each.new.nodes os) (sym c.as_slice.ensures.value) c.in_ok-operands.ensures.values) call)
    c.tuple.ensures

pub lower_array-returns-clause-value : goal.lower_array-returns-clause-value
lower_array-returns-clause-value t c =
    IfOk-weaker c.array.result _ _
    (λ o call. array_lowers c.args.functions.now c.args.slots.now.items c.args.elements.now c.args.nodes.now c.lower_each.new.nodes c.array.new.self c.as_slice.result.now o (subst (λ os. EachLowers c.args.functions.now c.args.elements.now c.args.slots.now.items c.args.nodes.now c.lower_each.new.nodes os) (sym c.as_slice.ensures.value) c.in_ok-operands.ensures.values) call)
    c.array.ensures

pub lower_behind-returns-clause-kept : goal.lower_behind-returns-clause-kept
lower_behind-returns-clause-kept t c =
    c.truncate.ensures.items ∙ ap (take c.args.count) c.in_ok-value.ensures.kept

pub lower_bind-returns-clause-kept : goal.lower_bind-returns-clause-kept
lower_bind-returns-clause-kept t c =
    IfOk-weaker c.lower_behind.result _ _ (λ o k. kept_behind c.args.slots.now.items c.lower.new.slots.items c.bind.new.slots.items c.lower_behind.new.slots.items c.len-count.result c.in_ok-a.ensures.kept (c.len-count.ensures ∙ c.lower.new.slots.ok.0) c.in_ok-bind.ensures.kept k) c.lower_behind.ensures.kept

pub lower_bind-returns-clause-value : goal.lower_bind-returns-clause-value
lower_bind-returns-clause-value t c =
    IfOk-weaker c.lower_behind.result _ _
    (λ o last. bind_lowers c.args.functions.now c.args.slots.now.items c.args.value.now c.args.shape.now c.args.body.now c.bind.new.slots.items c.args.nodes.now c.lower.new.nodes c.bind.new.nodes c.lower_behind.new.nodes c.in_ok-a.a o c.in_ok-a.ensures.value
    (subst (λ os. BindsTo c.args.shape.now c.in_ok-a.a c.lower.new.nodes c.bind.new.nodes os c.bind.new.slots.items) c.in_ok-a.ensures.kept c.in_ok-bind.ensures.binds) last)
    c.lower_behind.ensures.value

pub lower_select-returns-clause-value : goal.lower_select-returns-clause-value
lower_select-returns-clause-value t c =
    IfOk-weaker c.lower_arms.result _ _
    (λ o last. select_lowers c.args.functions.now c.args.slots.now.items c.args.value.now c.args.arms.now c.args.nodes.now c.lower.new.nodes c.lower_arms.new.nodes c.in_ok-a.a o c.in_ok-a.ensures.value
    (subst (λ os. ArmsLower c.args.functions.now c.args.arms.now c.in_ok-a.a os c.lower.new.nodes c.lower_arms.new.nodes o) c.in_ok-a.ensures.kept last))
    c.lower_arms.ensures.value

pub lower_choice-returns-clause-value : goal.lower_choice-returns-clause-value
lower_choice-returns-clause-value t c =
    IfOk-weaker c.choose.result _ _
    (λ o call. choice_lowers c.args.functions.now c.args.slots.now.items c.args.first.now c.args.rest.now c.as_slice.result.now c.args.nodes.now c.fits_any.new.nodes c.lower_arm.new.nodes c.lower_arms.new.nodes c.choose.new.self c.args.a c.in_ok-fit.fit c.in_ok-one.one c.in_ok-others.others o c.requires c.as_slice.ensures
    c.in_ok-fit.ensures c.in_ok-one.ensures.value
    (subst (λ os. ArmsLower c.args.functions.now c.args.rest.now c.args.a os c.lower_arm.new.nodes c.lower_arms.new.nodes c.in_ok-others.others) c.in_ok-one.ensures.kept c.in_ok-others.ensures.value) call)
    c.choose.ensures

pub lower_arm-returns-clause-kept : goal.lower_arm-returns-clause-kept
lower_arm-returns-clause-kept t c =
    IfOk-weaker c.lower_behind.result _ _ (λ o k. kept_behind c.args.slots.now.items c.args.slots.now.items c.bind_arm.new.slots.items c.lower_behind.new.slots.items c.len-count.result refl (c.len-count.ensures ∙ c.args.slots.now.ok.0) c.in_ok-bind_arm.ensures.kept k) c.lower_behind.ensures.kept

pub lower_arm-returns-clause-value : goal.lower_arm-returns-clause-value
lower_arm-returns-clause-value t c =
    IfOk-weaker c.lower_behind.result _ _
    (λ o last. arm_lowers c.args.functions.now c.args.slots.now.items c.args.arm.now c.as_slice.result.now (out-Arm c.args.arm.now).value c.bind_arm.new.slots.items c.args.nodes.now c.bind_arm.new.nodes c.lower_behind.new.nodes c.args.a o c.as_slice.ensures refl c.in_ok-bind_arm.ensures.binds last)
    c.lower_behind.ensures.value

pub lower_turn-returns-clause-kept : goal.lower_turn-returns-clause-kept
lower_turn-returns-clause-kept t c =
    IfOk-weaker c.lower_behind.result _ _ (λ o k. kept_behind c.args.slots.now.items c.args.slots.now.items c.bind-2.new.slots.items c.lower_behind.new.slots.items c.len-count.result refl (c.len-count.ensures ∙ c.args.slots.now.ok.0) (grown_twice c.args.slots.now.items c.bind.new.slots.items c.bind-2.new.slots.items c.in_ok-bind.ensures.kept c.in_ok-bind-2.ensures.kept) k) c.lower_behind.ensures.kept

pub lower_turn-returns-clause-value : goal.lower_turn-returns-clause-value
lower_turn-returns-clause-value t c =
    IfOk-weaker c.lower_behind.result _ _
    (λ o last. turn_lowers c.args.functions.now c.args.slots.now.items c.args.index.now c.args.shape.now c.args.body.now c.args.place c.from.result c.value.result c.in_ok-number.number c.args.value o c.bind.new.slots.items c.bind-2.new.slots.items c.args.nodes.now c.number.new.self c.bind.new.nodes c.bind-2.new.nodes c.lower_behind.new.nodes (c.from.ensures ∙ c.width.ensures.width) c.value.ensures.value c.in_ok-number.ensures c.in_ok-bind.ensures.binds c.in_ok-bind-2.ensures.binds last)
    c.lower_behind.ensures.value

pub lower-returns-in-Literal-clause-value : goal.lower-returns-in-Literal-clause-value
lower-returns-in-Literal-clause-value t c =
    IfOk-weaker c.literal.result _ _
    (λ o call. same_expr c.args.functions.now c.args.expr.now (core.Literal _) c.args.slots.now.items c.args.nodes.now c.literal.new.nodes o c.in-Literal.is (literal_lowers c.args.functions.now c.args.slots.now.items _ c.args.nodes.now c.literal.new.nodes o call))
    c.literal.ensures

pub lower-returns-in-Slot-clause-value : goal.lower-returns-in-Slot-clause-value
lower-returns-in-Slot-clause-value t c =
    same_expr c.args.functions.now c.args.expr.now (core.Slot c.in-Slot.number) c.args.slots.now.items c.args.nodes.now c.args.nodes.now c.slot.result c.in-Slot.is
    (subst (λ o. Lowers c.args.functions.now (core.Slot c.in-Slot.number) c.args.slots.now.items c.args.nodes.now c.args.nodes.now o) (sym (c.slot.ensures ∙ ap (λ os. slot_or_state os c.in-Slot.number) c.as_slice.ensures.value)) (slot_lowers c.args.functions.now c.args.slots.now.items c.in-Slot.number c.args.nodes.now))

pub lower-returns-in-Tuple-clause-value : goal.lower-returns-in-Tuple-clause-value
lower-returns-in-Tuple-clause-value t c =
    IfOk-weaker c.lower_tuple.result _ _
    (λ o h. same_expr c.args.functions.now c.args.expr.now (core.Tuple c.as_slice-in-Tuple.result.now) c.args.slots.now.items c.args.nodes.now c.lower_tuple.new.nodes o (c.in-Tuple.is ∙ ap (λ e. core.Tuple e) (sym c.as_slice-in-Tuple.ensures)) h)
    c.lower_tuple.ensures.value

pub lower-returns-in-Array-clause-value : goal.lower-returns-in-Array-clause-value
lower-returns-in-Array-clause-value t c =
    IfOk-weaker c.lower_array.result _ _
    (λ o h. same_expr c.args.functions.now c.args.expr.now (core.Array c.as_slice-in-Array.result.now) c.args.slots.now.items c.args.nodes.now c.lower_array.new.nodes o (c.in-Array.is ∙ ap (λ e. core.Array e) (sym c.as_slice-in-Array.ensures)) h)
    c.lower_array.ensures.value

pub lower-returns-in-Unary-clause-value : goal.lower-returns-in-Unary-clause-value
lower-returns-in-Unary-clause-value t c =
    IfOk-weaker c.lower_unary.result _ _
    (λ o h. same_expr c.args.functions.now c.args.expr.now (core.Unary c.in-Unary.op c.get.result.now) c.args.slots.now.items c.args.nodes.now c.lower_unary.new.nodes o (c.in-Unary.is ∙ ap (λ e. core.Unary c.in-Unary.op e) (sym c.get.ensures)) h)
    c.lower_unary.ensures.value

pub lower-returns-in-Binary-clause-value : goal.lower-returns-in-Binary-clause-value
lower-returns-in-Binary-clause-value t c =
    IfOk-weaker c.lower_binary.result _ _
    (λ o h. same_expr c.args.functions.now c.args.expr.now (core.Binary c.in-Binary.op c.get-in-Binary.result.now c.get-in-Binary-2.result.now) c.args.slots.now.items c.args.nodes.now c.lower_binary.new.nodes o (c.in-Binary.is ∙ ap₂ (λ d e. core.Binary c.in-Binary.op d e) (sym c.get-in-Binary.ensures) (sym c.get-in-Binary-2.ensures)) h)
    c.lower_binary.ensures.value

pub lower-returns-in-Cast-clause-value : goal.lower-returns-in-Cast-clause-value
lower-returns-in-Cast-clause-value t c =
    IfOk-weaker c.lower_cast.result _ _
    (λ o h. same_expr c.args.functions.now c.args.expr.now (core.Cast c.in-Cast.sign c.in-Cast.width c.get-in-Cast.result.now) c.args.slots.now.items c.args.nodes.now c.lower_cast.new.nodes o (c.in-Cast.is ∙ ap (λ e. core.Cast c.in-Cast.sign c.in-Cast.width e) (sym c.get-in-Cast.ensures)) h)
    c.lower_cast.ensures.value

pub lower-returns-in-Slice-clause-value : goal.lower-returns-in-Slice-clause-value
lower-returns-in-Slice-clause-value t c =
    IfOk-weaker c.lower_slice.result _ _
    (λ o h. same_expr c.args.functions.now c.args.expr.now (core.Slice c.get-in-Slice.result.now c.in-Slice.from c.in-Slice.width) c.args.slots.now.items c.args.nodes.now c.lower_slice.new.nodes o (c.in-Slice.is ∙ ap (λ e. core.Slice e c.in-Slice.from c.in-Slice.width) (sym c.get-in-Slice.ensures)) h)
    c.lower_slice.ensures.value

pub lower-returns-in-Part-clause-value : goal.lower-returns-in-Part-clause-value
lower-returns-in-Part-clause-value t c =
    IfOk-weaker c.lower_part.result _ _
    (λ o h. same_expr c.args.functions.now c.args.expr.now (core.Part c.get-in-Part.result.now c.get-in-Part-2.result.now c.in-Part.width) c.args.slots.now.items c.args.nodes.now c.lower_part.new.nodes o (c.in-Part.is ∙ ap₂ (λ d e. core.Part d e c.in-Part.width) (sym c.get-in-Part.ensures) (sym c.get-in-Part-2.ensures)) h)
    c.lower_part.ensures.value

pub lower-returns-in-Element-clause-value : goal.lower-returns-in-Element-clause-value
lower-returns-in-Element-clause-value t c =
    IfOk-weaker c.lower_element.result _ _
    (λ o h. same_expr c.args.functions.now c.args.expr.now (core.Element c.get-in-Element.result.now c.in-Element.number) c.args.slots.now.items c.args.nodes.now c.lower_element.new.nodes o (c.in-Element.is ∙ ap (λ e. core.Element e c.in-Element.number) (sym c.get-in-Element.ensures)) h)
    c.lower_element.ensures.value

pub lower-returns-in-Index-clause-value : goal.lower-returns-in-Index-clause-value
lower-returns-in-Index-clause-value t c =
    IfOk-weaker c.lower_index.result _ _
    (λ o h. same_expr c.args.functions.now c.args.expr.now (core.Index c.get-in-Index.result.now c.get-in-Index-2.result.now) c.args.slots.now.items c.args.nodes.now c.lower_index.new.nodes o (c.in-Index.is ∙ ap₂ (λ d e. core.Index d e) (sym c.get-in-Index.ensures) (sym c.get-in-Index-2.ensures)) h)
    c.lower_index.ensures.value

pub lower-returns-in-Update-clause-value : goal.lower-returns-in-Update-clause-value
lower-returns-in-Update-clause-value t c =
    IfOk-weaker c.lower_update.result _ _
    (λ o h. same_expr c.args.functions.now c.args.expr.now (core.Update c.get-in-Update.result.now c.get-in-Update-2.result.now c.get-in-Update-3.result.now) c.args.slots.now.items c.args.nodes.now c.lower_update.new.nodes o (c.in-Update.is ∙ (ap₂ (λ d e. core.Update d e c.in-Update.element) (sym c.get-in-Update.ensures) (sym c.get-in-Update-2.ensures) ∙ ap (core.Update c.get-in-Update.result.now c.get-in-Update-2.result.now) (sym c.get-in-Update-3.ensures))) h)
    c.lower_update.ensures.value

pub lower-returns-in-Bind-clause-value : goal.lower-returns-in-Bind-clause-value
lower-returns-in-Bind-clause-value t c =
    IfOk-weaker c.lower_bind.result _ _
    (λ o h. same_expr c.args.functions.now c.args.expr.now (core.Bind c.get-in-Bind.result.now c.in-Bind.shape c.get-in-Bind-2.result.now) c.args.slots.now.items c.args.nodes.now c.lower_bind.new.nodes o (c.in-Bind.is ∙ ap₂ (λ d e. core.Bind d c.in-Bind.shape e) (sym c.get-in-Bind.ensures) (sym c.get-in-Bind-2.ensures)) h)
    c.lower_bind.ensures.value

pub lower-returns-in-Choose-clause-value : goal.lower-returns-in-Choose-clause-value
lower-returns-in-Choose-clause-value t c =
    IfOk-weaker c.lower_choose.result _ _
    (λ o h. same_expr c.args.functions.now c.args.expr.now (core.Choose c.get-in-Choose.result.now c.get-in-Choose-2.result.now c.get-in-Choose-3.result.now) c.args.slots.now.items c.args.nodes.now c.lower_choose.new.nodes o (c.in-Choose.is ∙ (ap₂ (λ d e. core.Choose d e c.in-Choose.no) (sym c.get-in-Choose.ensures) (sym c.get-in-Choose-2.ensures) ∙ ap (core.Choose c.get-in-Choose.result.now c.get-in-Choose-2.result.now) (sym c.get-in-Choose-3.ensures))) h)
    c.lower_choose.ensures.value

pub lower-returns-in-Select-clause-value : goal.lower-returns-in-Select-clause-value
lower-returns-in-Select-clause-value t c =
    IfOk-weaker c.lower_select.result _ _
    (λ o h. same_expr c.args.functions.now c.args.expr.now (core.Select c.get-in-Select.result.now c.as_slice-in-Select.result.now) c.args.slots.now.items c.args.nodes.now c.lower_select.new.nodes o (c.in-Select.is ∙ ap₂ core.Select (sym c.get-in-Select.ensures) (sym c.as_slice-in-Select.ensures)) h)
    c.lower_select.ensures.value

pub lower-returns-in-Loop-clause-value : goal.lower-returns-in-Loop-clause-value
lower-returns-in-Loop-clause-value t c =
    IfOk-weaker c.lower_loop.result _ _
    (λ o h. same_expr c.args.functions.now c.args.expr.now (core.Loop c.in-Loop.turns c.in-Loop.from c.in-Loop.index c.in-Loop.shape c.get-in-Loop.result.now c.get-in-Loop-2.result.now) c.args.slots.now.items c.args.nodes.now c.lower_loop.new.nodes o (c.in-Loop.is ∙ ap₂ (λ d e. core.Loop c.in-Loop.turns c.in-Loop.from c.in-Loop.index c.in-Loop.shape d e) (sym c.get-in-Loop.ensures) (sym c.get-in-Loop-2.ensures)) h)
    c.lower_loop.ensures.value

pub lower-returns-in-Call-clause-value : goal.lower-returns-in-Call-clause-value
lower-returns-in-Call-clause-value t c =
    IfOk-weaker c.lower_call.result _ _
    (λ o h. same_expr c.args.functions.now c.args.expr.now (core.Call c.in-Call.number c.as_slice-in-Call.result.now) c.args.slots.now.items c.args.nodes.now c.lower_call.new.nodes o (c.in-Call.is ∙ ap (λ e. core.Call c.in-Call.number e) (sym c.as_slice-in-Call.ensures)) h)
    c.lower_call.ensures.value

pub lower_each-exprs-init : goal.lower_each-exprs-init
lower_each-exprs-init t c = (refl, λ signatures n given. subst (λ os. EachLowersBy (types_below n signatures) (calls_below n c.args.functions.now) [] [] c.args.slots.now.items c.args.nodes.now c.args.nodes.now os) (sym c.new-operands.ensures.items) (each_none (types_below n signatures) (calls_below n c.args.functions.now) c.args.slots.now.items c.args.nodes.now))

pub lower_each-exprs-preserved : goal.lower_each-exprs-preserved
lower_each-exprs-preserved t c = (
  c.in_ok-lower.ensures.kept ∙ c.exprs.invariant.0,
  subst (EachLowers c.args.functions.now (take (c.exprs.expr-index + 1) c.args.exprs.now) c.args.slots.now.items c.args.nodes.now c.lower.new.nodes) (sym c.in_ok-push.ensures.items)
      (each_step c.args.functions.now c.args.slots.now.items (take c.exprs.expr-index c.args.exprs.now) (take (c.exprs.expr-index + 1) c.args.exprs.now) c.expr-item.result c.args.nodes.now c.exprs.nodes c.lower.new.nodes c.exprs.operands.items _
      (take_more c.args.exprs.now c.exprs.expr-index c.expr-item.result c.exprs-test.true ∙ ap (λ x. take c.exprs.expr-index c.args.exprs.now ++ x ∷ []) (sym c.expr-item.is)) c.exprs.invariant.1
      (same_slots c.args.functions.now c.expr-item.result c.args.slots.now.items c.exprs.slots.items c.exprs.nodes c.lower.new.nodes _ c.exprs.invariant.0 c.in_ok-lower.ensures.value)),
)

pub lower_each-returns-clause-values : goal.lower_each-returns-clause-values
lower_each-returns-clause-values t c = subst (λ es. EachLowers c.args.functions.now es c.args.slots.now.items c.args.nodes.now c.exprs.nodes c.exprs.operands.items)
    (take_all c.exprs.expr-index c.args.exprs.now c.exprs-test.false) c.exprs.invariant.1

pub lower_loop-turns-init : goal.lower_loop-turns-init
lower_loop-turns-init t c = (c.in_ok-value.ensures.kept, λ signatures n given. loop_first (types_below n signatures) (calls_below n c.args.functions.now) c.args.slots.now.items c.args.index.now c.args.shape.now (node_type c.args.body.now) (node_type c.args.start.now) (core_value c.args.body.now) (core_value c.args.start.now) c.args.turns c.args.from c.args.nodes.now c.lower.new.nodes c.in_ok-value.value (c.in_ok-value.ensures.value signatures n given))

pub lower_loop-turns-preserved : goal.lower_loop-turns-preserved
lower_loop-turns-preserved t c = (
  c.in_ok-value-2.ensures.kept ∙ c.turns.invariant.0,
  λ signatures n given. loop_step (types_below n signatures) (calls_below n c.args.functions.now) c.args.slots.now.items c.args.index.now c.args.shape.now (node_type c.args.body.now) (node_type c.args.start.now) (core_value c.args.body.now) (core_value c.args.start.now) c.args.turns c.turns.counter c.args.from c.turns.place c.next_index-place.result c.args.nodes.now c.turns.nodes c.lower_turn.new.nodes c.turns.value c.in_ok-value-2.value c.turns-test.true c.next_index-place.ensures (c.turns.invariant.1 signatures n given)
      (subst (λ os. TurnLowers c.args.functions.now c.args.index.now c.args.shape.now c.args.body.now c.turns.place c.turns.value os c.turns.nodes c.lower_turn.new.nodes c.in_ok-value-2.value) c.turns.invariant.0 c.in_ok-value-2.ensures.value signatures n given),
)

pub lower_loop-returns-clause-value : goal.lower_loop-returns-clause-value
lower_loop-returns-clause-value t c = loop_lowers c.args.functions.now c.args.slots.now.items c.args.turns c.turns.counter c.args.from c.turns.place c.args.index.now c.args.shape.now c.args.body.now c.args.start.now c.args.nodes.now c.turns.nodes c.turns.value (omega (arith, c.turns-test.false)) c.turns.invariant.1

pub lower_call-returns-in-Some-clause-value : goal.lower_call-returns-in-Some-clause-value
lower_call-returns-in-Some-clause-value t c =
    IfOk-weaker c.lower.result _ _
    (λ o body. call_lowers c.args.functions.now c.args.slots.now.items c.args.number c.in-Some.function.now c.args.operands.now c.args.nodes.now c.lower_each.new.nodes c.lower.new.nodes c.in_ok-inner.inner.items o c.in-Some.ensures c.in_ok-inner.ensures.values body)
    c.lower.ensures.value

pub lower_call-returns-clause-value : goal.lower_call-returns-clause-value
lower_call-returns-clause-value t c = no_call_lowers c.args.functions.now c.args.slots.now.items c.args.number c.args.operands.now c.args.nodes.now c.lower_each.new.nodes _ c.in-None.ensures

pub lower_arms-returns-in-empty-clause-value : goal.lower_arms-returns-in-empty-clause-value
lower_arms-returns-in-empty-clause-value t c = subst (λ arms. ArmsLower c.args.functions.now arms c.args.a c.args.slots.now.items c.args.nodes.now c.args.nodes.now c.args.a) (sym (none_item c.args.arms.now c.in-empty.len_below)) (none_lowers c.args.functions.now c.args.slots.now.items c.args.nodes.now c.args.nodes.now c.args.a c.args.a)

pub lower_arms-returns-in-len1-clause-value : goal.lower_arms-returns-in-len1-clause-value
lower_arms-returns-in-len1-clause-value t c =
    IfOk-weaker c.lower_arm.result _ _
    (λ o last. subst (λ arms. ArmsLower c.args.functions.now arms c.args.a c.args.slots.now.items c.args.nodes.now c.lower_arm.new.nodes o) (sym (one_item c.args.arms.now _ c.in-len1.len_at_least c.in-len1.len_below c.last-item.is)) (last_lowers c.args.functions.now c.args.slots.now.items _ c.args.nodes.now c.lower_arm.new.nodes c.args.a o last))
    c.lower_arm.ensures.value
