use Rattle.std.proofs.Common.{◌∙◌, ◌≡◌, sym, ap, Some}
use Rattle.std.proofs.lemmas.Result.{IfOk-weaker}
use Rattle.xb_value.specs.declared.ty.Ty as ty
use Rattle.dslx_core.specs.declared.expr.Shape as shape
use Rattle.dslx_core.specs.Types.Typing.{binds_types}
use Rattle.ir_lower.proofs.OnTypes.OnBound.{bound_binds, equal_binds, grown_none, grown_one, same_shape, test_as, test_so, tuple_binds, wild_binds}
use Rattle.ir_lower.proofs.types.binding.+bind.Goals as goal

pub bind-returns-in-Wild-clause-kept : goal.bind-returns-in-Wild-clause-kept
bind-returns-in-Wild-clause-kept t c = grown_none c.args.bound.now.items

pub bind-returns-in-Wild-clause-binds : goal.bind-returns-in-Wild-clause-binds
bind-returns-in-Wild-clause-binds t c = same_shape c.args.certain c.args.shape.now shape.Wild c.args.ty.now c.args.bound.now.items c.args.bound.now.items c.in-Wild.is (wild_binds c.args.certain c.args.ty.now c.args.bound.now.items)

pub bind-returns-in-Bound-clause-kept : goal.bind-returns-in-Bound-clause-kept
bind-returns-in-Bound-clause-kept t c = IfOk-weaker c.bind_one.result _ _ (λ fits e. grown_one c.args.bound.now.items c.bind_one.new.bound.items c.args.ty.now e) c.bind_one.ensures

pub bind-returns-in-Bound-clause-binds : goal.bind-returns-in-Bound-clause-binds
bind-returns-in-Bound-clause-binds t c =
    IfOk-weaker c.bind_one.result _ _
    (λ fits e. test_so fits (binds_types c.args.certain c.args.shape.now c.args.ty.now c.args.bound.now.items ≡ Some c.bind_one.new.bound.items)
    (same_shape c.args.certain c.args.shape.now shape.Bound c.args.ty.now c.args.bound.now.items c.bind_one.new.bound.items c.in-Bound.is (bound_binds c.args.certain c.args.ty.now c.args.bound.now.items ∙ ap Some (sym e))))
    c.bind_one.ensures

pub bind-returns-in-Equal-clause-kept : goal.bind-returns-in-Equal-clause-kept
bind-returns-in-Equal-clause-kept t c = IfOk-weaker c.may_equal.result _ _ (λ fits e. grown_none c.args.bound.now.items) c.may_equal.ensures

pub bind-returns-in-Equal-clause-binds : goal.bind-returns-in-Equal-clause-binds
bind-returns-in-Equal-clause-binds t c =
    IfOk-weaker c.may_equal.result _ _
    (λ fits e. test_as fits _ _ (λ h. same_shape c.args.certain c.args.shape.now (shape.Equal _) c.args.ty.now c.args.bound.now.items c.args.bound.now.items c.in-Equal.is (equal_binds c.args.certain _ c.args.ty.now c.args.bound.now.items h.0 h.1)) e)
    c.may_equal.ensures

pub bind-returns-in-Tuple-clause-binds : goal.bind-returns-in-Tuple-clause-binds
bind-returns-in-Tuple-clause-binds t c =
    IfOk-weaker c.bind_parts.result _ _
    (λ fits e. test_as fits _ _ (λ h. same_shape c.args.certain c.args.shape.now (shape.Tuple c.as_slice.result.now) c.args.ty.now c.args.bound.now.items c.bind_parts.new.bound.items (c.in-Tuple.is ∙ ap shape.Tuple (sym c.as_slice.ensures)) h) e)
    c.bind_parts.ensures.binds

pub bind_parts-returns-in-Tuple-clause-binds : goal.bind_parts-returns-in-Tuple-clause-binds
bind_parts-returns-in-Tuple-clause-binds t c =
    IfOk-weaker c.bind_each.result _ _
    (λ fits e. test_as fits _ _
    (λ h. ap (λ u. binds_types c.args.certain (shape.Tuple c.args.shapes.now) u c.args.bound.now.items) (c.in-Tuple.is ∙ ap ty.Tuple (sym c.as_slice.ensures)) ∙ tuple_binds c.args.certain c.args.shapes.now c.as_slice.result.now c.args.bound.now.items c.bind_each.new.bound.items h) e)
    c.bind_each.ensures.binds
