use Rattle.std.proofs.Common.{◌≡◌, Some, ap, sym, ◌∙◌}
use Rattle.std.specs.Prelude.{slice_get}
use Rattle.std.proofs.lemmas.Option.{slice_get-get_or}
use Rattle.dslx_core.specs.declared.expr.CoreExpr.{out-CoreExpr}
use Rattle.dslx_interp.specs.Eval.Inner.Direct.{layer}
use Rattle.dslx_interp.proofs.eval.direct.value_there.Goals as goal

pub returns-in-Some : goal.returns-in-Some
unfolding out-CoreExpr denote.Hole.Carrier.out
returns-in-Some c calls =
    let found = c.in-Some.ensures.lookup in
    let there : slice_get c.args.bound.now c.in-Slot.number ≡ Some c.in-Some.value.now =
    slice_get-get_or c.args.bound.now c.in-Slot.number c.in-Some.value.now found.3.0 ∙ ap Some (sym found.1) in
    ap (λ x. layer x calls c.args.bound.now) (ap out-CoreExpr c.in-Slot.is) ∙ there
