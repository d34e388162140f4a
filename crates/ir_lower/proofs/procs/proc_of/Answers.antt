use Rattle.std.proofs.Common.{◌≡◌, Some, subst}
use Rattle.std.specs.Prelude.{slice_get}
use Rattle.std.proofs.lemmas.Result.{IfOk-weaker}
use Rattle.ir_lower.specs.Inner.Made.{IsLoweredProc}
use Rattle.ir_lower.proofs.OnLists.{at_index}
use Rattle.ir_lower.proofs.procs.proc_of.Goals as goal

pub returns-then-place-instances : goal.returns-then-place-instances
returns-then-place-instances c =
    IfOk-weaker c.lower_instance.result _ _
    (λ p h. (
      c.index-instances-place.result,
      subst (λ ps. slice_get ps c.args.number ≡ Some c.index-instances-place.result) c.as_slice-instances.ensures
          (at_index c.as_slice-instances.result.now c.args.number c.index-instances-place.result c.if-place-instances.true c.index-instances-place.is),
      subst (λ fs. IsLoweredProc c.args.signatures.now fs c.args.chans.now c.index-instances-place.result p) c.as_slice-functions.ensures h,
    ))
    c.lower_instance.ensures
