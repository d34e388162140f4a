use Rattle.std.proofs.Common.{◌≡◌, Some, get_or, subst}
use Rattle.std.specs.Prelude.{slice_get}
use Rattle.std.proofs.lemmas.Option.{slice_get-get_or}
use Rattle.std.proofs.lemmas.Result.{IfOk-weaker}
use Rattle.ir_lower.specs.Inner.Made.{IsLoweredProc}
use Rattle.ir_lower.proofs.procs.proc_at.Goals as goal

pub returns-then-number-instances : goal.returns-then-number-instances
returns-then-number-instances c =
    IfOk-weaker c.proc_of.result _ _
    (λ p h. record {
      number = get_or c.as_slice-instances.result.now c.args.number 0;
      is = subst (λ xs. slice_get xs c.args.number ≡ Some (get_or c.as_slice-instances.result.now c.args.number 0)) c.as_slice-instances.ensures.value
          (slice_get-get_or c.as_slice-instances.result.now c.args.number 0 c.if-number-instances.true);
      instance = h.0;
      there = h.1;
      lowered = subst (λ chans. IsLoweredProc c.args.signatures.now c.args.design.now.functions chans h.0 p) c.as_slice.ensures h.2;
    })
    c.proc_of.ensures
