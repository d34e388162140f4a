use Rattle.std.proofs.Common.{◌≡◌, ◌<◌, ℕ, Some}
use Rattle.std.specs.Prelude.{slice_get}
use Rattle.net_core.specs.declared.outcome.ProcEnd.{ProcEnd}
use Rattle.proc_task.specs.Outcome.Inner.Counts.{IsStuck}
use Rattle.proc_task.proofs.outcome.stops.all_stay.Given as goal

abbrev pub invariant-loop-end : goal.invariant-loop-end
invariant-loop-end l =
    (p : ℕ) (end : ProcEnd) → p < l.end-index → slice_get l.ends p ≡ Some end → IsStuck l.chans l.inputs l.depths l.streams l.n end
