use Rattle.std.proofs.Common.{◌≡◌, ◌≢◌, ℕ, ◌<◌, Some}
use Rattle.std.specs.Prelude.{slice_get}
use Rattle.proc_task.proofs.port.outlet_on.Given as goal

abbrev pub invariant-loop-outlet : goal.invariant-loop-outlet
invariant-loop-outlet g l = (k : ℕ) (outlet : _) → k < l.outlet-index → slice_get l.outlets k ≡ Some outlet → outlet.chan ≢ l.chan
