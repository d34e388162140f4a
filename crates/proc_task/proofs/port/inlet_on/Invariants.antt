use Rattle.std.proofs.Common.{◌≡◌, ◌≢◌, ℕ, ◌<◌, Some}
use Rattle.std.specs.Prelude.{slice_get}
use Rattle.proc_task.proofs.port.inlet_on.Given as goal

abbrev pub invariant-loop-inlet : goal.invariant-loop-inlet
invariant-loop-inlet g l = (k : ℕ) (inlet : _) → k < l.inlet-index → slice_get l.inlets k ≡ Some inlet → inlet.chan ≢ l.chan
