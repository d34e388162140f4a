use Rattle.std.proofs.Common.{◌≡◌, ◌≢◌, ◌<◌, ℕ, Some}
use Rattle.std.specs.Prelude.{slice_get}
use Rattle.proc_runner.proofs.ports.inlet_index.Given as goal

abbrev pub invariant-loop-place : goal.invariant-loop-place
invariant-loop-place g l = (k : ℕ) (inlet : _) → k < l.place → slice_get l.inlets k ≡ Some inlet → inlet.chan ≢ l.chan
