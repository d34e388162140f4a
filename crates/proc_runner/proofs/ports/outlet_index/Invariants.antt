use Rattle.std.proofs.Common.{◌≡◌, ◌≢◌, ◌<◌, ℕ, Some}
use Rattle.std.specs.Prelude.{slice_get}
use Rattle.proc_runner.proofs.ports.outlet_index.Given as goal

abbrev pub invariant-loop-place : goal.invariant-loop-place
invariant-loop-place g l = (k : ℕ) (outlet : _) → k < l.place → slice_get l.outlets k ≡ Some outlet → outlet.chan ≢ l.chan
