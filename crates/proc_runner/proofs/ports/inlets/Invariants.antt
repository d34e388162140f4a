use Rattle.std.proofs.Common.{◌≡◌, ◌≢◌, ◌≤◌, ℕ, Some, length}
use Rattle.std.specs.Prelude.{slice_get}
use Rattle.proc_runner.specs.Inner.Ended.{AreInletsOf}
use Rattle.proc_runner.proofs.ports.inlets.Given as goal

abbrev pub invariant-loop-c : goal.invariant-loop-c
invariant-loop-c g l =
    (length l.recvs.items ≡ length l.fn.recvs.items)
    × ((d : ℕ) → slice_get l.receivers d ≢ Some l.p → slice_get l.recvs.items d ≡ slice_get l.fn.recvs.items d)
    × ((d : ℕ) → l.c ≤ d → slice_get l.recvs.items d ≡ slice_get l.fn.recvs.items d)
    × AreInletsOf l.p l.receivers l.fn.recvs.items l.c l.inlets.items
