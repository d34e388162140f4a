use Rattle.std.proofs.Common.{◌≡◌, ◌≢◌, ◌≤◌, ℕ, Some, length}
use Rattle.std.specs.Prelude.{slice_get}
use Rattle.proc_runner.specs.Inner.Ended.{AreOutletsOf}
use Rattle.proc_runner.proofs.ports.outlets.Given as goal

abbrev pub invariant-loop-c : goal.invariant-loop-c
invariant-loop-c g l =
    (length l.sends.items ≡ length l.fn.sends.items)
    × ((d : ℕ) → slice_get l.senders d ≢ Some l.p → slice_get l.sends.items d ≡ slice_get l.fn.sends.items d)
    × ((d : ℕ) → l.c ≤ d → slice_get l.sends.items d ≡ slice_get l.fn.sends.items d)
    × AreOutletsOf l.p l.senders l.fn.sends.items l.c l.outlets.items
