use Rattle.std.proofs.Common.{◌≡◌, ◌<◌, ℕ, Some, get_or}
use Rattle.std.specs.Prelude.{slice_get}
use Rattle.net_core.specs.declared.net.Chan.{Chan}
use Rattle.net_core.specs.declared.outcome.Stream.{Stream}
use Rattle.proc_task.specs.Outcome.Inner.Counts.{CountsFit}
use Rattle.proc_task.proofs.outcome.stops.all_fit.Given as goal

abbrev pub invariant-loop-c : goal.invariant-loop-c
invariant-loop-c l =
    (d : ℕ) (chan : Chan) (stream : Stream) → d < l.c → slice_get l.chans d ≡ Some chan → slice_get l.streams d ≡ Some stream → CountsFit chan.kind (get_or l.depths d 0) stream
