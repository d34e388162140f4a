-- What the counts of a channel and the ends of procs show.
use Rattle.std.specs.Prelude.{◌≡◌, ◌≤◌, ◌+◌, ℕ, Bool, true, false, List, [], length, get_or, slice_get, Option, Some, None}
use Rattle.xb_bits.specs.Word.{Word}
use Rattle.net_core.specs.declared.net.Chan.{Chan}
use Rattle.net_core.specs.declared.net.Kind.{Kind}
use Rattle.net_core.specs.declared.net.Kind.TheVariants.{Input, Output, Inner}
use Rattle.net_core.specs.declared.outcome.ProcEnd.{ProcEnd}
use Rattle.net_core.specs.declared.outcome.Stall.{Stall}
use Rattle.net_core.specs.declared.outcome.Stream.{Stream}
use Rattle.net_core.specs.Cuts.{Proc, Run, Cut}
use Rattle.chan_queue.specs.Streams.Streams.{stands}
use Rattle.proc_task.specs.Moving.{end_at}

-- where the proc stands in a cut within the final one, with what it waits for
abbrev pub end_in : Run → Cut → ℕ → Proc → ProcEnd
end_in run cut p proc = end_at run proc (stands run proc (cut p))

-- what was received from the channel was sent, and what was sent has room, where procs are at both ends
abbrev pub CountsFit : Kind → ℕ → Stream → Type 0
CountsFit Input depth stream = Unit {0}
CountsFit Output depth stream = Unit {0}
CountsFit Inner depth stream = (stream.received ≤ length stream.words) × (length stream.words ≤ stream.received + depth)

abbrev pub AllFit : List Chan → List ℕ → List Stream → Type 0
AllFit chans depths streams = (c : ℕ) (chan : Chan) (stream : Stream) → slice_get chans c ≡ Some chan → slice_get streams c ≡ Some stream → CountsFit chan.kind (get_or depths c 0) stream

-- how many words there are to be received: of an input those of the outside
abbrev pub words_for : Kind → ℕ → Stream → ℕ
words_for Input outside stream = outside
words_for Output outside stream = length stream.words
words_for Inner outside stream = length stream.words

-- a proc that waits to send on the channel, or to receive from it, can't
abbrev pub Holds : Kind → ℕ → ℕ → Stream → Bool → Type 0
Holds kind outside depth stream true = (kind ≡ Inner) × (stream.received + depth ≤ length stream.words)
Holds kind outside depth stream false = words_for kind outside stream ≤ stream.received

pub record IsHeldBy (chans : List Chan) (inputs : List (List Word)) (depths : List ℕ) (streams : List Stream) (stall : Stall) : Type 0 where
  pub chan : Chan
  pub stream : Stream
  pub chan_is : slice_get chans stall.chan ≡ Some chan
  pub stream_is : slice_get streams stall.chan ≡ Some stream
  pub holds : Holds chan.kind (length (get_or inputs stall.chan [])) (get_or depths stall.chan 0) stream stall.sends

-- a proc that has ended so many activations, and waits for this, can't go: it isn't there, or all activations have ended
abbrev pub StaysAt : List Chan → List (List Word) → List ℕ → List Stream → ℕ → ℕ → Option Stall → Type 0
StaysAt chans inputs depths streams n ends None = n ≤ ends
StaysAt chans inputs depths streams n ends (Some stall) = IsHeldBy chans inputs depths streams stall

abbrev pub IsStuck : List Chan → List (List Word) → List ℕ → List Stream → ℕ → ProcEnd → Type 0
IsStuck chans inputs depths streams n end = StaysAt chans inputs depths streams n end.ends end.stall

abbrev pub AllStay : List Chan → List (List Word) → List ℕ → List Stream → ℕ → List ProcEnd → Type 0
AllStay chans inputs depths streams n ends = (p : ℕ) (end : ProcEnd) → slice_get ends p ≡ Some end → IsStuck chans inputs depths streams n end
