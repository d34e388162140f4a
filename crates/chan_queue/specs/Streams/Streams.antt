-- What goes over the channels of a run in the end, and procs that have come no further.
use Rattle.std.specs.Prelude.{◌≡◌, ◌<◌, ◌≤◌, ◌+◌, ℕ, Bool, List, length, get_or, slice_get, Some}
use Rattle.base.specs.Lists.Prefix.{IsPrefix}
use Rattle.chan_queue.specs.Stream.{Stream}
use Rattle.net_core.specs.declared.net.Chan.{Chan}
use Rattle.net_core.specs.declared.net.Site.{Site}
use Rattle.net_core.specs.declared.net.Kind.TheVariants.{Inner}
use Rattle.net_core.specs.declared.event.Event.{Event}
use Rattle.net_core.specs.Cuts.{Proc, Run, Cut, IsWithin, words_at, received_at, final_cut}
use Rattle.net_core.specs.Machine.{Position, opened, position_after, next_of}

-- the stream of a channel: the words of the final cut, and how many of them are received there
abbrev pub stream_in : Run → ℕ → Stream
stream_in run c = record { words = words_at run (final_cut run) c; received = received_at run (final_cut run) c }

-- where a proc stands after these events, if it received words of the streams
abbrev pub stands : Run → Proc → List Event → Position
stands run proc made = position_after proc.behavior.sites (opened proc) made (words_at run (final_cut run))

-- proc p has made these events, which are no more than in the final cut, and this one comes next
pub record StandsBefore (run : Run) (p : ℕ) (proc : Proc) (made : List Event) (event : Event) : Type 0 where
  pub proc_is : slice_get run.procs p ≡ Some proc
  pub within : IsPrefix made (final_cut run p)
  pub active : (stands run proc made).ends < run.activations
  pub next : next_of proc.behavior (stands run proc made) ≡ event

-- the site with index i is on an inner channel, in this direction
pub record IsSiteOn (run : Run) (proc : Proc) (i : ℕ) (site : Site) (sends : Bool) : Type 0 where
  pub place : slice_get proc.behavior.sites i ≡ Some site
  pub direction : site.sends ≡ sends
  pub chan : Chan
  pub chan_is : slice_get run.chans site.chan ≡ Some chan
  pub inner : chan.kind ≡ Inner

-- procs that have come no further than in the final cut, and whose inner channels' counts were compared: what was
-- received was sent, and what was sent had room
pub record AreStopped (run : Run) (cut : Cut) : Type 0 where
  pub within : IsWithin cut (final_cut run)
  pub received : (c : ℕ) (chan : Chan) → slice_get run.chans c ≡ Some chan → chan.kind ≡ Inner → received_at run cut c ≤ length (words_at run cut c)
  pub room : (c : ℕ) (chan : Chan) → slice_get run.chans c ≡ Some chan → chan.kind ≡ Inner → length (words_at run cut c) ≤ received_at run cut c + get_or run.depths c 0
