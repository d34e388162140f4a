-- The machine that makes the events of a run one at a time: what it shows at any moment is a cut.
use Rattle.std.specs.Prelude.{ℕ, suc, Bool, true, false, ◌&&◌, List, [], ◌∷◌, ◌++◌, length, take, slice_get, nat_lt, if◌then◌else◌, ◌==◌, Option, Some, None}
use Rattle.xb_bits.specs.Word.{Word}
use Rattle.xb_value.specs.declared.value.Value.{Value}
use Rattle.net_core.specs.declared.net.Site.{Site}
use Rattle.net_core.specs.declared.event.Event.{Event}
use Rattle.net_core.specs.declared.event.Event.TheVariants.{Recv, Send, End}
use Rattle.net_core.specs.Behavior.{Behavior, chan_at, next_event}
use Rattle.net_core.specs.Trace.{Histories, without_first}
use Rattle.net_core.specs.Cuts.{Proc, Run, Cut, count_received, words_at, room_at, fits_after}

-- where a proc stands: the state of the open activation, the words that it received in it, how many of its sites are
-- past, and how many activations ended before
pub record Position : Type 0 where
  pub state : Value
  pub got : List Word
  pub done : ℕ
  pub ends : ℕ

-- where a proc stands before its first event
abbrev pub opened : Proc → Position
opened proc = record { state = proc.opening; got = []; done = 0; ends = 0 }

-- where it stands after one event more: a receive takes its channel's first word
abbrev pub moved : List Site → Position → Event → Histories → Position
moved sites at (Recv i) words = record { state = at.state; got = at.got ++ take 1 (words (chan_at sites i)); done = suc i; ends = at.ends }
moved sites at (Send i w) words = record { state = at.state; got = at.got; done = suc i; ends = at.ends }
moved sites at (End s) words = record { state = s; got = []; done = 0; ends = suc at.ends }

-- the words that are left after the event
abbrev pub left_after : List Site → Event → Histories → Histories
left_after sites (Recv i) words = without_first words (chan_at sites i)
left_after sites (Send i w) words = words
left_after sites (End s) words = words

-- where it stands after these events
unfoldable pub position_after : List Site → Position → List Event → Histories → Position
position_after sites at [] words = at
position_after sites at (e ∷ es) words = position_after sites (moved sites at e words) es (left_after sites e words)

-- where a proc stands in a cut
abbrev pub position_in : Run → Cut → ℕ → Proc → Position
position_in run cut p proc = position_after proc.behavior.sites (opened proc) (cut p) (words_at run cut)

-- what a proc does next, if it isn't done
abbrev pub next_of : Behavior → Position → Event
next_of b at = next_event b at.state at.got at.done

-- a receive finds a word behind those that were received before
unfoldable pub finds_word : List Site → Histories → List Event → Event → Bool
finds_word sites words before (Recv i) = nat_lt (count_received sites (chan_at sites i) before) (length (words (chan_at sites i)))
finds_word sites words before (Send i w) = true
finds_word sites words before (End s) = true

-- a proc can go: it isn't done, and its next event has a word, or room, or needs neither
unfoldable pub goes_by : Run → Cut → ℕ → Option Proc → Bool
goes_by run cut p None = false
goes_by run cut p (Some proc) =
    let at = position_in run cut p proc in
    let event = next_of proc.behavior at in
    nat_lt at.ends run.activations && (finds_word proc.behavior.sites (words_at run cut) (cut p) event && fits_after proc.behavior.sites (room_at run cut) (cut p) event)

abbrev pub goes : Run → Cut → ℕ → Bool
goes run cut p = goes_by run cut p (slice_get run.procs p)

-- the cut with one event more of proc p
abbrev pub with_event : Cut → ℕ → Event → Cut
with_event cut p e q = if q == p then cut q ++ e ∷ [] else cut q

-- one step of proc p: its next event, if it can go
unfoldable pub stepped_by : Run → Cut → ℕ → Option Proc → Cut
stepped_by run cut p None = cut
stepped_by run cut p (Some proc) =
    if goes_by run cut p (Some proc) then with_event cut p (next_of proc.behavior (position_in run cut p proc)) else cut

abbrev pub stepped : Run → Cut → ℕ → Cut
stepped run cut p = stepped_by run cut p (slice_get run.procs p)

-- steps of these procs, one after another
abbrev pub after_steps : Run → Cut → List ℕ → Cut
after_steps run cut [] = cut
after_steps run cut (p ∷ ps) = after_steps run (stepped run cut p) ps
