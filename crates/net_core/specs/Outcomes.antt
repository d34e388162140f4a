-- What a cut leaves: the stream of each channel, and where each proc stands. All of it is read off the events that the
-- procs have made, and off their traces.
use Rattle.std.specs.Prelude.{ℕ, suc, true, false, List, [], ◌∷◌, ◌++◌, length, take, map, slice_get, Option, Some, None}
use Rattle.base.specs.Lists.Indexed.{indexed}
use Rattle.xb_bits.specs.Word.{word}
use Rattle.xb_value.specs.declared.value.Value.{Value}
use Rattle.net_core.specs.declared.net.Chan.{Chan}
use Rattle.net_core.specs.declared.net.Site.{Site}
use Rattle.net_core.specs.declared.net.Kind.TheVariants.{Input, Output, Inner}
use Rattle.net_core.specs.declared.event.Event.{Event}
use Rattle.net_core.specs.declared.event.Event.TheVariants.{Recv, Send, End}
use Rattle.net_core.specs.declared.outcome.Outcome.{Outcome}
use Rattle.net_core.specs.declared.outcome.Stream.{Stream}
use Rattle.net_core.specs.declared.outcome.ProcEnd.{ProcEnd}
use Rattle.net_core.specs.declared.outcome.Stall.{Stall}
use Rattle.net_core.specs.Behavior.{Behavior, chan_at}
use Rattle.net_core.specs.Trace.{Histories, trace}
use Rattle.net_core.specs.Cuts.{Proc, Run, Cut, words_at, received_at}

-- the words that were sent on a channel, of an input those that were received, and how many were received by procs
unfoldable pub stream_of : Run → Cut → ℕ → Chan → Stream
stream_of run cut c chan =
    elim chan.kind [
      | Input ↦ record { words = take (received_at run cut c) (words_at run cut c); received = received_at run cut c }
      | Output ↦ record { words = words_at run cut c; received = 0 }
      | Inner ↦ record { words = words_at run cut c; received = received_at run cut c }
    ]

-- the state behind these events of a proc: that of their last end, or else the one before them
unfoldable pub state_after : Value → List Event → Value
state_after s [] = s
state_after s (Recv i ∷ es) = state_after s es
state_after s (Send i w ∷ es) = state_after s es
state_after s (End t ∷ es) = state_after t es

-- how many activations end in them
unfoldable pub count_ends : List Event → ℕ
count_ends [] = 0
count_ends (Recv i ∷ es) = count_ends es
count_ends (Send i w ∷ es) = count_ends es
count_ends (End s ∷ es) = suc (count_ends es)

-- one word more on each channel. Which one plays no part: what a proc does next it does before it knows the word
abbrev pub with_one_more : Histories → Histories
with_one_more words c = words c ++ word 1 0 ∷ []

-- the event with which a proc's trace would go on behind those that it has made, were there one word more on each
-- channel. There is none where all its activations have ended
unfoldable pub next_in : Run → Cut → ℕ → Proc → Option Event
next_in run cut p proc =
    slice_get (trace proc.behavior run.activations proc.opening (with_one_more (words_at run cut))) (length (cut p))

-- what a proc with these sites waits for in an activation, by its next event. An end waits for nothing
abbrev pub stall_for : List Site → ℕ → Event → Option Stall
stall_for sites activation (Recv i) = Some (record { activation = activation; sends = false; chan = chan_at sites i })
stall_for sites activation (Send i w) = Some (record { activation = activation; sends = true; chan = chan_at sites i })
stall_for sites activation (End s) = None

-- the same, where there may be no next event
abbrev pub stall_by : List Site → ℕ → Option Event → Option Stall
stall_by sites activation None = None
stall_by sites activation (Some event) = stall_for sites activation event

-- what a proc waits for, unless all its activations have ended
unfoldable pub stall_in : Run → Cut → ℕ → Proc → Option Stall
stall_in run cut p proc = stall_by proc.behavior.sites (count_ends (cut p)) (next_in run cut p proc)

-- where a proc stands: the state after its last end, how many ends it made, and what it waits for
abbrev pub end_of : Run → Cut → ℕ → Proc → ProcEnd
end_of run cut p proc = record { state = state_after proc.opening (cut p); ends = count_ends (cut p); stall = stall_in run cut p proc }

-- the outcome of a cut
abbrev pub outcome_of : Run → Cut → Outcome
outcome_of run cut = record { streams = indexed (stream_of run cut) 0 run.chans; procs = indexed (end_of run cut) 0 run.procs }

-- what each proc does, in order
abbrev pub behaviors_of : Run → List Behavior
behaviors_of run = map (λ (proc : Proc). proc.behavior) run.procs
