-- Networks with bounded channels: how far each proc comes, whatever the order of their events.
--
-- By hand: P and Q make two activations each, over channels c and d of depth 1. P sends its number i on c, then on d if
-- i is odd, and goes from 0 to 1 to 2. Q receives from d in its activation 0 alone, then from c.
--   round 1: P makes Send c 0, End 1. The next send on c would be the second: one word sent, none received, depth 1.
--            Q makes nothing, since no word was sent on d.
--   round 2: the same. So this is the final cut: P waits in activation 1 to send on c, Q in activation 0 to receive
--            from d; c has sent 0, and nothing was received.
-- With depth 2:
--   round 1: P makes Send c 0, End 1, Send c 1, Send d 1, End 2.
--   round 2: Q makes Recv d, Recv c, End 1, Recv c, End 0.
--   round 3: the same. c has sent 0 and 1, d has sent 1, all was received, and both are done.
use Rattle.std.specs.Prelude.{ℕ, zero, suc, ◌+◌, ◌*◌, Bool, true, ◌&&◌, not, List, [], ◌∷◌, ◌++◌, length, get_or, slice_get, nat_lt, if◌then◌else◌, ◌==◌, sum_by, Option, Some, None}
use Rattle.std.specs.List.{list_any}
use Rattle.base.specs.Lists.Prefix.{IsPrefix}
use Rattle.xb_bits.specs.Word.{Word}
use Rattle.xb_value.specs.declared.value.Value.{Value}
use Rattle.net_core.specs.declared.net.Site.{Site}
use Rattle.net_core.specs.declared.net.Chan.{Chan}
use Rattle.net_core.specs.declared.net.Kind.TheVariants.{Input, Output, Inner}
use Rattle.net_core.specs.declared.event.Event.{Event}
use Rattle.net_core.specs.declared.event.Event.TheVariants.{Recv, Send, End}
use Rattle.net_core.specs.Behavior.{Behavior, chan_at}
use Rattle.net_core.specs.Trace.{Histories, trace}

-- a proc: the state in which it opens, and what it does
pub record Proc : Type 0 where
  pub opening : Value
  pub behavior : Behavior

-- what decides a run: procs and channels by their numbers, the words that the outside sends on each channel,
-- how many activations each proc may end, and how many words each inner channel holds
pub record Run : Type 0 where
  pub procs : List Proc
  pub chans : List Chan
  pub inputs : List (List Word)
  pub activations : ℕ
  pub depths : List ℕ

-- how far each proc has come: the events that it has made, by its number
abbrev pub Cut : Type 0
Cut = ℕ → List Event

-- no proc has made an event
abbrev pub empty_cut : Cut
empty_cut p = []

-- the index of the first element that passes the test, or the length
abbrev pub index_of : {A : Type 0} → (A → Bool) → List A → ℕ
index_of test [] = 0
index_of test (x ∷ xs) = if test x then 0 else suc (index_of test xs)

-- the proc that sends on channel c, and the one that receives there: all sites of one end stand in one proc
abbrev pub sends_on : ℕ → Proc → Bool
sends_on c proc = list_any (λ (site : Site). site.sends && (site.chan == c)) proc.behavior.sites

abbrev pub receives_on : ℕ → Proc → Bool
receives_on c proc = list_any (λ (site : Site). not site.sends && (site.chan == c)) proc.behavior.sites

abbrev pub sender : Run → ℕ → ℕ
sender run c = index_of (sends_on c) run.procs

abbrev pub receiver : Run → ℕ → ℕ
receiver run c = index_of (receives_on c) run.procs

abbrev pub sites_of : Option Proc → List Site
sites_of None = []
sites_of (Some proc) = proc.behavior.sites

abbrev pub sites_at : Run → ℕ → List Site
sites_at run p = sites_of (slice_get run.procs p)

-- the words that these events of a proc send on channel c
unfoldable pub words_sent : List Site → ℕ → List Event → List Word
words_sent sites c [] = []
words_sent sites c (Recv i ∷ es) = words_sent sites c es
words_sent sites c (Send i w ∷ es) = if chan_at sites i == c then w ∷ words_sent sites c es else words_sent sites c es
words_sent sites c (End s ∷ es) = words_sent sites c es

-- how many words these events of a proc receive from channel c
unfoldable pub count_received : List Site → ℕ → List Event → ℕ
count_received sites c [] = 0
count_received sites c (Recv i ∷ es) = if chan_at sites i == c then suc (count_received sites c es) else count_received sites c es
count_received sites c (Send i w ∷ es) = count_received sites c es
count_received sites c (End s ∷ es) = count_received sites c es

-- all words that were sent on channel c up to a cut: those of an input are all there from the start
unfoldable pub words_by : Run → Cut → ℕ → Option Chan → List Word
words_by run cut c None = []
words_by run cut c (Some chan) =
    elim chan.kind [
      | Input ↦ get_or run.inputs c []
      | Output ↦ words_sent (sites_at run (sender run c)) c (cut (sender run c))
      | Inner ↦ words_sent (sites_at run (sender run c)) c (cut (sender run c))
    ]

unfoldable pub words_at : Run → Cut → Histories
words_at run cut c = words_by run cut c (slice_get run.chans c)

-- how many words were received from channel c up to a cut
unfoldable pub received_at : Run → Cut → ℕ → ℕ
received_at run cut c = count_received (sites_at run (receiver run c)) c (cut (receiver run c))

-- the j-th word, from 0, may be sent on channel c: on an inner channel, if fewer than its depth are then in it
unfoldable pub room_by : Run → Cut → ℕ → ℕ → Option Chan → Bool
room_by run cut c j None = true
room_by run cut c j (Some chan) =
    elim chan.kind [
      | Input ↦ true
      | Output ↦ true
      | Inner ↦ nat_lt j (received_at run cut c + get_or run.depths c 0)
    ]

unfoldable pub room_at : Run → Cut → ℕ → ℕ → Bool
room_at run cut c j = room_by run cut c j (slice_get run.chans c)

-- an event has room behind the events before it
unfoldable pub fits_after : List Site → (ℕ → ℕ → Bool) → List Event → Event → Bool
fits_after sites room before (Recv i) = true
fits_after sites room before (Send i w) = room (chan_at sites i) (length (words_sent sites (chan_at sites i) before))
fits_after sites room before (End s) = true

-- the longest prefix of the events, behind those before them, in which each event has room
unfoldable pub longest_fit : List Site → (ℕ → ℕ → Bool) → List Event → List Event → List Event
longest_fit sites room before [] = []
longest_fit sites room before (e ∷ es) =
    if fits_after sites room before e then e ∷ longest_fit sites room (before ++ e ∷ []) es else []

-- the trace of a proc over these words
unfoldable pub trace_of : ℕ → Histories → Option Proc → List Event
trace_of n words None = []
trace_of n words (Some proc) = trace proc.behavior n proc.opening words

-- how far a proc can come by itself from a cut: the longest prefix of its trace over the words that were sent, in
-- which each send has room by what was received
unfoldable pub reach : Run → Cut → ℕ → List Event
reach run cut p =
    longest_fit (sites_at run p) (room_at run cut) [] (trace_of run.activations (words_at run cut) (slice_get run.procs p))

-- each proc comes as far as it can by itself
abbrev pub round : Run → Cut → Cut
round run cut p = reach run cut p

-- the same where every channel has room for all words
abbrev pub unbounded_round : Run → Cut → Cut
unbounded_round run cut p = trace_of run.activations (words_at run cut) (slice_get run.procs p)

-- so many rounds, from the empty cut
abbrev pub rounds : (Cut → Cut) → ℕ → Cut
rounds next zero = empty_cut
rounds next (suc k) = next (rounds next k)

-- no run makes more events: each activation of a proc has at most one at each site, and its end
unfoldable pub most_events : Run → ℕ
most_events run = run.activations * sum_by (λ proc. suc (length proc.behavior.sites)) run.procs

-- what rounds from the empty cut come to, and no longer change
unfoldable pub final_cut : Run → Cut
final_cut run = rounds (round run) (most_events run)

-- the same without the bound of the depths
unfoldable pub unbounded_cut : Run → Cut
unbounded_cut run = rounds (unbounded_round run) (most_events run)

-- no proc is further in the one cut than in the other
abbrev pub IsWithin : Cut → Cut → Type 0
IsWithin cut limit = (p : ℕ) → IsPrefix (cut p) (limit p)
