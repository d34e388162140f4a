-- How many events a run makes, and how many its outcome tells of.
use Rattle.std.specs.Prelude.{ℕ, zero, suc, ◌+◌, List, ◌∷◌, length, sum_by}
use Rattle.net_core.specs.declared.net.Chan.{Chan}
use Rattle.net_core.specs.declared.net.Kind.{Kind}
use Rattle.net_core.specs.declared.net.Kind.TheVariants.{Input, Output, Inner}
use Rattle.net_core.specs.declared.outcome.Outcome.{Outcome}
use Rattle.net_core.specs.declared.outcome.ProcEnd.{ProcEnd}
use Rattle.net_core.specs.declared.outcome.Stream.{Stream}
use Rattle.net_core.specs.Cuts.{Run, Cut}

-- what a function gives for the numbers below n, added up
abbrev pub added_below : (ℕ → ℕ) → ℕ → ℕ
added_below f zero = 0
added_below f (suc n) = added_below f n + f n

-- how many events procs have made in a cut
abbrev pub total_events : Run → Cut → ℕ
total_events run cut = added_below (λ p. length (cut p)) (length run.procs)

-- how many receives and sends of procs there were at a channel, by its stream: the outside sends the words of an input, and
-- receives those of an output
abbrev pub events_on : Kind → Stream → ℕ
events_on Input stream = stream.received
events_on Output stream = length stream.words
events_on Inner stream = length stream.words + stream.received

-- at all channels
abbrev pub events_over : List Chan → List Stream → ℕ
events_over (chan ∷ chans) (stream ∷ streams) = events_on chan.kind stream + events_over chans streams
events_over _ _ = 0

-- how many events an outcome tells of: receives, sends, and ends of activations
abbrev pub events_told : List Chan → Outcome → ℕ
events_told chans outcome = events_over chans outcome.streams + sum_by (λ (stand : ProcEnd). stand.ends) outcome.procs
