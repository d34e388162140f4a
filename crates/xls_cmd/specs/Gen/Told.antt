-- What is told of the run of a network over the words of a design: those that go out on channel `b`.
use Rattle.std.specs.Prelude.{◌≡◌, ℕ, List, [], Option, Some, None, slice_get}
use Rattle.xb_bits.specs.Word.{Word}
use Rattle.net_core.specs.Behavior.{Behavior}
use Rattle.net_core.specs.Cuts.{Run, final_cut}
use Rattle.net_core.specs.Outcomes.{outcome_of}
use Rattle.net_core.specs.WellFormed.{IsInputs, run_of}
use Rattle.net_core.specs.declared.net.Chan.{Chan}
use Rattle.net_core.specs.declared.net.Kind.{Kind}
use Rattle.net_core.specs.declared.net.Kind.TheVariants as kinds
use Rattle.net_core.specs.declared.net.Net.{Net}
use Rattle.net_core.specs.declared.outcome.Outcome.{Outcome}
use Rattle.net_core.specs.declared.outcome.Stream.{Stream}
use Rattle.xls_gen.specs.Events.{total_events}
use Rattle.xls_gen.specs.Level.{level_line}
use Rattle.xls_gen.specs.declared.level.Level.{Level}
use Rattle.xls_cmd.specs.Design.Written.{depths_by}

-- ---- channels `a` and `b`, whose numbers are 0 and 1

abbrev pub HasChannel : Net → ℕ → Kind → Type 0
HasChannel net c kind = (chan : Chan) × (slice_get net.chans c ≡ Some chan) × (chan.kind ≡ kind)

-- the words are those of the network's inputs, of which `a` is one; `b` is an output
pub record TakesItsWords (net : Net) (words : List (List Word)) : Type 0 where
  pub inputs : IsInputs net words
  pub a : HasChannel net 0 kinds.Input
  pub b : HasChannel net 1 kinds.Output

abbrev pub words_of_stream : Option Stream → List Word
words_of_stream None = []
words_of_stream (Some stream) = stream.words

-- the words that were sent on `b`
abbrev pub words_of_b : Outcome → List Word
words_of_b outcome = words_of_stream (slice_get outcome.streams 1)

-- ---- the run of a network over these words

-- 64 activations of each proc, each channel as deep as the network has it
abbrev pub made_run : List (List Word) → Net → List Behavior → Run
made_run words net behaviors = run_of net behaviors words 64 (depths_by None net)

abbrev pub made_outcome : List (List Word) → Net → List Behavior → Outcome
made_outcome words net behaviors = outcome_of (made_run words net behaviors) (final_cut (made_run words net behaviors))

-- its line, at this level
abbrev pub run_line : Level → List (List Word) → Net → List Behavior → List ℕ
run_line level words net behaviors = level_line level (words_of_b (made_outcome words net behaviors))

-- how many events it has
abbrev pub run_events : List (List Word) → Net → List Behavior → ℕ
run_events words net behaviors = total_events (made_run words net behaviors) (final_cut (made_run words net behaviors))
