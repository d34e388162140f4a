use Rattle.std.proofs.Common.{◌≡◌, ◌++◌, drop}
use Rattle.std.specs.Prelude.{flat_map}
use Rattle.cycle_sim.specs.Cycles.CycleText.{spaced_word}
use Rattle.cycle_sim.proofs.cycles.words.push_words.Given as goal

abbrev pub invariant-words : goal.invariant-words
invariant-words l = l.text.items ++ flat_map spaced_word (drop l.word-index l.words) ≡ l.initial.text.items ++ flat_map spaced_word l.words
