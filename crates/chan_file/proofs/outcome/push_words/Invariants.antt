use Rattle.std.proofs.Common.{◌≡◌, ◌++◌, drop, string_bytes}
use Rattle.std.specs.Prelude.{flat_map}
use Rattle.chan_file.specs.OutcomeText.{word_text}
use Rattle.chan_file.proofs.outcome.push_words.Given as goal

abbrev pub invariant-words : goal.invariant-words
invariant-words l =
    string_bytes l.text ++ flat_map (word_text l.chan) (drop l.i l.words) ≡ string_bytes l.fn.text ++ flat_map (word_text l.chan) l.words
