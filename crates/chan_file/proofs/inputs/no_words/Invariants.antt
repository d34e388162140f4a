use Rattle.std.proofs.Common.{◌≡◌, [], replicate}
use Rattle.chan_file.proofs.inputs.no_words.Given as goal

abbrev pub invariant-words : goal.invariant-words
invariant-words l = l.words.items ≡ replicate l._made []
