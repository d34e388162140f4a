use Rattle.std.proofs.Common.{◌≡◌}
use Rattle.xls_gen.specs.Design.Words.{words_below}
use Rattle.xls_gen.proofs.design.inputs.words_below.Given as goal

abbrev pub invariant-words : goal.invariant-words
invariant-words l = l.words.items ≡ words_below l.number
