use Rattle.std.proofs.Common.{◌≡◌, ◌%◌, ◌^◌, take}
use Rattle.std.specs.Prelude.{sum_by}
use Rattle.xb_bits.specs.Word.{Word}
use Rattle.xls_gen.proofs.level.word_sum.Given as goal

-- the sum so far
abbrev pub invariant-words : goal.invariant-words
invariant-words l = l.sum ≡ sum_by (λ (w : Word). w.value) (take l.word-index l.words) % 2 ^ 32
