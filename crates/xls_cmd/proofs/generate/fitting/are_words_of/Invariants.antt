use Rattle.std.proofs.Common.{◌≡◌, ℕ, ◌<◌, slice_get, Some}
use Rattle.xb_bits.specs.Word.{Word}
use Rattle.net_core.specs.Behavior.{IsWordOf}
use Rattle.xb_value.specs.Width.{width_of}
use Rattle.xls_cmd.proofs.generate.fitting.are_words_of.Given as goal

abbrev pub invariant-words : goal.invariant-words
invariant-words l = (k : ℕ) (w : Word) → k < l.word-index → slice_get l.words k ≡ Some w → IsWordOf (width_of l.ty) w
