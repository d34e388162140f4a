-- What goes over a channel in a run.
use Rattle.std.specs.Prelude.{ℕ, List}
use Rattle.xb_bits.specs.Word.{Word}

-- all words that are ever sent on it, and how many of them are ever received
pub record Stream : Type 0 where
  pub words : List Word
  pub received : ℕ
