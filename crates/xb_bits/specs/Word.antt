-- A number of some bits, as contracts see `Bits`.
use Rattle.std.specs.Prelude.{ℕ, ◌<◌, ◌≤◌, ◌^◌}

pub record Word : Type 0 where
  pub width : ℕ
  pub value : ℕ

-- the number `n` of `w` bits
abbrev pub word : ℕ → ℕ → Word
word w n = record { width = w; value = n }

-- what is true of every `Bits`: 1 to 128 bits, and the number fits them
pub record IsWord (x : Word) : Type 0 where
  pub some_width : 1 ≤ x.width
  pub most_width : x.width ≤ 128
  pub in_range : x.value < 2 ^ x.width
