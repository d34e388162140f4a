-- Numbers in the ranges of bits, and words in their order.
use Rattle.std.specs.Prelude.{ℕ, zero, suc, ◌+◌, ◌-◌, ◌^◌, ◌&&◌, nat_lt, Bool, true, if◌then◌else◌}
use Rattle.dslx_meaning.specs.declared.value.SignedWord.{SignedWord}

-- how many digits of 0 and 1 so many bits leave to a number that is not negative
abbrev pub digits_of : Bool → ℕ → ℕ
digits_of signed w = if signed then w - 1 else w

-- the number that makes 0 with this one lies in the range of so many bits
abbrev pub is_small_below : Bool → ℕ → ℕ → Bool
is_small_below signed w zero = true
is_small_below signed w (suc n) = signed && nat_lt n (2 ^ (w - 1))

abbrev pub rank_in : Bool → ℕ → ℕ → ℕ
rank_in signed half n = if signed then (if nat_lt n half then n + half else (n - half)) else n

-- the index of a word among all of its type, the least one first
abbrev pub rank_of : SignedWord → ℕ
rank_of x = rank_in x.signed (2 ^ (x.word.width - 1)) x.word.value
