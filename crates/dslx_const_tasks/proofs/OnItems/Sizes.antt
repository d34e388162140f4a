-- Sizes are 1 or more.
use Rattle.std.proofs.Common.{◌≡◌, ℕ, zero, suc, Some, None, refl, arith}
use Rattle.std.specs.Prelude.{◌≢◌}
use Rattle.dslx_meaning.specs.Meaning.{some_count}

pub some_size : (n : ℕ) → n ≢ 0 → some_count n ≡ Some n
some_size zero some = absurd (some refl)
some_size (suc n) some = refl

pub no_size : (n : ℕ) → n ≡ 0 → some_count n ≡ None
no_size zero none = refl
no_size (suc n) none = absurd (omega (arith, none))
