-- The two orders of numbers of `w` bits.
use Rattle.std.specs.Prelude.{ℕ}
use Rattle.std.specs.Ordering.{nat_cmp, int_cmp}
use Rattle.std.specs.declared.cmp.Ordering.{Ordering}
use Rattle.xb_bits.specs.Sign.{signed_value}

abbrev pub unsigned_order : ℕ → ℕ → Ordering
unsigned_order a b = nat_cmp a b

-- by the signed values
abbrev pub signed_order : ℕ → ℕ → ℕ → Ordering
signed_order w a b = int_cmp (signed_value w a) (signed_value w b)
