-- Numbers side by side, parts of a number, and numbers made longer.
use Rattle.std.specs.Prelude.{ℕ, ◌+◌, ◌*◌, ◌/◌, ◌%◌, ◌^◌, min}
use Rattle.xb_bits.specs.Sign.{signed_value, signed_bits}

-- `a` above the `q` bits of `b`
abbrev pub joined_bits : ℕ → ℕ → ℕ → ℕ
joined_bits q a b = a * 2 ^ q + b

-- `width` bits of `a` from bit `start` on
abbrev pub slice_bits : ℕ → ℕ → ℕ → ℕ
slice_bits a start width = a / 2 ^ start % 2 ^ width

-- the same of the `w` bits of `a`, where bits past the end are 0
abbrev pub dyn_slice_bits : ℕ → ℕ → ℕ → ℕ → ℕ
dyn_slice_bits w a start width = slice_bits a (min start w) width

-- the signed value of `w` bits, in `t` bits
abbrev pub sign_extended : ℕ → ℕ → ℕ → ℕ
sign_extended w t a = signed_bits t (signed_value w a)
