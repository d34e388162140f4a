-- The table of the values of bytes as digits.
use Rattle.std.proofs.Common.{◌≡◌, ℕ, zero, suc, ◌-◌, ◌<◌, ◌==◌, Bool, true, ◌&&◌, get_or, refl, inl, inr, arith, eq-zero-or-pos}
use Rattle.std.specs.Char.{digit_value}
use Rattle.std.proofs.lemmas.Bool.{and_parts}
use Rattle.std.proofs.lemmas.Bool.Decides.{nat_tests}
use Rattle.chan_file.specs.declared.number.TheConstants.{VALUES}

-- each of so many is right
abbrev are_values : ℕ → Bool
are_values zero = true
are_values (suc b) = (get_or VALUES b 0 == digit_value b) && are_values b

is_equal : (a b : ℕ) → (a == b) ≡ true → a ≡ b
is_equal a b h = grind (arith, nat_tests)

below : (n b : ℕ) → are_values n ≡ true → b < n → get_or VALUES b 0 ≡ digit_value b
below zero b t h = absurd (omega arith)
below (suc n) b t h =
    let parts = and_parts (get_or VALUES n 0 == digit_value n) (are_values n) t in
    elim (eq-zero-or-pos (n - b)) [
      | inl z ↦ let e : b ≡ n = omega arith in rw e (is_equal (get_or VALUES n 0) (digit_value n) parts.0)
      | inr g ↦ below n b parts.1 (omega arith)
    ]

pub VALUES_at : (b : ℕ) → b < 256 → get_or VALUES b 0 ≡ digit_value b
VALUES_at b h = below 256 b refl h
