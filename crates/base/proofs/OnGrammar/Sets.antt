-- Sets of kinds, as numbers with a bit for each.
use Rattle.std.proofs.Common.{◌≡◌, ℕ, ◌^◌, ◌<◌, min, max, Bool, true, false, cond, ◌⊎◌, inl, inr, sym, ap, ◌∙◌, refl, arith}
use Rattle.std.specs.Prelude.{bit_and, bit_or}
use Rattle.std.specs.Int.{bit_at}
use Rattle.std.proofs.lemmas.Nat.Bits.{bit_at_and, bit_at_or, bit_at-pow_same, bit_at-lt, bit_at-zero, bit_at_above}
use Rattle.std.proofs.lemmas.Bool.{eqb-true, cases_lt}
use Rattle.base.specs.Grammar.Ll1.{is_within, is_apart}

abbrev pub Has : ℕ → ℕ → Type 0
Has set k = bit_at set k ≡ 1

both_one : (x y : ℕ) → x < 2 → y < 2 → x ≡ min x y → x ≡ 1 → y ≡ 1
both_one x y h k e one = omega arith

pub within-has : (a b k : ℕ) → is_within a b ≡ true → Has a k → Has b k
within-has a b k w h =
    both_one (bit_at a k) (bit_at b k) (bit_at-lt a k) (bit_at-lt b k) (ap (λ x. bit_at x k) (sym (eqb-true (bit_and a b) a w)) ∙ bit_at_and a b k) h

not_both : (x y : ℕ) → 0 ≡ min x y → x ≡ 1 → y ≡ 1 → ⊥
not_both x y e h k = omega arith

pub apart-has : (a b k : ℕ) → is_apart a b ≡ true → Has a k → Has b k → ⊥
apart-has a b k w h j =
    not_both (bit_at a k) (bit_at b k) (sym (bit_at-zero k) ∙ ap (λ x. bit_at x k) (sym (eqb-true (bit_and a b) 0 w)) ∙ bit_at_and a b k) h j

max_one : (x y : ℕ) → x < 2 → y < 2 → max x y ≡ 1 → (x ≡ 1) ⊎ (y ≡ 1)
max_one x y h k e = grind arith

one_left : (x y : ℕ) → x < 2 → y < 2 → x ≡ 1 → max x y ≡ 1
one_left x y h k e = omega arith

one_right : (x y : ℕ) → x < 2 → y < 2 → y ≡ 1 → max x y ≡ 1
one_right x y h k e = omega arith

pub has-or : (a b k : ℕ) → Has (bit_or a b) k → Has a k ⊎ Has b k
has-or a b k h = max_one (bit_at a k) (bit_at b k) (bit_at-lt a k) (bit_at-lt b k) (sym (bit_at_or a b k) ∙ h)

pub has-left : (a b k : ℕ) → Has a k → Has (bit_or a b) k
has-left a b k h = bit_at_or a b k ∙ one_left (bit_at a k) (bit_at b k) (bit_at-lt a k) (bit_at-lt b k) h

pub has-right : (a b k : ℕ) → Has b k → Has (bit_or a b) k
has-right a b k h = bit_at_or a b k ∙ one_right (bit_at a k) (bit_at b k) (bit_at-lt a k) (bit_at-lt b k) h

pub has-pow : (k : ℕ) → Has (2 ^ k) k
has-pow k = bit_at-pow_same k

zero_one : (x : ℕ) → x ≡ 0 → x ≡ 1 → ⊥
zero_one x a b = omega arith

pub has-none : (k : ℕ) → Has 0 k → ⊥
has-none k h = zero_one (bit_at 0 k) (bit_at-zero k) h

pub has-cond : (b : Bool) (x k : ℕ) → Has (cond b x 0) k → (b ≡ true) × Has x k
has-cond true x k h = (refl, h)
has-cond false x k h = absurd (has-none k h)

pub cond-has : (b : Bool) (x k : ℕ) → b ≡ true → Has x k → Has (cond b x 0) k
cond-has true x k e h = h
cond-has false x k e h = cc

pub has-below : (set n k : ℕ) → set < 2 ^ n → Has set k → k < n
has-below set n k lt h =
    elim (cases_lt k n) [ inl below ↦ below | inr above ↦ absurd (zero_one (bit_at set k) (bit_at_above set n k lt above) h) ]
