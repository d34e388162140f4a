-- The counts of zeros, and a reversed number, by the places of bits.
use Rattle.std.proofs.Common.{◌≡◌, ℕ, zero, suc, ◌+◌, ◌-◌, ◌*◌, ◌/◌, ◌%◌, ◌^◌, ◌<◌, ◌≤◌, ap, sym, subst, ◌∙◌, arith, ⊎_elim}
use Rattle.std.specs.Int.{bit_at, leading_zeros, trailing_zeros, w128}
use Rattle.std.proofs.lemmas.Nat.{pow_pos, pow-add, shr_below, le-div, leading_top}
use Rattle.std.proofs.lemmas.Nat.Bits.{bit_at_lowest, bit_at-suc, bit_at-zero, bit_at_above, bit_at-trailing_zeros, bit_at_cat_low, bit_at_cat_high, bit_at-lt}
use Rattle.std.proofs.Math.Pow.{pow_mono}
use Rattle.std.proofs.Math.Nat.{pow-suc}
use Rattle.std.specs.Int.Count.{leading_of_zero}
use Rattle.std.proofs.lemmas.Bool.{cases_lt}
use Rattle.xb_bits.specs.BitPositions.{leading_zero_count, trailing_zero_count, reversed_bits}

-- every number is below its power of two
pub self_below_pow : (w : ℕ) → w < 2 ^ w
self_below_pow zero = omega arith
self_below_pow (suc w) = let rest : w < 2 ^ w = self_below_pow w in omega (arith, pow-suc 2 w)

-- the one count above the highest 1
pub leading_zero_count_unique : (w a c : ℕ) → c ≤ w → ((i : ℕ) → w - c ≤ i → bit_at a i ≡ 0) → (c < w → bit_at a (w - 1 - c) ≡ 1) → leading_zero_count w a ≡ c
unfolding leading_zero_count
leading_zero_count_unique zero a c within zeros one = omega arith
leading_zero_count_unique (suc w) a zero within zeros one =
    let place : suc w - 1 - 0 ≡ w = omega arith in
    let top : bit_at a w ≡ 1 = ap (bit_at a) (sym place) ∙ one (omega arith) in
    rw top
leading_zero_count_unique (suc w) a (suc c) within zeros one =
    let top : bit_at a w ≡ 0 = zeros w (omega arith) in
    rw top
    (ap suc (leading_zero_count_unique w a c (omega arith)
    (λ i h. zeros i (omega arith))
    (λ h. let place : suc w - 1 - suc c ≡ w - 1 - c = omega arith in ap (bit_at a) (sym place) ∙ one (omega arith))))

-- the one count below the lowest 1
pub trailing_zero_count_unique : (w a c : ℕ) → c ≤ w → ((i : ℕ) → i < c → bit_at a i ≡ 0) → (c < w → bit_at a c ≡ 1) → trailing_zero_count w a ≡ c
unfolding trailing_zero_count
trailing_zero_count_unique zero a c within zeros one = omega arith
trailing_zero_count_unique (suc w) a zero within zeros one = rw (one (omega arith))
trailing_zero_count_unique (suc w) a (suc c) within zeros one =
    let first : bit_at a 0 ≡ 0 = zeros 0 (omega arith) in
    rw first
    (ap suc (trailing_zero_count_unique w (a / 2) c (omega arith)
    (λ i h. sym (bit_at-suc a i) ∙ zeros (suc i) (omega arith))
    (λ h. sym (bit_at-suc a c) ∙ one (omega arith))))

-- `c` is the number of zeros above the highest 1 of the `w` bits of `a`
pub record IsLeading (w a c : ℕ) : Type 0 where
  pub within : c ≤ w
  pub above : (i : ℕ) → w - c ≤ i → bit_at a i ≡ 0
  pub highest : c < w → bit_at a (w - 1 - c) ≡ 1

-- from the place `j` of the highest 1
top_bit : (a j : ℕ) → 2 ^ j ≤ a → a < 2 ^ suc j → bit_at a j ≡ 1
top_bit a j low high =
    let lower : 1 ≤ a / 2 ^ j = le-div 1 a (2 ^ j) (pow_pos j) (omega arith) in
    let upper : a / 2 ^ j < 2 ^ 1 = shr_below a 1 j (let same : suc j ≡ 1 + j = omega arith in subst (λ k. a < 2 ^ k) same high) in
    let one : a / 2 ^ j ≡ 1 = omega arith in
    ap (λ n. n % 2) one

-- a power that is at most a number below another power is the smaller one
below_by_pow : (j w a : ℕ) → 2 ^ j ≤ a → a < 2 ^ w → j < w
below_by_pow j w a low fits =
    ⊎_elim (λ h. h) (λ h. let more : 2 ^ w ≤ 2 ^ j = pow_mono h in absurd (omega arith)) (cases_lt j w)

leading_from : (w a z j : ℕ) → w ≤ 128 → a < 2 ^ w → z + suc j ≡ 128 → 2 ^ j ≤ a → a < 2 ^ suc j → (128 - w ≤ z) × IsLeading w a (z - (128 - w))
leading_from w a z j h fits sum low high =
    let below : j < w = below_by_pow j w a low fits in
    let rest : z - (128 - w) ≡ w - suc j = omega arith in (
      omega arith,
      record {
        within = omega arith;
        above = λ i from. bit_at_above a (suc j) i high (omega arith);
        highest = λ less. let place : w - 1 - (z - (128 - w)) ≡ j = omega arith in ap (bit_at a) place ∙ top_bit a j low high;
      },
    )

-- of the zeros above the highest 1 of 128 bits, 128 - w stand above the `w` bits
pub leading_in_128 : (w a : ℕ) → w ≤ 128 → a < 2 ^ w → (128 - w ≤ leading_zeros w128 a) × IsLeading w a (leading_zeros w128 a - (128 - w))
leading_in_128 w zero h fits =
    let all : leading_zeros w128 0 ≡ 128 = leading_of_zero 128 in (
      omega arith,
      record {
        within = omega arith;
        above = λ i from. bit_at-zero i;
        highest = λ less. absurd (omega arith);
      },
    )
leading_in_128 w (suc a) h fits =
    let more : 2 ^ w ≤ 2 ^ 128 = pow_mono h in
    let top = leading_top 128 (suc a) (omega arith) (omega arith) in
    leading_from w (suc a) (leading_zeros w128 (suc a)) top.0 h fits top.1 top.2 top.3

-- `c` is the number of zeros below the lowest 1 of the `w` bits of `a`
pub record IsTrailing (w a c : ℕ) : Type 0 where
  pub within : c ≤ w
  pub below : (i : ℕ) → i < c → bit_at a i ≡ 0
  pub lowest : c < w → bit_at a c ≡ 1

pub trailing_in_128 : (w a : ℕ) → w ≤ 128 → 0 < a → a < 2 ^ w → IsTrailing w a (trailing_zeros w128 a)
trailing_in_128 w a h some fits =
    let more : 2 ^ w ≤ 2 ^ 128 = pow_mono h in
    let first = bit_at-trailing_zeros w128 a some (omega arith) in
    record {
      within =
          ⊎_elim (λ less. omega arith)
          (λ past. let none : bit_at a (trailing_zeros w128 a) ≡ 0 = bit_at_above a w (trailing_zeros w128 a) fits past in absurd (omega (arith, first.1)))
          (cases_lt (trailing_zeros w128 a) w);
      below = first.2;
      lowest = λ _. first.1;
    }

-- the count of both kinds in 0
pub trailing_of_zero : (w : ℕ) → IsTrailing w 0 w
trailing_of_zero w = record { within = omega arith; below = λ i _. bit_at-zero i; lowest = λ less. absurd (omega arith) }

pub leading_zero_count_is : (w a c : ℕ) → IsLeading w a c → leading_zero_count w a ≡ c
leading_zero_count_is w a c h = leading_zero_count_unique w a c h.within h.above h.highest

pub trailing_zero_count_is : (w a c : ℕ) → IsTrailing w a c → trailing_zero_count w a ≡ c
trailing_zero_count_is w a c h = trailing_zero_count_unique w a c h.within h.below h.lowest

-- ---- the reversed number

reversed_step : (m b r : ℕ) → (b * 2 + r % 2) * 2 ^ m + reversed_bits m (r / 2) ≡ b * 2 ^ suc m + reversed_bits (suc m) r
unfolding reversed_bits
reversed_step m b r = rw (pow-suc 2 m, bit_at_lowest r) (omega arith)

-- one more place of the loop
pub reversed_more : (w k b r : ℕ) → k < w → (b * 2 + r % 2) * 2 ^ (w - (k + 1)) + reversed_bits (w - (k + 1)) (r / 2) ≡ b * 2 ^ (w - k) + reversed_bits (w - k) r
reversed_more w k b r h =
    let left : w - k ≡ suc (w - (k + 1)) = omega arith in
    reversed_step (w - (k + 1)) b r ∙ ap (λ n. b * 2 ^ n + reversed_bits n r) (sym left)

pub reversed_below : (w a : ℕ) → reversed_bits w a < 2 ^ w
unfolding reversed_bits
reversed_below zero a = omega arith
reversed_below (suc w) a =
    let rest : reversed_bits w (a / 2) < 2 ^ w = reversed_below w (a / 2) in
    let bit : bit_at a 0 < 2 = bit_at-lt a 0 in
    rw (pow-suc 2 w) (high_place (bit_at a 0) (2 ^ w) (reversed_bits w (a / 2)) bit rest)
  where
    high_place : (b n r : ℕ) → b < 2 → r < n → b * n + r < n * 2
    high_place zero n r h k = omega arith
    high_place (suc zero) n r h k = omega arith
    high_place (suc (suc b)) n r h k = absurd (omega arith)

mod_small : (b : ℕ) → b < 2 → b % 2 ≡ b
mod_small b h = omega arith

-- the lowest of `a`'s bits is the highest of the reversed ones
highest_reversed : (w b r i : ℕ) → b < 2 → r < 2 ^ w → w ≤ i → i < suc w → bit_at (b * 2 ^ w + r) i ≡ b
highest_reversed w b r i small below from h =
    let first : i - w ≡ 0 = omega arith in
    bit_at_cat_high b w r i below from ∙ ap (bit_at b) first ∙ bit_at_lowest b ∙ mod_small b small

pub bit_at-reversed : (w a i : ℕ) → i < w → bit_at (reversed_bits w a) i ≡ bit_at a (w - 1 - i)
unfolding reversed_bits
bit_at-reversed zero a i h = absurd (omega arith)
bit_at-reversed (suc w) a i h =
    ⊎_elim
    (λ less.
    let place : suc (w - 1 - i) ≡ suc w - 1 - i = omega arith in
    bit_at_cat_low (bit_at a 0) w (reversed_bits w (a / 2)) i less
    ∙ bit_at-reversed w (a / 2) i less
    ∙ sym (bit_at-suc a (w - 1 - i))
    ∙ ap (bit_at a) place)
    (λ from.
    let place : 0 ≡ suc w - 1 - i = omega arith in
    highest_reversed w (bit_at a 0) (reversed_bits w (a / 2)) i (bit_at-lt a 0) (reversed_below w (a / 2)) from h ∙ ap (bit_at a) place)
    (cases_lt i w)

-- one more bit fits in one more place
pub reversed_room : (k b r : ℕ) → b < 2 ^ k → b * 2 + r % 2 < 2 ^ (k + 1)
reversed_room k b r h = rw (pow-add 2 k 1) (omega arith)

pub reversed_fits : (k w b : ℕ) → k < w → w ≤ 128 → b < 2 ^ k → b * 2 + 1 < 2 ^ 128
reversed_fits k w b less h below =
    let room : k + 1 ≤ 128 = omega arith in
    let longer : 2 ^ (k + 1) ≤ 2 ^ 128 = pow_mono room in
    let below_longer : b * 2 + 1 % 2 < 2 ^ (k + 1) = reversed_room k b 1 below in
    omega arith

pub reversed_done : (w k b r n : ℕ) → k ≤ w → w ≤ k → b * 2 ^ (w - k) + reversed_bits (w - k) r ≡ n → b ≡ n
unfolding reversed_bits
reversed_done w k b r n h h' e =
    let none : w - k ≡ 0 = omega arith in
    let last : b * 2 ^ 0 + reversed_bits 0 r ≡ n = ap (λ m. b * 2 ^ m + reversed_bits m r) (sym none) ∙ e in
    omega arith
