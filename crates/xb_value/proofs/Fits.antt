-- Which numbers the bits hold, by the number of `w` ones.
use Rattle.std.proofs.Common.{◌≡◌, ℕ, ◌-◌, ◌/◌, ◌^◌, ◌<◌, ◌≤◌, ◌==◌, nat_le, nat_lt, Bool, true, false, ◌&&◌, refl, ap, ◌∙◌, arith}
use Rattle.std.proofs.lemmas.Bool.Decides.{nat_tests}
use Rattle.std.proofs.lemmas.Nat.{pow_pos}
use Rattle.std.proofs.lemmas.Nat.Bits.{ones_shr}
use Rattle.xb_bits.specs.Word.{word}
use Rattle.xb_value.specs.Typing.{is_word_of}

ones : (w : ℕ) → w ≤ 128 → (2 ^ 128 - 1) / 2 ^ (128 - w) ≡ 2 ^ w - 1
ones w h =
    let within : 128 - w ≤ 128 = omega arith in
    let back : 128 - (128 - w) ≡ w = omega arith in
    ones_shr 128 (128 - w) within ∙ ap (λ k. 2 ^ k - 1) back

pub below_ones : (w n : ℕ) → w ≤ 128 → n ≤ (2 ^ 128 - 1) / 2 ^ (128 - w) → n < 2 ^ w
below_ones w n h k =
    let same : (2 ^ 128 - 1) / 2 ^ (128 - w) ≡ 2 ^ w - 1 = ones w h in
    let positive : 0 < 2 ^ w = pow_pos w in
    omega arith

and_false : (a b : Bool) → b ≡ false → (a && b) ≡ false
and_false true b e = e
and_false false b e = refl

pub past_ones : (w n : ℕ) → w ≤ 128 → (2 ^ 128 - 1) / 2 ^ (128 - w) < n → is_word_of w (word w n) ≡ false
past_ones w n h k =
    let same : (2 ^ 128 - 1) / 2 ^ (128 - w) ≡ 2 ^ w - 1 = ones w h in
    let past : 2 ^ w ≤ n = omega arith in
    let test : nat_lt n (2 ^ w) ≡ false = grind (arith, nat_tests) in
    and_false (w == w && nat_le 1 w && nat_le w 128) (nat_lt n (2 ^ w)) test
