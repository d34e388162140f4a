-- Numbers of `w` bits inside numbers of 128 bits.
use Rattle.std.proofs.Common.{◌≡◌, ℕ, suc, ◌+◌, ◌-◌, ◌*◌, ◌/◌, ◌%◌, ◌^◌, ◌<◌, ◌≤◌, min, ap, sym, ◌∙◌, arith}
use Rattle.std.proofs.lemmas.Nat.{pow-add, pow_pos}
use Rattle.std.proofs.lemmas.Nat.Bits.{ones_shr}
use Rattle.std.proofs.Math.Nat.{add-mul-mod_self_right}
use Rattle.std.proofs.Math.Pow.{mod-mod-pow, pow_mono}

pub ones_shr_128 : (w : ℕ) → w ≤ 128 → (2 ^ 128 - 1) / 2 ^ (128 - w) ≡ 2 ^ w - 1
ones_shr_128 w h =
    let within : 128 - w ≤ 128 = omega arith in
    let back : 128 - (128 - w) ≡ w = omega arith in
    ones_shr 128 (128 - w) within ∙ ap (λ k. 2 ^ k - 1) back

-- to wrap at 128 bits first changes nothing
pub mod_mod_128 : (n w : ℕ) → w ≤ 128 → n % 2 ^ 128 % 2 ^ w ≡ n % 2 ^ w
mod_mod_128 n w h =
    let parts : (128 - w) + w ≡ 128 = omega arith in
    ap (λ k. n % 2 ^ k % 2 ^ w) (sym parts) ∙ mod-mod-pow n (128 - w) w

-- a difference below `n`, a multiple of `p`, is the difference below `p` and a multiple of `p`
difference_below : (a b p d n : ℕ) → b ≤ p → suc d * p ≡ n → a + (n - b) ≡ (a + (p - b)) + d * p
difference_below a b p d n h e = omega arith

pub sub_mod_128 : (a b w : ℕ) → w ≤ 128 → b ≤ 2 ^ w → (a + (2 ^ 128 - b)) % 2 ^ 128 % 2 ^ w ≡ (a + (2 ^ w - b)) % 2 ^ w
sub_mod_128 a b w h le =
    let parts : (128 - w) + w ≡ 128 = omega arith in
    let positive : 0 < 2 ^ (128 - w) = pow_pos (128 - w) in
    let before : suc (2 ^ (128 - w) - 1) ≡ 2 ^ (128 - w) = omega arith in
    let product : suc (2 ^ (128 - w) - 1) * 2 ^ w ≡ 2 ^ 128 =
    ap (λ q. q * 2 ^ w) before ∙ sym (pow-add 2 (128 - w) w) ∙ ap (λ k. 2 ^ k) parts in
    mod_mod_128 (a + (2 ^ 128 - b)) w h
    ∙ ap (λ n. n % 2 ^ w) (difference_below a b (2 ^ w) (2 ^ (128 - w) - 1) (2 ^ 128) le product)
    ∙ add-mul-mod_self_right (a + (2 ^ w - b)) (2 ^ (128 - w) - 1) (2 ^ w)

-- a power of two is no larger than a longer one
pub pow_le_pow : (v w : ℕ) → v ≤ w → 2 ^ v ≤ 2 ^ w
pow_le_pow v w h = pow_mono h

-- twice a power is the next one
pub double_pow : (w : ℕ) → 1 ≤ w → 2 ^ w ≡ 2 ^ (w - 1) + 2 ^ (w - 1)
double_pow w h =
    let parts : (w - 1) + 1 ≡ w = omega arith in
    ap (λ k. 2 ^ k) (sym parts) ∙ pow-add 2 (w - 1) 1 ∙ omega arith

-- all bits are shifted out
pub shifted_out : (w a k : ℕ) → w ≤ k → (a * 2 ^ min k w) % 2 ^ w ≡ 0
shifted_out w a k h =
    let least : min k w ≡ w = omega arith in
    let whole : 0 + a * 2 ^ w ≡ a * 2 ^ w = omega arith in
    let positive : 0 < 2 ^ w = pow_pos w in
    let none : 0 % 2 ^ w ≡ 0 = omega arith in
    ap (λ n. (a * 2 ^ n) % 2 ^ w) least ∙ ap (λ n. n % 2 ^ w) (sym whole) ∙ add-mul-mod_self_right 0 a (2 ^ w) ∙ none
