-- Numbers in fewer bits.
use Rattle.std.proofs.Common.{◌≡◌, ℕ, suc, ◌+◌, ◌-◌, ◌*◌, ◌/◌, ◌%◌, ◌^◌, ◌<◌, ◌≤◌, max, true, false, sym, ap, subst, ◌∙◌, arith, ⊎_elim}
use Rattle.std.specs.Prelude.{if◌then◌else◌, nat_lt, pos, negsuc}
use Rattle.std.proofs.lemmas.Bool.{cases_lt}
use Rattle.std.proofs.lemmas.Bool.Decides.{nat_tests}
use Rattle.std.proofs.lemmas.Nat.{mod_below, pow_pos, pow-add, mod-pow-add, div-mul-add, mod-mul-add, mul-lt}
use Rattle.std.proofs.Math.Nat.{mod-eq_of_lt, div-eq_of_lt, zero-mod, div-one, div-lt_iff_lt-mul, div-div-eq-div-mul, pow-suc}
use Rattle.std.proofs.Math.Pow.{pow_mono, mod-mod-pow, add-lt-pow}
use Rattle.xb_bits.specs.Parts.{slice_bits, sign_extended}
use Rattle.xb_bits.specs.Sign.{signed_value, signed_bits}

pub longer_below : (x p w : ℕ) → x < 2 ^ p → p ≤ w → x < 2 ^ w
longer_below x p w h k = let more : 2 ^ p ≤ 2 ^ w = pow_mono k in omega arith

-- a number that fits fewer bits is itself in more
same_rest : (n m w : ℕ) → n < 2 ^ m → m ≤ w → n % 2 ^ m ≡ n % 2 ^ w
same_rest n m w h k = mod-eq_of_lt h ∙ sym (mod-eq_of_lt (longer_below n m w h k))

-- ---- sums and products

sum_below : (x y p q : ℕ) → x < 2 ^ p → y < 2 ^ q → x + y < 2 ^ (max p q + 1)
sum_below x y p q h k =
    let first : p ≤ max p q = omega arith in
    let second : q ≤ max p q = omega arith in
    let next : suc (max p q) ≡ max p q + 1 = omega arith in
    subst (λ e. x + y < 2 ^ e) next (add-lt-pow (max p q) (longer_below x p (max p q) h first) (longer_below y q (max p q) k second))

pub sum_narrows : (x y p q w : ℕ) → x < 2 ^ p → y < 2 ^ q → max p q + 1 ≤ w → (x + y) % 2 ^ (max p q + 1) ≡ (x + y) % 2 ^ w
sum_narrows x y p q w h k l = same_rest (x + y) (max p q + 1) w (sum_below x y p q h k) l

pub product_narrows : (x y p q w : ℕ) → x < 2 ^ p → y < 2 ^ q → p + q ≤ w → (x * y) % 2 ^ (p + q) ≡ (x * y) % 2 ^ w
product_narrows x y p q w h k l =
    same_rest (x * y) (p + q) w (subst (λ e. x * y < e) (sym (pow-add 2 p q)) (mul-lt x y (2 ^ p) (2 ^ q) h k)) l

-- ---- slices

low_bits : (y v t n : ℕ) → t + n ≤ v → (y % 2 ^ v) / 2 ^ t % 2 ^ n ≡ y / 2 ^ t % 2 ^ n
low_bits y v t n h =
    let parts : (v - t) + t ≡ v = omega arith in
    let rest : (v - t - n) + n ≡ v - t = omega arith in
    ap (λ k. (y % 2 ^ k) / 2 ^ t % 2 ^ n) (sym parts)
    ∙ ap (λ a. a / 2 ^ t % 2 ^ n) (mod-pow-add y (v - t) t)
    ∙ ap (λ a. a % 2 ^ n) (div-mul-add (y / 2 ^ t % 2 ^ (v - t)) (2 ^ t) (y % 2 ^ t) (mod_below y (2 ^ t) (pow_pos t)))
    ∙ ap (λ k. y / 2 ^ t % 2 ^ k % 2 ^ n) (sym rest)
    ∙ mod-mod-pow (y / 2 ^ t) (v - t - n) n

div_twice : (x s t : ℕ) → x / 2 ^ s / 2 ^ t ≡ x / 2 ^ (s + t)
div_twice x s t = div-div-eq-div-mul x (2 ^ s) (2 ^ t) ∙ ap (λ k. x / k) (sym (pow-add 2 s t))

-- a slice of a slice
pub slice_twice : (x s v t n : ℕ) → t + n ≤ v → slice_bits (slice_bits x s v) t n ≡ slice_bits x (s + t) n
slice_twice x s v t n h = low_bits (x / 2 ^ s) v t n h ∙ ap (λ a. a % 2 ^ n) (div_twice x s t)

-- past the end there are zeros
pub slice_past : (x p s n : ℕ) → x < 2 ^ p → p ≤ s → slice_bits x s n ≡ 0
slice_past x p s n h k = ap (λ a. a % 2 ^ n) (div-eq_of_lt (longer_below x p s h k)) ∙ zero-mod (2 ^ n)

-- from a place on there are no more bits than to the end
pub slice_to_end : (x p s n : ℕ) → x < 2 ^ p → s ≤ p → p - s ≤ n → slice_bits x s (p - s) ≡ slice_bits x s n
slice_to_end x p s n h k l =
    let whole : (p - s) + s ≡ p = omega arith in
    let product : 2 ^ (p - s) * 2 ^ s ≡ 2 ^ p = sym (pow-add 2 (p - s) s) ∙ ap (λ e. 2 ^ e) whole in
    let within : x < 2 ^ (p - s) * 2 ^ s = subst (λ e. x < e) (sym product) h in
    same_rest (x / 2 ^ s) (p - s) n ((div-lt_iff_lt-mul (pow_pos s)).1 within) l

pub slice_whole : (x w : ℕ) → x < 2 ^ w → slice_bits x 0 w ≡ x
slice_whole x w h = ap (λ a. a % 2 ^ w) (div-one x) ∙ mod-eq_of_lt h

-- of two numbers side by side, a slice of the high one
pub slice_high : (x low l s n : ℕ) → low < 2 ^ l → l ≤ s → slice_bits (x * 2 ^ l + low) s n ≡ slice_bits x (s - l) n
slice_high x low l s n h k =
    let parts : l + (s - l) ≡ s = omega arith in
    ap (λ e. (x * 2 ^ l + low) / 2 ^ e % 2 ^ n) (sym parts)
    ∙ ap (λ a. a % 2 ^ n) (sym (div_twice (x * 2 ^ l + low) l (s - l)))
    ∙ ap (λ a. a / 2 ^ (s - l) % 2 ^ n) (div-mul-add x (2 ^ l) low h)

-- and one of the low one
pub slice_low : (x low l s n : ℕ) → low < 2 ^ l → s + n ≤ l → slice_bits (x * 2 ^ l + low) s n ≡ slice_bits low s n
slice_low x low l s n h k =
    sym (low_bits (x * 2 ^ l + low) l s n k) ∙ ap (λ a. a / 2 ^ s % 2 ^ n) (mod-mul-add x (2 ^ l) low h)

-- ---- signs

low_sign : (w a : ℕ) → a < 2 ^ (w - 1) → signed_value w a ≡ pos a
low_sign w a h =
    let test : nat_lt a (2 ^ (w - 1)) ≡ true = grind (arith, nat_tests, h) in
    ap (λ b. if b then pos a else negsuc (2 ^ w - suc a)) test

high_sign : (w a : ℕ) → 2 ^ (w - 1) ≤ a → signed_value w a ≡ negsuc (2 ^ w - suc a)
high_sign w a h =
    let test : nat_lt a (2 ^ (w - 1)) ≡ false = grind (arith, nat_tests, h) in
    ap (λ b. if b then pos a else negsuc (2 ^ w - suc a)) test

-- a number with a zero before it is itself, however long
pub sign_of_zero : (k w p a : ℕ) → a < 2 ^ p → p < k → sign_extended k w a ≡ a
sign_of_zero k w p a h l =
    let within : p ≤ k - 1 = omega arith in
    ap (signed_bits w) (low_sign k a (longer_below a p (k - 1) h within))

double : (w : ℕ) → 1 ≤ w → 2 ^ w ≡ 2 ^ (w - 1) * 2
double w h =
    let parts : suc (w - 1) ≡ w = omega arith in
    ap (λ k. 2 ^ k) (sym parts) ∙ pow-suc 2 (w - 1)

back : (n a : ℕ) → a < n → n - suc (n - suc a) ≡ a
back n a h = omega arith

-- an extension to as many bits
pub sign_same : (w a : ℕ) → a < 2 ^ w → sign_extended w w a ≡ a
sign_same w a h = ⊎_elim low high (cases_lt a (2 ^ (w - 1)))
  where
    low : a < 2 ^ (w - 1) → sign_extended w w a ≡ a
    low less = ap (signed_bits w) (low_sign w a less)

    high : 2 ^ (w - 1) ≤ a → sign_extended w w a ≡ a
    high more = ap (signed_bits w) (high_sign w a more) ∙ back (2 ^ w) a h

still_high : (n m h k : ℕ) → n ≡ h * 2 → m ≡ k * 2 → h ≤ k → (a : ℕ) → h ≤ a → k ≤ m - suc (n - suc a)
still_high n m h k e f l a g = omega arith

fits_still : (n m a : ℕ) → n ≤ m → a < n → m - suc (m - suc (n - suc a)) ≡ n - suc a
fits_still n m a h k = omega arith

-- an extension of an extension
pub sign_twice : (w u t a : ℕ) → 1 ≤ w → w ≤ u → a < 2 ^ w → sign_extended u t (sign_extended w u a) ≡ sign_extended w t a
sign_twice w u t a some h k = ⊎_elim low high (cases_lt a (2 ^ (w - 1)))
  where
    first : 2 ^ (w - 1) ≤ 2 ^ (u - 1)
    first = let less : w - 1 ≤ u - 1 = omega arith in pow_mono less

    low : a < 2 ^ (w - 1) → sign_extended u t (sign_extended w u a) ≡ sign_extended w t a
    low less =
        let start = first in
        let still : a < 2 ^ (u - 1) = omega (arith, less, start) in
        ap (λ z. sign_extended u t (signed_bits u z)) (low_sign w a less) ∙ ap (signed_bits t) (low_sign u a still) ∙ ap (signed_bits t) (sym (low_sign w a less))

    high : 2 ^ (w - 1) ≤ a → sign_extended u t (sign_extended w u a) ≡ sign_extended w t a
    high more =
        let least : 1 ≤ u = omega arith in
        let b = 2 ^ u - suc (2 ^ w - suc a) in
        let above : 2 ^ (u - 1) ≤ 2 ^ u - suc (2 ^ w - suc a) = still_high (2 ^ w) (2 ^ u) (2 ^ (w - 1)) (2 ^ (u - 1)) (double w some) (double u least) first a more in
        ap (λ z. sign_extended u t (signed_bits u z)) (high_sign w a more)
        ∙ ap (signed_bits t) (high_sign u (2 ^ u - suc (2 ^ w - suc a)) above)
        ∙ ap (λ n. signed_bits t (negsuc n)) (fits_still (2 ^ w) (2 ^ u) a (pow_mono h) k)
        ∙ ap (signed_bits t) (sym (high_sign w a more))
