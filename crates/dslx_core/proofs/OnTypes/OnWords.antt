-- What operations make of words are values of their types.
use Rattle.std.proofs.Common.{◌≡◌, ◌==◌, ℕ, zero, suc, ◌+◌, ◌-◌, ◌*◌, ◌/◌, ◌%◌, ◌^◌, ◌<◌, ◌≤◌, min, lit<, Bool, true, false, not, if◌then◌else◌, Some, refl, sym, ap, ap₂, subst, ◌∙◌, arith, bit_and}
use Rattle.std.specs.Prelude.{nat_lt, nat_le, pos, negsuc, count_ones}
use Rattle.std.specs.Int.{bit_at, int_shr}
use Rattle.std.proofs.Math.Nat.{div-le_self, mod-le, pow-suc}
use Rattle.std.proofs.Math.Pow.{pow_mono}
use Rattle.std.proofs.lemmas.Nat.{mod_below, pow_pos, and_le_l, or_lt, pow-add, xor_lt}
use Rattle.std.proofs.lemmas.Nat.Bits.{bit_at-lt}
use Rattle.std.proofs.lemmas.Bool.Decides.{nat_tests}
use Rattle.xb_bits.specs.Word.{Word, word}
use Rattle.xb_bits.specs.Operations as op
use Rattle.xb_bits.specs.BitPositions.{leading_zero_count, reversed_bits, trailing_zero_count}
use Rattle.xb_bits.specs.Sign.{signed_bits}
use Rattle.xb_value.specs.declared.ty.Ty.{Ty, Bits}
use Rattle.xb_value.specs.declared.value.Value.{Value}
use Rattle.xb_value.specs.declared.value.Value as value
use Rattle.xb_value.specs.declared.value.Value.TheViews.{outs-Bits}
use Rattle.xb_value.specs.Typing.{IsOfType, bits_fit, is_word_of}
use Rattle.xb_value.proofs.Lemmas.Typing.{fits-Bits, bits_of_type}
use Rattle.dslx_meaning.specs.Lists.{where_true}
use Rattle.dslx_meaning.specs.Operators.{cast_word, is_less}
use Rattle.dslx_core.specs.declared.expr.Sign.{Sign}
use Rattle.dslx_core.specs.declared.expr.Sign.TheVariants.{Unsigned, Signed}
use Rattle.dslx_core.specs.declared.expr.CoreUnary.{CoreUnary}
use Rattle.dslx_core.specs.declared.expr.CoreUnary.TheVariants as u
use Rattle.dslx_core.specs.declared.expr.CoreBinary.{CoreBinary}
use Rattle.dslx_core.specs.declared.expr.CoreBinary.TheVariants as b
use Rattle.dslx_core.specs.CoreValues.{word_step, word_of_value, unary_word, one_bit, order_read, shift_read, binary_words}
use Rattle.dslx_core.specs.Types.Typing.{is_sound_word, unary_type, binary_type}
use Rattle.dslx_core.specs.Types.Sound.{HasValueOf}
use Rattle.dslx_core.proofs.OnTypes.OnOptions.{both, some_same, where_is, where_so}
use Rattle.dslx_core.proofs.OnTypes.OnTypes.{same_number, width_bounds}

-- ---- numbers below a power

either_below : (t : Bool) (m n k : ℕ) → m < k → n < k → (if t then m else n) < k
either_below true m n k h l = h
either_below false m n k h l = l

ones_below : (p : ℕ) → 2 ^ p - 1 < 2 ^ p
ones_below p = let some : 0 < 2 ^ p = pow_pos p in omega arith

without_below : (p n : ℕ) → 2 ^ p - suc n < 2 ^ p
without_below p n = let some : 0 < 2 ^ p = pow_pos p in omega arith

part_below : (m n k : ℕ) → m < k → m / n < k
part_below m n k h = let part : m / n ≤ m = div-le_self m n in omega arith

rest_below : (m n k : ℕ) → m < k → m % n < k
rest_below m n k h = let rest : m % n ≤ m = mod-le m n in omega arith

and_below : (m n k : ℕ) → m < k → bit_and m n < k
and_below m n k h = let less : bit_and m n ≤ m = and_le_l m n in omega arith

longer_below : (v w n : ℕ) → v ≤ w → n < 2 ^ v → n < 2 ^ w
longer_below v w n h k = let more : 2 ^ v ≤ 2 ^ w = pow_mono h in omega arith

high_place : (m n r : ℕ) → m < 2 → r < n → m * n + r < n * 2
high_place zero n r h k = omega arith
high_place (suc zero) n r h k = omega arith
high_place (suc (suc m)) n r h k = absurd (omega arith)

reversed_below : (p n : ℕ) → reversed_bits p n < 2 ^ p
unfolding reversed_bits
reversed_below zero n = omega arith
reversed_below (suc p) n =
    let rest : reversed_bits p (n / 2) < 2 ^ p = reversed_below p (n / 2) in
    let bit : bit_at n 0 < 2 = bit_at-lt n 0 in
    rw (pow-suc 2 p) (high_place (bit_at n 0) (2 ^ p) (reversed_bits p (n / 2)) bit rest)

signed_below : (t : Bool) (p n k m : ℕ) → n < 2 ^ p → signed_bits p (int_shr (if t then pos n else negsuc m) k) < 2 ^ p
signed_below true p n k m h = part_below n (2 ^ k) (2 ^ p) h
signed_below false p n k m h = without_below p _

extended_below : (t : Bool) (p n m : ℕ) → n < 2 ^ p → signed_bits p (if t then pos n else negsuc m) < 2 ^ p
extended_below true p n m h = h
extended_below false p n m h = without_below p m

width_below : (w : ℕ) → w < 2 ^ w
width_below zero = omega arith
width_below (suc w) = let less : w < 2 ^ w = width_below w in rw (pow-suc 2 w) (omega arith)

either_within : (t : Bool) (m n k : ℕ) → m ≤ k → n ≤ k → (if t then m else n) ≤ k
either_within true m n k h l = h
either_within false m n k h l = l

leading_within : (w n : ℕ) → leading_zero_count w n ≤ w
unfolding leading_zero_count
leading_within zero n = omega arith
leading_within (suc w) n = either_within (bit_at n w == 1) 0 (suc (leading_zero_count w n)) (suc w) (omega arith) (let rest : leading_zero_count w n ≤ w = leading_within w n in omega arith)

trailing_within : (w n : ℕ) → trailing_zero_count w n ≤ w
unfolding trailing_zero_count
trailing_within zero n = omega arith
trailing_within (suc w) n = either_within (bit_at n 0 == 1) 0 (suc (trailing_zero_count w (n / 2))) (suc w) (omega arith) (let rest : trailing_zero_count w (n / 2) ≤ w = trailing_within w (n / 2) in omega arith)

count_below : (c w : ℕ) → c ≤ w → c < 2 ^ w
count_below c w h = let less : w < 2 ^ w = width_below w in omega arith

place_below : (m k n l : ℕ) → m < l → k < n → m * n + k < l * n
place_below m k n l h i = grind arith

joined_below : (p q m n : ℕ) → m < 2 ^ p → n < 2 ^ q → m * 2 ^ q + n < 2 ^ (p + q)
joined_below p q m n high low = subst (λ k. m * 2 ^ q + n < k) (sym (pow-add 2 p q)) (place_below m n (2 ^ q) (2 ^ p) high low)

-- ---- words of a width

-- the word has so many bits, and its number lies in them
pub record IsWordIn (w : ℕ) (x : Word) : Type 0 where
  pub width : x.width ≡ w
  pub range : x.value < 2 ^ w
  pub some : 1 ≤ w
  pub most : w ≤ 128

pub typed_word : (w : ℕ) (x : Word) → IsWordIn w x → IsOfType (Bits w) (value.Bits x)
typed_word w x h = fits-Bits w (value.Bits x) ∙ (ap (bits_fit w) (outs-Bits x) ∙ test)
  where
    test : is_word_of w x ≡ true
    test =
        let e = h.width in
        let r = h.range in
        let s = h.some in
        let m = h.most in
        grind (arith, nat_tests, e, r, s, m)

pub record HasWordIn (w : ℕ) (v : Value) : Type 0 where
  pub word : Word
  pub is : v ≡ value.Bits word
  pub there : word_of_value v ≡ Some word
  pub of : IsWordIn w word

pub word_in_value : (w : ℕ) (v : Value) → IsOfType (Bits w) v → HasWordIn w v
word_in_value w v h =
    let f = bits_of_type w v h in
    record {
      word = f.word;
      is = f.is;
      there = ap word_of_value f.is ∙ ap word_step (outs-Bits f.word);
      of = record { width = f.width; range = f.in_range; some = f.some_width; most = f.most_width };
    }

-- a number in as many bits
like : (w : ℕ) (x : Word) (n : ℕ) → IsWordIn w x → n < 2 ^ x.width → IsWordIn w (word x.width n)
like w x n h k = record { width = h.width; range = subst (λ j. n < 2 ^ j) h.width k; some = h.some; most = h.most }

of_width : (w n : ℕ) → 1 ≤ w → w ≤ 128 → n < 2 ^ w → IsWordIn w (word w n)
of_width w n some most range = record { width = refl; range = range; some = some; most = most }

own_range : (w : ℕ) (x : Word) → IsWordIn w x → x.value < 2 ^ x.width
own_range w x h = subst (λ j. x.value < 2 ^ j) (sym h.width) h.range

other_range : (w : ℕ) (x y : Word) → IsWordIn w x → IsWordIn w y → y.value < 2 ^ x.width
other_range w x y h k = subst (λ j. y.value < 2 ^ j) (sym h.width) k.range

bit_of : (t : Bool) (m n : ℕ) → m < 2 → n < 2 → IsWordIn 1 (word 1 (if t then m else n))
bit_of t m n h k = of_width 1 (if t then m else n) (omega arith) (omega arith) (either_below t m n 2 h k)

pub unary_in : (o : CoreUnary) (w : ℕ) (x : Word) → IsWordIn w x → IsOfType (unary_type o w) (value.Bits (unary_word o x))
unary_in u.Neg w x h = typed_word w _ (like w x _ h (mod_below (2 ^ x.width - x.value) (2 ^ x.width) (pow_pos x.width)))
unary_in u.Not w x h = typed_word w _ (like w x _ h (let some : 0 < 2 ^ x.width = pow_pos x.width in omega arith))
unary_in u.Clz w x h = typed_word w _ (like w x _ h (count_below (leading_zero_count x.width x.value) x.width (leading_within x.width x.value)))
unary_in u.Ctz w x h = typed_word w _ (like w x _ h (count_below (trailing_zero_count x.width x.value) x.width (trailing_within x.width x.value)))
unary_in u.Rev w x h = typed_word w _ (like w x _ h (reversed_below x.width x.value))
unary_in u.AndReduce w x h = typed_word 1 _ (bit_of (x.value == 2 ^ x.width - 1) 1 0 (lit< tt) (lit< tt))
unary_in u.OrReduce w x h = typed_word 1 _ (bit_of (x.value == 0) 0 1 (lit< tt) (lit< tt))
unary_in u.XorReduce w x h = typed_word 1 _ (of_width 1 _ (omega arith) (omega arith) (mod_below (count_ones x.value) 2 (lit< tt)))

-- ---- two words

has_bits : (w : ℕ) (t : Ty) (z : Word) → Bits w ≡ t → IsWordIn w z → HasValueOf (Some (value.Bits z)) t
has_bits w t z e h = record { value = value.Bits z; is = refl; typed = subst (λ s. IsOfType s (value.Bits z)) e (typed_word w z h) }

alike : (v w k : ℕ) (t : Ty) (x y z : Word) → where_true (v == w) (Some (Bits k)) ≡ Some t → IsWordIn v x → IsWordIn w y → (v ≡ w → IsWordIn k z) → HasValueOf (where_true (x.width == y.width) (Some (value.Bits z))) t
alike v w k t x y z e h l m =
    let found = where_is (v == w) (Some (Bits k)) t e in
    let same = same_number v w found.0 in
    let widths : x.width ≡ y.width = h.width ∙ (same ∙ sym l.width) in
    let test : (x.width == y.width) ≡ true = grind (arith, nat_tests, widths) in
    subst (λ o. HasValueOf o t) (sym (where_so (x.width == y.width) (Some (value.Bits z)) test)) (has_bits k t z (some_same (Bits k) t found.1) (m same))

moved : (v w : ℕ) (y : Word) → v ≡ w → IsWordIn w y → IsWordIn v y
moved v w y e h = subst (λ k. IsWordIn k y) (sym e) h

one_bit_in : (t : Bool) → IsWordIn 1 (one_bit t)
one_bit_in true = of_width 1 1 (omega arith) (omega arith) (lit< tt)
one_bit_in false = of_width 1 0 (omega arith) (omega arith) (lit< tt)

shifted_in : (sign : Sign) (w : ℕ) (x k : Word) → IsWordIn w x → IsWordIn w (shift_read sign x k)
shifted_in Unsigned w x k h = like w x _ h (part_below x.value (2 ^ min k.value x.width) (2 ^ x.width) (own_range w x h))
shifted_in Signed w x k h = like w x _ h (signed_below _ x.width x.value (min k.value x.width) _ (own_range w x h))

pub binary_in : (o : CoreBinary) (v w : ℕ) (t : Ty) (x y : Word) → binary_type o v w ≡ Some t → IsWordIn v x → IsWordIn w y → HasValueOf (binary_words o x y) t
binary_in b.Mul v w t x y e h l = alike v w v t x y _ e h l (λ s. like v x _ h (mod_below (x.value * y.value) (2 ^ x.width) (pow_pos x.width)))
binary_in b.Div v w t x y e h l = alike v w v t x y _ e h l (λ s. like v x _ h (either_below (y.value == 0) _ _ _ (ones_below x.width) (part_below x.value y.value (2 ^ x.width) (own_range v x h))))
binary_in b.Rem v w t x y e h l = alike v w v t x y _ e h l (λ s. like v x _ h (either_below (y.value == 0) _ _ _ (pow_pos x.width) (rest_below x.value y.value (2 ^ x.width) (own_range v x h))))
binary_in b.Add v w t x y e h l = alike v w v t x y _ e h l (λ s. like v x _ h (mod_below (x.value + y.value) (2 ^ x.width) (pow_pos x.width)))
binary_in b.Sub v w t x y e h l = alike v w v t x y _ e h l (λ s. like v x _ h (mod_below (x.value + (2 ^ x.width - y.value)) (2 ^ x.width) (pow_pos x.width)))
binary_in b.Concat v w t x y e h l = joined
  where
    found : ((nat_le (v + w) 128) ≡ true) × (Some (Bits (v + w)) ≡ Some t)
    found = where_is (nat_le (v + w) 128) (Some (Bits (v + w))) t e

    few : v + w ≤ 128
    few = let test = found.0 in grind (arith, nat_tests, test)

    all : IsWordIn (v + w) (op.concat x y)
    all =
        let some = h.some in
        record {
          width = ap₂ (λ i j. i + j) h.width l.width;
          range = subst (λ k. x.value * 2 ^ k + y.value < 2 ^ (v + w)) (sym l.width) (joined_below v w x.value y.value h.range l.range);
          some = omega (arith, some);
          most = few;
        }

    joined : HasValueOf (where_true (nat_le (x.width + y.width) 128) (Some (value.Bits (op.concat x y)))) t
    joined =
        let first = h.width in
        let second = l.width in
        let less : x.width + y.width ≤ 128 = omega (arith, first, second, few) in
        let test : nat_le (x.width + y.width) 128 ≡ true = grind (arith, nat_tests, less) in
        subst (λ o. HasValueOf o t) (sym (where_so (nat_le (x.width + y.width) 128) (Some (value.Bits (op.concat x y))) test)) (has_bits (v + w) t (op.concat x y) (some_same (Bits (v + w)) t found.1) all)
binary_in b.Shl v w t x y e h l = has_bits v t _ (some_same (Bits v) t e) (like v x _ h (mod_below (x.value * 2 ^ min y.value x.width) (2 ^ x.width) (pow_pos x.width)))
binary_in (b.Shr sign) v w t x y e h l = has_bits v t _ (some_same (Bits v) t e) (shifted_in sign v x y h)
binary_in b.And v w t x y e h l = alike v w v t x y _ e h l (λ s. like v x _ h (and_below x.value y.value (2 ^ x.width) (own_range v x h)))
binary_in b.Xor v w t x y e h l = alike v w v t x y _ e h l (λ s. like v x _ h (xor_lt x.width x.value y.value (own_range v x h) (other_range v x y h (moved v w y s l))))
binary_in b.Or v w t x y e h l = alike v w v t x y _ e h l (λ s. like v x _ h (or_lt x.width x.value y.value (own_range v x h) (other_range v x y h (moved v w y s l))))
binary_in b.Eq v w t x y e h l = alike v w 1 t x y _ e h l (λ s. one_bit_in (x.value == y.value))
binary_in b.Ne v w t x y e h l = alike v w 1 t x y _ e h l (λ s. one_bit_in (not (x.value == y.value)))
binary_in (b.Lt sign) v w t x y e h l = alike v w 1 t x y _ e h l (λ s. one_bit_in (is_less (order_read sign x y)))
binary_in (b.Le sign) v w t x y e h l = alike v w 1 t x y _ e h l (λ s. one_bit_in (not (is_less (order_read sign y x))))
binary_in (b.Gt sign) v w t x y e h l = alike v w 1 t x y _ e h l (λ s. one_bit_in (is_less (order_read sign y x)))
binary_in (b.Ge sign) v w t x y e h l = alike v w 1 t x y _ e h l (λ s. one_bit_in (not (is_less (order_read sign x y))))

-- ---- casts and slices

pub cast_in : (signed : Bool) (v w : ℕ) (x : Word) → 1 ≤ w → w ≤ 128 → IsWordIn v x → IsWordIn w (cast_word signed w x)
cast_in signed v w x some most h = by (nat_le w x.width) refl
  where
    longer : nat_le w x.width ≡ false → x.value < 2 ^ w
    longer e =
        let own = own_range v x h in
        let more : x.width ≤ w = grind (arith, nat_tests, e) in
        longer_below x.width w x.value more own

    extended : (s : Bool) → nat_le w x.width ≡ false → IsWordIn w (if s then op.sext x w else op.zext x w)
    extended true e = of_width w _ some most (extended_below _ w x.value _ (longer e))
    extended false e = of_width w _ some most (longer e)

    by : (t : Bool) → nat_le w x.width ≡ t → IsWordIn w (if t then op.slice x 0 w else if signed then op.sext x w else op.zext x w)
    by true e = of_width w _ some most (mod_below _ (2 ^ w) (pow_pos w))
    by false e = extended signed e

pub slice_in : (w n : ℕ) → 1 ≤ w → w ≤ 128 → IsWordIn w (word w (n % 2 ^ w))
slice_in w n some most = of_width w _ some most (mod_below n (2 ^ w) (pow_pos w))

pub sound_word : (x : Word) → is_sound_word x ≡ true → IsWordIn x.width x
sound_word x h =
    let parts = both _ (nat_lt x.value (2 ^ x.width)) h in
    let bounds = width_bounds x.width parts.0 in
    let test = parts.1 in
    record { width = refl; range = grind (arith, nat_tests, test); some = bounds.0; most = bounds.1 }

pub next_in : (w : ℕ) (x : Word) → IsWordIn w x → IsWordIn w (op.add x (word x.width 1))
next_in w x h = like w x _ h (mod_below (x.value + 1) (2 ^ x.width) (pow_pos x.width))
