-- What operations make of words are words.
use Rattle.std.proofs.Common.{ℕ, zero, suc, ◌+◌, ◌-◌, ◌*◌, ◌/◌, ◌%◌, ◌^◌, ◌<◌, ◌≤◌, min, lit<, Bool, true, false, refl, sym, subst, ◌∙◌, arith, bit_and}
use Rattle.std.specs.Prelude.{if◌then◌else◌, pos, negsuc, count_ones}
use Rattle.std.specs.Int.{int_shr}
use Rattle.std.proofs.Math.Nat.{div-le_self, mod-le}
use Rattle.std.proofs.Math.Pow.{pow_mono}
use Rattle.std.proofs.lemmas.Nat.{mod_below, pow_pos, and_le_l, or_lt, xor_lt}
use Rattle.xb_bits.specs.Word.{Word, word}
use Rattle.xb_bits.specs.Sign.{signed_bits}
use Rattle.xb_bits.specs.BitPositions.{reversed_bits}
use Rattle.std.specs.Int.{bit_at}
use Rattle.std.proofs.Math.Nat.{pow-suc}
use Rattle.std.proofs.lemmas.Nat.Bits.{bit_at-lt}
use Rattle.net_core.specs.Behavior.{IsWordOf}
use Rattle.delay_model.specs.declared.op.Binary.{Binary}
use Rattle.delay_model.specs.declared.op.Binary.TheVariants as binary
use Rattle.delay_model.specs.declared.op.Unary.{Unary}
use Rattle.delay_model.specs.declared.op.Unary.TheVariants as unary
use Rattle.delay_model.specs.declared.op.Shift.{Shift}
use Rattle.delay_model.specs.declared.op.Shift.TheVariants as shift
use Rattle.delay_model.specs.declared.op.Reduce.{Reduce}
use Rattle.delay_model.specs.declared.op.Reduce.TheVariants as reduce
use Rattle.delay_model.specs.declared.op.Extend.{Extend}
use Rattle.delay_model.specs.declared.op.Extend.TheVariants as extend
use Rattle.ir_tree.specs.Operations.{binary_word, unary_word, shift_word, reduce_word, extend_word, bit}

-- a number of as many bits as a word
like : (w : ℕ) (x : Word) (n : ℕ) → IsWordOf w x → n < 2 ^ x.width → IsWordOf w (word x.width n)
like w x n h k = record {
  word = record { some_width = h.word.some_width; most_width = h.word.most_width; in_range = k };
  fits = h.fits;
}

pub number_word : (w n : ℕ) → 1 ≤ w → w ≤ 128 → n < 2 ^ w → IsWordOf w (word w n)
number_word w n h k l = record { word = record { some_width = h; most_width = k; in_range = l }; fits = refl }

either_below : (b : Bool) (m n k : ℕ) → m < k → n < k → (if b then m else n) < k
either_below true m n k h l = h
either_below false m n k h l = l

ones_below : (p : ℕ) → 2 ^ p - 1 < 2 ^ p
ones_below p = let some : 0 < 2 ^ p = pow_pos p in omega arith

without_below : (p n : ℕ) → 2 ^ p - suc n < 2 ^ p
without_below p n = let some : 0 < 2 ^ p = pow_pos p in omega arith

part_below : (a b k : ℕ) → a < k → a / b < k
part_below a b k h = let part : a / b ≤ a = div-le_self a b in omega arith

rest_below : (a b k : ℕ) → a < k → a % b < k
rest_below a b k h = let rest : a % b ≤ a = mod-le a b in omega arith

and_below : (a b k : ℕ) → a < k → bit_and a b < k
and_below a b k h = let less : bit_and a b ≤ a = and_le_l a b in omega arith

high_place : (b n r : ℕ) → b < 2 → r < n → b * n + r < n * 2
high_place zero n r h k = omega arith
high_place (suc zero) n r h k = omega arith
high_place (suc (suc b)) n r h k = absurd (omega arith)

reversed_below : (p a : ℕ) → reversed_bits p a < 2 ^ p
unfolding reversed_bits
reversed_below zero a = omega arith
reversed_below (suc p) a =
    let rest : reversed_bits p (a / 2) < 2 ^ p = reversed_below p (a / 2) in
    let bit : bit_at a 0 < 2 = bit_at-lt a 0 in
    rw (pow-suc 2 p) (high_place (bit_at a 0) (2 ^ p) (reversed_bits p (a / 2)) bit rest)

same_range : (w : ℕ) (x y : Word) → IsWordOf w x → IsWordOf w y → y.value < 2 ^ x.width
same_range w x y h k = subst (λ v. y.value < 2 ^ v) (k.fits ∙ sym h.fits) k.word.in_range

pub binary_word_of : (o : Binary) (w : ℕ) (x y : Word) → IsWordOf w x → IsWordOf w y → IsWordOf w (binary_word o x y)
binary_word_of binary.Add w x y h k = like w x _ h (mod_below (x.value + y.value) (2 ^ x.width) (pow_pos x.width))
binary_word_of binary.Sub w x y h k = like w x _ h (mod_below (x.value + (2 ^ x.width - y.value)) (2 ^ x.width) (pow_pos x.width))
binary_word_of binary.Umul w x y h k = like w x _ h (mod_below (x.value * y.value) (2 ^ x.width) (pow_pos x.width))
binary_word_of binary.Udiv w x y h k = like w x _ h (either_below _ _ _ _ (ones_below x.width) (part_below x.value y.value (2 ^ x.width) h.word.in_range))
binary_word_of binary.Umod w x y h k = like w x _ h (either_below _ _ _ _ (pow_pos x.width) (rest_below x.value y.value (2 ^ x.width) h.word.in_range))
binary_word_of binary.And w x y h k = like w x _ h (and_below x.value y.value (2 ^ x.width) h.word.in_range)
binary_word_of binary.Or w x y h k = like w x _ h (or_lt x.width x.value y.value h.word.in_range (same_range w x y h k))
binary_word_of binary.Xor w x y h k = like w x _ h (xor_lt x.width x.value y.value h.word.in_range (same_range w x y h k))

pub unary_word_of : (o : Unary) (w : ℕ) (x : Word) → IsWordOf w x → IsWordOf w (unary_word o x)
unary_word_of unary.Not w x h = like w x _ h (let some : 0 < 2 ^ x.width = pow_pos x.width in omega arith)
unary_word_of unary.Neg w x h = like w x _ h (mod_below (2 ^ x.width - x.value) (2 ^ x.width) (pow_pos x.width))
unary_word_of unary.Reverse w x h = like w x _ h (reversed_below x.width x.value)

signed_below : (b : Bool) (v t a k m : ℕ) → a < 2 ^ t → signed_bits t (int_shr (if b then pos a else negsuc m) k) < 2 ^ t
signed_below true v t a k m h = part_below a (2 ^ k) (2 ^ t) h
signed_below false v t a k m h = without_below t _

extended_below : (b : Bool) (t a m : ℕ) → a < 2 ^ t → signed_bits t (if b then pos a else negsuc m) < 2 ^ t
extended_below true t a m h = h
extended_below false t a m h = without_below t m

pub shift_word_of : (o : Shift) (w : ℕ) (x k : Word) → IsWordOf w x → IsWordOf w (shift_word o x k)
shift_word_of shift.Shll w x k h = like w x _ h (mod_below (x.value * 2 ^ min k.value x.width) (2 ^ x.width) (pow_pos x.width))
shift_word_of shift.Shrl w x k h = like w x _ h (part_below x.value (2 ^ min k.value x.width) (2 ^ x.width) h.word.in_range)
shift_word_of shift.Shra w x k h = like w x _ h (signed_below _ x.width x.width x.value (min k.value x.width) _ h.word.in_range)

pub bit_word : (b : Bool) → IsWordOf 1 (bit b)
bit_word true = number_word 1 1 (omega arith) (omega arith) (lit< tt)
bit_word false = number_word 1 0 (omega arith) (omega arith) (lit< tt)

one_bit : (b : Bool) → IsWordOf 1 (word 1 (if b then 1 else 0))
one_bit true = number_word 1 1 (omega arith) (omega arith) (lit< tt)
one_bit false = number_word 1 0 (omega arith) (omega arith) (lit< tt)

zero_bit : (b : Bool) → IsWordOf 1 (word 1 (if b then 0 else 1))
zero_bit true = number_word 1 0 (omega arith) (omega arith) (lit< tt)
zero_bit false = number_word 1 1 (omega arith) (omega arith) (lit< tt)

pub reduce_word_of : (o : Reduce) (x : Word) → IsWordOf 1 (reduce_word o x)
reduce_word_of reduce.And x = one_bit _
reduce_word_of reduce.Or x = zero_bit _
reduce_word_of reduce.Xor x = number_word 1 (count_ones x.value % 2) (omega arith) (omega arith) (mod_below (count_ones x.value) 2 (lit< tt))

longer_below : (v w a : ℕ) → v ≤ w → a < 2 ^ v → a < 2 ^ w
longer_below v w a h k = let more : 2 ^ v ≤ 2 ^ w = pow_mono h in omega arith

pub extend_word_of : (o : Extend) (w : ℕ) (x : Word) → 1 ≤ w → w ≤ 128 → x.width ≤ w → x.value < 2 ^ x.width → IsWordOf w (extend_word o x w)
extend_word_of extend.Zero w x some most h k = number_word w x.value some most (longer_below x.width w x.value h k)
extend_word_of extend.Sign w x some most h k = number_word w _ some most (extended_below _ w x.value _ (longer_below x.width w x.value h k))

pub slice_word_of : (w a : ℕ) → 1 ≤ w → w ≤ 128 → IsWordOf w (word w (a % 2 ^ w))
slice_word_of w a some most = number_word w _ some most (mod_below a (2 ^ w) (pow_pos w))
