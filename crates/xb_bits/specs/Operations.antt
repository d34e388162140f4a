-- The operations on words, each by its one formula on widths and numbers. Import this module under a name, as `op`.
use Rattle.std.specs.Prelude.{ℕ, ◌+◌, bit_and, bit_or, bit_xor}
use Rattle.std.specs.declared.cmp.Ordering.{Ordering}
use Rattle.xb_bits.specs.Word.{Word, word}
use Rattle.xb_bits.specs.Arithmetic.{sum_bits, difference_bits, product_bits, quotient_bits, remainder_bits, negative_bits, complement_bits}
use Rattle.xb_bits.specs.Shift.{shifted_left, shifted_right, shifted_signed}
use Rattle.xb_bits.specs.Parts.{joined_bits, slice_bits, dyn_slice_bits, sign_extended}
use Rattle.xb_bits.specs.BitPositions.{leading_zero_count, trailing_zero_count, reversed_bits}
use Rattle.xb_bits.specs.Reduction.{all_ones_bit, some_one_bit, parity_bit}
use Rattle.xb_bits.specs.Order.{unsigned_order, signed_order}

abbrev pub add : Word → Word → Word
add a b = word a.width (sum_bits a.width a.value b.value)

abbrev pub sub : Word → Word → Word
sub a b = word a.width (difference_bits a.width a.value b.value)

abbrev pub mul : Word → Word → Word
mul a b = word a.width (product_bits a.width a.value b.value)

abbrev pub udiv : Word → Word → Word
udiv a b = word a.width (quotient_bits a.width a.value b.value)

abbrev pub umod : Word → Word → Word
umod a b = word a.width (remainder_bits a.value b.value)

abbrev pub and : Word → Word → Word
and a b = word a.width (bit_and a.value b.value)

abbrev pub or : Word → Word → Word
or a b = word a.width (bit_or a.value b.value)

abbrev pub xor : Word → Word → Word
xor a b = word a.width (bit_xor a.value b.value)

abbrev pub shll : Word → Word → Word
shll a k = word a.width (shifted_left a.width a.value k.value)

abbrev pub shrl : Word → Word → Word
shrl a k = word a.width (shifted_right a.width a.value k.value)

abbrev pub shra : Word → Word → Word
shra a k = word a.width (shifted_signed a.width a.value k.value)

abbrev pub concat : Word → Word → Word
concat a b = word (a.width + b.width) (joined_bits b.width a.value b.value)

abbrev pub not : Word → Word
not a = word a.width (complement_bits a.width a.value)

abbrev pub neg : Word → Word
neg a = word a.width (negative_bits a.width a.value)

abbrev pub clz : Word → Word
clz a = word a.width (leading_zero_count a.width a.value)

abbrev pub ctz : Word → Word
ctz a = word a.width (trailing_zero_count a.width a.value)

abbrev pub rev : Word → Word
rev a = word a.width (reversed_bits a.width a.value)

abbrev pub and_reduce : Word → Word
and_reduce a = word 1 (all_ones_bit a.width a.value)

abbrev pub or_reduce : Word → Word
or_reduce a = word 1 (some_one_bit a.value)

abbrev pub xor_reduce : Word → Word
xor_reduce a = word 1 (parity_bit a.value)

abbrev pub slice : Word → ℕ → ℕ → Word
slice x start width = word width (slice_bits x.value start width)

abbrev pub dyn_slice : Word → Word → ℕ → Word
dyn_slice x start width = word width (dyn_slice_bits x.width x.value start.value width)

abbrev pub zext : Word → ℕ → Word
zext x width = word width x.value

abbrev pub sext : Word → ℕ → Word
sext x width = word width (sign_extended x.width width x.value)

abbrev pub cmp_u : Word → Word → Ordering
cmp_u a b = unsigned_order a.value b.value

abbrev pub cmp_s : Word → Word → Ordering
cmp_s a b = signed_order a.width a.value b.value
