-- What each operation gives for its operands. The operations on numbers are those of the layer of numbers, one definition each.
use Rattle.std.specs.Prelude.{ℕ, zero, suc, ◌+◌, ◌-◌, min, Bool, true, false, ◌&&◌, not, ◌==◌, nat_le, if◌then◌else◌, List, [], ◌∷◌, length, get_or, slice_set, Option, Some}
use Rattle.std.specs.declared.cmp.Ordering.{Ordering}
use Rattle.std.specs.declared.cmp.Ordering.TheVariants.{Less, Equal, Greater}
use Rattle.xb_bits.specs.Word.{Word, word}
use Rattle.xb_bits.specs.Operations as op
use Rattle.xb_value.specs.declared.value.Value.{Value, out-Value, Tuple, Array}
use Rattle.xb_value.specs.declared.value.Value.TheOpen.{Value-F}
use Rattle.xb_value.specs.Flat.{flat_of}
use Rattle.ir_tree.specs.declared.node.Operand.{Operand}
use Rattle.delay_model.specs.declared.op.Op.{Op}
use Rattle.delay_model.specs.declared.op.Op.TheVariants as ops
use Rattle.delay_model.specs.declared.op.Binary.{Binary}
use Rattle.delay_model.specs.declared.op.Binary.TheVariants as binary
use Rattle.delay_model.specs.declared.op.Unary.{Unary}
use Rattle.delay_model.specs.declared.op.Unary.TheVariants as unary
use Rattle.delay_model.specs.declared.op.Compare.{Compare}
use Rattle.delay_model.specs.declared.op.Compare.TheVariants as compare
use Rattle.delay_model.specs.declared.op.Shift.{Shift}
use Rattle.delay_model.specs.declared.op.Shift.TheVariants as shift
use Rattle.delay_model.specs.declared.op.Reduce.{Reduce}
use Rattle.delay_model.specs.declared.op.Reduce.TheVariants as reduce
use Rattle.delay_model.specs.declared.op.Extend.{Extend}
use Rattle.delay_model.specs.declared.op.Extend.TheVariants as extend
use Rattle.ir_tree.specs.Constants.{no_value, bits_where}

-- ---- on words

abbrev pub binary_word : Binary → Word → Word → Word
binary_word binary.Add a b = op.add a b
binary_word binary.Sub a b = op.sub a b
binary_word binary.Umul a b = op.mul a b
binary_word binary.Udiv a b = op.udiv a b
binary_word binary.Umod a b = op.umod a b
binary_word binary.And a b = op.and a b
binary_word binary.Or a b = op.or a b
binary_word binary.Xor a b = op.xor a b

abbrev pub unary_word : Unary → Word → Word
unary_word unary.Not a = op.not a
unary_word unary.Neg a = op.neg a
unary_word unary.Reverse a = op.rev a

abbrev pub is_less : Ordering → Bool
is_less Less = true
is_less Equal = false
is_less Greater = false

abbrev pub is_equal : Ordering → Bool
is_equal Less = false
is_equal Equal = true
is_equal Greater = false

abbrev pub is_greater : Ordering → Bool
is_greater Less = false
is_greater Equal = false
is_greater Greater = true

-- `slt` to `sge` compare signed numbers
abbrev pub holds : Compare → Word → Word → Bool
holds compare.Eq a b = is_equal (op.cmp_u a b)
holds compare.Ne a b = not (is_equal (op.cmp_u a b))
holds compare.Ult a b = is_less (op.cmp_u a b)
holds compare.Ule a b = not (is_greater (op.cmp_u a b))
holds compare.Ugt a b = is_greater (op.cmp_u a b)
holds compare.Uge a b = not (is_less (op.cmp_u a b))
holds compare.Slt a b = is_less (op.cmp_s a b)
holds compare.Sle a b = not (is_greater (op.cmp_s a b))
holds compare.Sgt a b = is_greater (op.cmp_s a b)
holds compare.Sge a b = not (is_less (op.cmp_s a b))

-- one bit
abbrev pub bit : Bool → Word
bit b = word 1 (if b then 1 else 0)

abbrev pub shift_word : Shift → Word → Word → Word
shift_word shift.Shll a k = op.shll a k
shift_word shift.Shrl a k = op.shrl a k
shift_word shift.Shra a k = op.shra a k

abbrev pub reduce_word : Reduce → Word → Word
reduce_word reduce.And a = op.and_reduce a
reduce_word reduce.Or a = op.or_reduce a
reduce_word reduce.Xor a = op.xor_reduce a

abbrev pub extend_word : Extend → Word → ℕ → Word
extend_word extend.Zero a width = op.zext a width
extend_word extend.Sign a width = op.sext a width

-- ---- on values. Where they don't fit the operation, there is no value

abbrev pub on_open_word : (Word → Value) → Value-F Value → Value
on_open_word f (Value-F.Bits a) = f a
on_open_word f (Value-F.Tuple vs) = no_value
on_open_word f (Value-F.Array vs) = no_value

abbrev pub on_word : (Word → Value) → Value → Value
on_word f v = on_open_word f (out-Value v)

abbrev pub on_words : (Word → Word → Value) → Value → Value → Value
on_words f a b = on_word (λ x. on_word (f x) b) a

abbrev pub on_open_tuple : (List Value → Value) → Value-F Value → Value
on_open_tuple f (Value-F.Bits a) = no_value
on_open_tuple f (Value-F.Tuple vs) = f vs
on_open_tuple f (Value-F.Array vs) = no_value

abbrev pub on_tuple : (List Value → Value) → Value → Value
on_tuple f v = on_open_tuple f (out-Value v)

abbrev pub on_open_array : (List Value → Value) → Value-F Value → Value
on_open_array f (Value-F.Bits a) = no_value
on_open_array f (Value-F.Tuple vs) = no_value
on_open_array f (Value-F.Array vs) = f vs

abbrev pub on_array : (List Value → Value) → Value → Value
on_array f v = on_open_array f (out-Value v)

-- exactly one, or exactly two
abbrev pub of_one : (Value → Value) → List Value → Value
of_one f [] = no_value
of_one f (a ∷ []) = f a
of_one f (a ∷ b ∷ vs) = no_value

abbrev pub of_two : (Value → Value → Value) → List Value → Value
of_two f [] = no_value
of_two f (a ∷ []) = no_value
of_two f (a ∷ b ∷ []) = f a b
of_two f (a ∷ b ∷ c ∷ vs) = no_value

-- ---- operations without attributes

abbrev pub binary_value : Binary → Word → Word → Value
binary_value o a b = bits_where (a.width == b.width) (binary_word o a b)

abbrev pub compare_value : Compare → Word → Word → Value
compare_value o a b = bits_where (a.width == b.width) (bit (holds o a b))

-- a number of 1 to 128 bits
abbrev pub number_where : Word → Value
number_where x = bits_where (nat_le 1 x.width && nat_le x.width 128) x

abbrev pub plain_value : Op → List Value → Value
plain_value (ops.Binary o) vs = of_two (on_words (binary_value o)) vs
plain_value (ops.Unary o) vs = of_one (on_word (λ a. bits_where true (unary_word o a))) vs
plain_value (ops.Compare o) vs = of_two (on_words (compare_value o)) vs
plain_value (ops.Shift o) vs = of_two (on_words (λ a k. bits_where true (shift_word o a k))) vs
plain_value (ops.Reduce o) vs = of_one (on_word (λ a. bits_where true (reduce_word o a))) vs
plain_value ops.Concat vs = number_where (flat_of (Tuple vs))
plain_value ops.Tuple vs = Tuple vs
plain_value ops.Array vs = Array vs
plain_value (ops.Extend o) vs = no_value
plain_value ops.BitSlice vs = no_value
plain_value ops.DynamicBitSlice vs = no_value
plain_value ops.Sel vs = no_value
plain_value ops.TupleIndex vs = no_value
plain_value ops.ArrayIndex vs = no_value
plain_value ops.ArrayUpdate vs = no_value
plain_value ops.Literal vs = no_value
plain_value ops.AfterAll vs = no_value
plain_value ops.Receive vs = no_value
plain_value ops.Send vs = no_value

-- ---- operations with attributes

abbrev pub slice_value : ℕ → ℕ → Word → Value
slice_value start width x = bits_where (nat_le 1 width && nat_le (start + width) x.width) (op.slice x start width)

abbrev pub dyn_slice_value : ℕ → Word → Word → Value
dyn_slice_value width x start = bits_where (nat_le 1 width && nat_le width 128) (op.dyn_slice x start width)

abbrev pub extend_value : Extend → ℕ → Word → Value
extend_value o width x = bits_where (nat_le x.width width && nat_le width 128) (extend_word o x width)

-- the case of the selector's number, else the default
abbrev pub chosen : List Operand → Option Operand → ℕ → Option Operand
chosen [] default n = default
chosen (c ∷ cs) default zero = Some c
chosen (c ∷ cs) default (suc n) = chosen cs default n

abbrev pub element_at : ℕ → List Value → Value
element_at i vs = get_or vs i no_value

-- an index past the end is that of the last element
abbrev pub at_index : List Value → Word → Value
at_index vs i = element_at (min i.value (length vs - 1)) vs

-- an index past the end changes nothing
abbrev pub updated : Value → List Value → Word → Value
updated e vs i = Array (slice_set vs i.value e)

abbrev pub index_value : Op → Value → List Value → Value
index_value ops.ArrayIndex i vs = of_one (on_array (λ xs. on_word (at_index xs) i)) vs
index_value ops.ArrayUpdate i vs = of_two (λ x e. on_array (λ xs. on_word (updated e xs) i) x) vs
index_value _ i vs = no_value

abbrev pub longer_value : Op → ℕ → List Value → Value
longer_value (ops.Extend o) width vs = of_one (on_word (extend_value o width)) vs
longer_value _ width vs = no_value
