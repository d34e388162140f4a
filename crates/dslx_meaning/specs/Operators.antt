-- What operators, casts, slices and builtins give for the values of their operands. The operations on words are those of
-- the layer of numbers, one definition each.
use Rattle.std.specs.Prelude.{ℕ, zero, suc, pred, List, [], ◌∷◌, ◌-◌, ◌^◌, ◌==◌, ◌&&◌, ◌||◌, nat_lt, nat_le, min, Bool, true, false, not, Option, Some, None, length, slice_get, set, ℤ, pos, negsuc, if◌then◌else◌}
use Rattle.std.specs.declared.cmp.Ordering.{Ordering}
use Rattle.std.specs.declared.cmp.Ordering.TheVariants.{Less, Equal, Greater}
use Rattle.xb_bits.specs.Word.{Word, word}
use Rattle.xb_bits.specs.Sign.{signed_value}
use Rattle.xb_bits.specs.Operations as op
use Rattle.dslx_tree.specs.declared.operator.Prefix.{Prefix}
use Rattle.dslx_tree.specs.declared.operator.Prefix.TheVariants.{Minus, Not}
use Rattle.dslx_tree.specs.declared.operator.Binary.{Binary}
use Rattle.dslx_tree.specs.declared.operator.Binary.TheVariants as b
use Rattle.dslx_meaning.specs.Lists.{and_then, with_both, where_true}
use Rattle.dslx_meaning.specs.Types.{same_bool, bits_in}
use Rattle.dslx_meaning.specs.Values.{same_value, bits_of, based_bits, unsigned_of, elements_of, items_of, bool_value}
use Rattle.dslx_meaning.specs.declared.ty.DslxType.{DslxType}
use Rattle.dslx_meaning.specs.declared.value.DslxValue.{DslxValue, Bits, Array}
use Rattle.dslx_meaning.specs.declared.ty.BitKind.{BitKind}
use Rattle.dslx_meaning.specs.declared.value.SignedWord.{SignedWord}
use Rattle.dslx_meaning.specs.declared.value.UntypedLiteral.{UntypedLiteral}

-- ---- numbers

-- the word of a negative number, if it lies in the range of signed bits
abbrev pub negative_word : Bool → ℕ → ℕ → Option Word
negative_word signed w zero = Some (word w 0)
negative_word false w (suc n) = None
negative_word true w (suc n) = if nat_le (suc n) (2 ^ (w - 1)) then Some (word w (2 ^ w - suc n)) else None

abbrev pub positive_word : Bool → ℕ → ℕ → Option Word
positive_word false w n = if nat_lt n (2 ^ w) then Some (word w n) else None
positive_word true w n = if nat_lt n (2 ^ (w - 1)) then Some (word w n) else None

-- the word of a number in bits of this kind, if it lies in their range
abbrev pub word_in_range : BitKind → UntypedLiteral → Option Word
word_in_range kind number =
    if number.is_negative then negative_word kind.signed kind.width number.value
    else positive_word kind.signed kind.width number.value

abbrev pub number_in : Option BitKind → UntypedLiteral → Option DslxValue
number_in None number = None
number_in (Some kind) number = and_then (word_in_range kind number) (λ w. Some (Bits kind.signed w))

-- a number with its type
abbrev pub number_value : DslxType → UntypedLiteral → Option DslxValue
number_value t number = number_in (bits_in t) number

-- bits as a whole number
abbrev pub whole_number : SignedWord → ℤ
whole_number x = if x.signed then signed_value x.word.width x.word.value else pos x.word.value

abbrev pub natural : ℤ → Option ℕ
natural (pos n) = Some n
natural (negsuc n) = None

-- the whole number that a value is, where it is bits and not negative
abbrev pub index_number : DslxValue → Option ℕ
index_number v = and_then (bits_of v) (λ x. natural (whole_number x))

-- ---- unary operators

abbrev pub prefix_word : Prefix → Word → Word
prefix_word Minus x = op.neg x
prefix_word Not x = op.not x

abbrev pub prefix_value : Prefix → DslxValue → Option DslxValue
prefix_value o v = and_then (bits_of v) (λ x. Some (Bits x.signed (prefix_word o x.word)))

-- ---- binary operators

-- two words of one bit type
abbrev pub of_one_type : SignedWord → SignedWord → Bool
of_one_type x y = same_bool x.signed y.signed && x.word.width == y.word.width

abbrev pub arithmetic : (Word → Word → Word) → SignedWord → SignedWord → Option DslxValue
arithmetic f x y = where_true (of_one_type x y) (Some (Bits x.signed (f x.word y.word)))

abbrev pub division : (Word → Word → Word) → SignedWord → SignedWord → Option DslxValue
division f x y = where_true (of_one_type x y && not x.signed) (Some (Bits false (f x.word y.word)))

abbrev pub joining : SignedWord → SignedWord → Option DslxValue
joining x y = where_true (not x.signed && not y.signed) (Some (Bits false (op.concat x.word y.word)))

abbrev pub shift_left : SignedWord → SignedWord → Option DslxValue
shift_left x k = where_true (not k.signed) (Some (Bits x.signed (op.shll x.word k.word)))

-- copies of the sign come into a signed number
abbrev pub shift_right : SignedWord → SignedWord → Option DslxValue
shift_right x k = where_true (not k.signed) (Some (Bits x.signed (if x.signed then op.shra x.word k.word else op.shrl x.word k.word)))

-- by signed values where they are signed
abbrev pub order_of : SignedWord → SignedWord → Ordering
order_of x y = if x.signed then op.cmp_s x.word y.word else op.cmp_u x.word y.word

abbrev pub is_less : Ordering → Bool
is_less Less = true
is_less Equal = false
is_less Greater = false

abbrev pub is_equal : Ordering → Bool
is_equal Less = false
is_equal Equal = true
is_equal Greater = false

abbrev pub comparison : (Ordering → Bool) → SignedWord → SignedWord → Option DslxValue
comparison test x y = where_true (of_one_type x y) (Some (bool_value (test (order_of x y))))

-- the truth of a bool
abbrev pub truth_of : SignedWord → Option Bool
truth_of x = where_true (not x.signed && x.word.width == 1) (Some (x.word.value == 1))

abbrev pub truth : DslxValue → Option Bool
truth v = and_then (bits_of v) truth_of

abbrev pub both_true : SignedWord → SignedWord → Option DslxValue
both_true x y = with_both (truth_of x) (truth_of y) (λ p q. Some (bool_value (p && q)))

abbrev pub one_true : SignedWord → SignedWord → Option DslxValue
one_true x y = with_both (truth_of x) (truth_of y) (λ p q. Some (bool_value (p || q)))

abbrev pub bits_binary : Binary → SignedWord → SignedWord → Option DslxValue
bits_binary b.Mul x y = arithmetic op.mul x y
bits_binary b.Div x y = division op.udiv x y
bits_binary b.Rem x y = division op.umod x y
bits_binary b.Add x y = arithmetic op.add x y
bits_binary b.Sub x y = arithmetic op.sub x y
bits_binary b.Concat x y = joining x y
bits_binary b.Shl x y = shift_left x y
bits_binary b.Shr x y = shift_right x y
bits_binary b.And x y = arithmetic op.and x y
bits_binary b.Xor x y = arithmetic op.xor x y
bits_binary b.Or x y = arithmetic op.or x y
bits_binary b.Eq x y = comparison is_equal x y
bits_binary b.Ne x y = comparison (λ o. not (is_equal o)) x y
bits_binary b.Lt x y = comparison is_less x y
bits_binary b.Le x y = comparison (λ o. is_less o || is_equal o) x y
bits_binary b.Gt x y = comparison (λ o. not (is_less o || is_equal o)) x y
bits_binary b.Ge x y = comparison (λ o. not (is_less o)) x y
bits_binary b.Both x y = both_true x y
bits_binary b.Either x y = one_true x y

-- two values of one enum are compared by their words
abbrev pub enum_binary : Binary → DslxValue → DslxValue → Option DslxValue
enum_binary b.Eq v w = Some (bool_value (same_value v w))
enum_binary b.Ne v w = Some (bool_value (not (same_value v w)))
enum_binary _ v w = None

abbrev pub bits_or_enums : Binary → DslxValue → DslxValue → Option SignedWord → Option SignedWord → Option DslxValue
bits_or_enums o v w (Some x) (Some y) = bits_binary o x y
bits_or_enums o v w None None = with_both (based_bits v) (based_bits w) (λ x y. enum_binary o v w)
bits_or_enums o v w _ _ = None

abbrev pub binary_value : Binary → DslxValue → DslxValue → Option DslxValue
binary_value o v w = bits_or_enums o v w (bits_of v) (bits_of w)

-- ---- casts and slices

-- high bits are cut off; new ones are copies of the sign of the source, where it is signed
abbrev pub cast_word : Bool → ℕ → Word → Word
cast_word signed w x =
    if nat_le w x.width then op.slice x 0 w
    else if signed then op.sext x w
    else op.zext x w

abbrev pub cast_to : Option BitKind → SignedWord → Option DslxValue
cast_to None x = None
cast_to (Some kind) x = Some (Bits kind.signed (cast_word x.signed kind.width x.word))

abbrev pub cast_value : DslxType → DslxValue → Option DslxValue
cast_value t v = and_then (based_bits v) (cast_to (bits_in t))

-- bits a to b - 1
abbrev pub slice_word : ℕ → ℕ → SignedWord → Option DslxValue
slice_word from to x = where_true (nat_lt from to && nat_le to x.word.width) (Some (Bits false (op.slice x.word from (to - from))))

abbrev pub slice_value : DslxValue → ℕ → ℕ → Option DslxValue
slice_value v from to = and_then (bits_of v) (slice_word from to)

-- bits from a start on, 0 past the end
abbrev pub part_value : DslxValue → DslxValue → ℕ → Option DslxValue
part_value v start w = with_both (bits_of v) (unsigned_of start) (λ x k. Some (Bits false (op.dyn_slice x.word k w)))

-- ---- arrays, tuples and structs

-- the element at an index, the last one past the end
abbrev pub element_or_last : List DslxValue → ℕ → Option DslxValue
element_or_last vs k = slice_get vs (min k (pred (length vs)))

abbrev pub index_value : DslxValue → DslxValue → Option DslxValue
index_value v i = with_both (items_of v) (unsigned_of i) (λ vs k. element_or_last vs k.value)

-- the array with another value at an index; past the end it stays as it is
abbrev pub update_value : DslxValue → DslxValue → DslxValue → Option DslxValue
update_value v i new = with_both (items_of v) (unsigned_of i) (λ vs k. Some (Array (if nat_lt k.value (length vs) then set vs k.value new else vs)))

abbrev pub element_value : DslxValue → ℕ → Option DslxValue
element_value v k = and_then (elements_of v) (λ vs. slice_get vs k)

-- ---- builtins

abbrev pub counted : (Word → Word) → List DslxValue → Option DslxValue
counted f (v ∷ []) = and_then (bits_of v) (λ x. Some (Bits x.signed (f x.word)))
counted f _ = None

abbrev pub reduced : (Word → Word) → List DslxValue → Option DslxValue
reduced f (v ∷ []) = and_then (bits_of v) (λ x. Some (Bits false (f x.word)))
reduced f _ = None

abbrev pub updated : List DslxValue → Option DslxValue
updated (v ∷ i ∷ new ∷ []) = update_value v i new
updated _ = None
