-- What operations make of numbers that lie below 2 to their width lies below 2 to its width.
use Rattle.std.proofs.Common.{◌≡◌, ◌&&◌, ◌||◌, ◌==◌, ℕ, zero, suc, ◌+◌, ◌-◌, ◌*◌, ◌/◌, ◌%◌, ◌^◌, ◌<◌, ◌≤◌, min, lit<, Bool, true, false, not, if◌then◌else◌, Option, Some, None, refl, sym, ap, subst, ◌∙◌, arith, bit_and}
use Rattle.std.specs.Prelude.{nat_lt, nat_le, pos, negsuc, count_ones}
use Rattle.std.specs.Int.{bit_at, int_shr}
use Rattle.std.proofs.Math.Nat.{div-le_self, mod-le, pow-suc}
use Rattle.std.proofs.Math.Pow.{pow_mono}
use Rattle.std.proofs.lemmas.Nat.{mod_below, pow_pos, and_le_l, or_lt, pow-add, xor_lt}
use Rattle.std.proofs.lemmas.Nat.Bits.{bit_at-lt}
use Rattle.std.proofs.lemmas.Bool.{leb-false}
use Rattle.std.proofs.lemmas.Bool.Decides.{Decides-ltb, Decides-eqb}
use Rattle.xb_bits.specs.Word.{Word, word}
use Rattle.xb_bits.specs.Operations as op
use Rattle.xb_bits.specs.BitPositions.{leading_zero_count, reversed_bits, trailing_zero_count}
use Rattle.xb_bits.specs.Sign.{signed_bits}
use Rattle.dslx_tree.specs.declared.operator.Binary.{Binary}
use Rattle.dslx_tree.specs.declared.operator.Binary.TheVariants as b
use Rattle.dslx_tree.specs.declared.operator.Prefix.{Prefix}
use Rattle.dslx_tree.specs.declared.operator.Prefix.TheVariants.{Minus, Not}
use Rattle.dslx_meaning.specs.Lists.{and_then, where_true, with_both}
use Rattle.dslx_meaning.specs.Types.{bits_in, same_bool}
use Rattle.dslx_meaning.specs.Values.{based_bits, bits_of, bool_value, same_value}
use Rattle.dslx_meaning.specs.Operators.{binary_value, bits_binary, bits_or_enums, cast_to, cast_value, cast_word, enum_binary, is_equal, is_less, negative_word, of_one_type, order_of, positive_word, prefix_value, prefix_word, truth_of, word_in_range}
use Rattle.dslx_meaning.specs.declared.ty.BitKind.{BitKind}
use Rattle.dslx_meaning.specs.declared.ty.DslxType.{DslxType}
use Rattle.dslx_meaning.specs.declared.value.UntypedLiteral.{UntypedLiteral}
use Rattle.dslx_meaning.specs.declared.value.DslxValue as value
use Rattle.dslx_meaning.specs.declared.value.DslxValue.{DslxValue}
use Rattle.dslx_meaning.specs.declared.value.SignedWord.{SignedWord}
use Rattle.dslx_core.proofs.Lemmas.Typing.Laws.{and_true}
use Rattle.dslx_core.specs.Typing.Typed.Kinds.{lies_in}
use Rattle.dslx_core.proofs.OnTyping.OnTyped.TypingRelations.{none_some, same_some}

-- ---- numbers

-- the number of a word lies in it
abbrev pub InRange : Word → Type 0
InRange x = x.value < 2 ^ x.width

pub lies : (x : Word) → InRange x → lies_in x ≡ true
lies x h = (Decides-ltb x.value (2 ^ x.width)).1 h

pub in_range : (x : Word) → lies_in x ≡ true → InRange x
in_range x e = (Decides-ltb x.value (2 ^ x.width)).0 e

either_below : (b : Bool) (m n k : ℕ) → m < k → n < k → (if b then m else n) < k
either_below true m n k h l = h
either_below false m n k h l = l

ones_below : (p : ℕ) → 2 ^ p - 1 < 2 ^ p
ones_below p = let some : 0 < 2 ^ p = pow_pos p in omega arith

without_below : (p n : ℕ) → 2 ^ p - suc n < 2 ^ p
without_below p n = let some : 0 < 2 ^ p = pow_pos p in omega arith

part_below : (a b k : ℕ) → a < k → a / b < k
part_below a b k h = let part : a / b ≤ a = div-le_self a b in omega arith

rest_below : (a b k : ℕ) → a < k → a % b < k
rest_below a b k h = let rest : a % b ≤ a = mod-le a b in omega arith

and_below : (a b k : ℕ) → a < k → bit_and a b < k
and_below a b k h = let less : bit_and a b ≤ a = and_le_l a b in omega arith

longer_below : (v w a : ℕ) → v ≤ w → a < 2 ^ v → a < 2 ^ w
longer_below v w a h k = let more : 2 ^ v ≤ 2 ^ w = pow_mono h in omega arith

high_place : (b n r : ℕ) → b < 2 → r < n → b * n + r < n * 2
high_place zero n r h k = omega arith
high_place (suc zero) n r h k = omega arith
high_place (suc (suc b)) n r h k = absurd (omega arith)

reversed_below : (p a : ℕ) → reversed_bits p a < 2 ^ p
unfolding reversed_bits
reversed_below zero a = omega arith
reversed_below (suc p) a =
    let rest : reversed_bits p (a / 2) < 2 ^ p = reversed_below p (a / 2) in
    let bit : bit_at a 0 < 2 = bit_at-lt a 0 in
    rw (pow-suc 2 p) (high_place (bit_at a 0) (2 ^ p) (reversed_bits p (a / 2)) bit rest)

signed_below : (b : Bool) (t a k m : ℕ) → a < 2 ^ t → signed_bits t (int_shr (if b then pos a else negsuc m) k) < 2 ^ t
signed_below true t a k m h = part_below a (2 ^ k) (2 ^ t) h
signed_below false t a k m h = without_below t _

extended_below : (b : Bool) (t a m : ℕ) → a < 2 ^ t → signed_bits t (if b then pos a else negsuc m) < 2 ^ t
extended_below true t a m h = h
extended_below false t a m h = without_below t m

width_below : (w : ℕ) → w < 2 ^ w
width_below zero = omega arith
width_below (suc w) =
    let less : w < 2 ^ w = width_below w in
    rw (pow-suc 2 w) (omega arith)

leading_within : (w a : ℕ) → leading_zero_count w a ≤ w
unfolding leading_zero_count
leading_within zero a = omega arith
leading_within (suc w) a = either_within (bit_at a w == 1) 0 (suc (leading_zero_count w a)) (suc w) (omega arith) (let rest : leading_zero_count w a ≤ w = leading_within w a in omega arith)
  where
    either_within : (b : Bool) (m n k : ℕ) → m ≤ k → n ≤ k → (if b then m else n) ≤ k
    either_within true m n k h l = h
    either_within false m n k h l = l

trailing_within : (w a : ℕ) → trailing_zero_count w a ≤ w
unfolding trailing_zero_count
trailing_within zero a = omega arith
trailing_within (suc w) a = either_within (bit_at a 0 == 1) 0 (suc (trailing_zero_count w (a / 2))) (suc w) (omega arith) (let rest : trailing_zero_count w (a / 2) ≤ w = trailing_within w (a / 2) in omega arith)
  where
    either_within : (b : Bool) (m n k : ℕ) → m ≤ k → n ≤ k → (if b then m else n) ≤ k
    either_within true m n k h l = h
    either_within false m n k h l = l

count_below : (c w : ℕ) → c ≤ w → c < 2 ^ w
count_below c w h = let less : w < 2 ^ w = width_below w in omega arith

-- a row of `n` places and a place in the next
place_below : (a b n m : ℕ) → a < m → b < n → a * n + b < m * n
place_below a b n m h k = grind arith

joined_below : (p q a b : ℕ) → a < 2 ^ p → b < 2 ^ q → a * 2 ^ q + b < 2 ^ (p + q)
joined_below p q a b high low = subst (λ n. a * 2 ^ q + b < n) (sym (pow-add 2 p q)) (place_below a b (2 ^ q) (2 ^ p) high low)

-- ---- words

add_in_range : (x y : Word) → InRange (op.add x y)
add_in_range x y = mod_below (x.value + y.value) (2 ^ x.width) (pow_pos x.width)

not_in_range : (x : Word) → InRange (op.not x)
not_in_range x = let some : 0 < 2 ^ x.width = pow_pos x.width in omega arith

pub next_lies : (x : Word) → lies_in (op.add x (word x.width 1)) ≡ true
next_lies x = lies (op.add x (word x.width 1)) (add_in_range x (word x.width 1))

pub slice_lies : (x : Word) (k w : ℕ) → lies_in (op.slice x k w) ≡ true
slice_lies x k w = lies (op.slice x k w) (mod_below _ (2 ^ w) (pow_pos w))

pub dyn_slice_lies : (x k : Word) (w : ℕ) → lies_in (op.dyn_slice x k w) ≡ true
dyn_slice_lies x k w = lies (op.dyn_slice x k w) (mod_below _ (2 ^ w) (pow_pos w))

pub clz_lies : (x : Word) → lies_in (op.clz x) ≡ true
clz_lies x = lies (op.clz x) (count_below (leading_zero_count x.width x.value) x.width (leading_within x.width x.value))

pub ctz_lies : (x : Word) → lies_in (op.ctz x) ≡ true
ctz_lies x = lies (op.ctz x) (count_below (trailing_zero_count x.width x.value) x.width (trailing_within x.width x.value))

pub rev_lies : (x : Word) → lies_in (op.rev x) ≡ true
rev_lies x = lies (op.rev x) (reversed_below x.width x.value)

bit_lies : (b : Bool) (m n : ℕ) → m < 2 → n < 2 → InRange (word 1 (if b then m else n))
bit_lies true m n h k = h
bit_lies false m n h k = k

pub and_reduce_lies : (x : Word) → lies_in (op.and_reduce x) ≡ true
and_reduce_lies x = lies (op.and_reduce x) (bit_lies (x.value == 2 ^ x.width - 1) 1 0 (lit< tt) (lit< tt))

pub or_reduce_lies : (x : Word) → lies_in (op.or_reduce x) ≡ true
or_reduce_lies x = lies (op.or_reduce x) (bit_lies (x.value == 0) 0 1 (lit< tt) (lit< tt))

pub xor_reduce_lies : (x : Word) → lies_in (op.xor_reduce x) ≡ true
xor_reduce_lies x = lies (op.xor_reduce x) (mod_below (count_ones x.value) 2 (lit< tt))

-- ---- numbers

pub number_lies : (k : BitKind) (number : UntypedLiteral) (x : Word) → word_in_range k number ≡ Some x → lies_in x ≡ true
number_lies k number x e = by_test number.is_negative e
  where
    moved : (y : Word) → InRange y → Some y ≡ Some x → lies_in x ≡ true
    moved y h q = ap lies_in (sym (same_some y x q)) ∙ lies y h

    negative : (s : Bool) (w n : ℕ) → negative_word s w n ≡ Some x → lies_in x ≡ true
    negative s w zero q = moved (word w 0) (pow_pos w) q
    negative false w (suc n) q = none_some x q
    negative true w (suc n) q = by_range (nat_le (suc n) (2 ^ (w - 1))) q
      where
        by_range : (b : Bool) → (if b then Some (word w (2 ^ w - suc n)) else None) ≡ Some x → lies_in x ≡ true
        by_range true r = moved (word w (2 ^ w - suc n)) (without_below w n) r
        by_range false r = none_some x r

    positive : (s : Bool) (w n : ℕ) → positive_word s w n ≡ Some x → lies_in x ≡ true
    positive false w n q = by_range (nat_lt n (2 ^ w)) refl q
      where
        by_range : (b : Bool) → nat_lt n (2 ^ w) ≡ b → (if b then Some (word w n) else None) ≡ Some x → lies_in x ≡ true
        by_range true h r = ap lies_in (sym (same_some (word w n) x r)) ∙ h
        by_range false h r = none_some x r
    positive true w n q = by_range (nat_lt n (2 ^ (w - 1))) refl q
      where
        by_range : (b : Bool) → nat_lt n (2 ^ (w - 1)) ≡ b → (if b then Some (word w n) else None) ≡ Some x → lies_in x ≡ true
        by_range true h r = moved (word w n) (longer_below (w - 1) w n (omega arith) ((Decides-ltb n (2 ^ (w - 1))).0 h)) r
        by_range false h r = none_some x r

    by_test : (b : Bool) → (if b then negative_word k.signed k.width number.value else positive_word k.signed k.width number.value) ≡ Some x → lies_in x ≡ true
    by_test true h = negative k.signed k.width number.value h
    by_test false h = positive k.signed k.width number.value h

-- ---- what operators give

-- bits whose number lies in their width
abbrev pub MadeBits : DslxValue → Type 0
MadeBits r = (z : SignedWord) × (r ≡ value.Bits z.signed z.word) × InRange z.word

made_if : (b s : Bool) (w : Word) (r : DslxValue) → where_true b (Some (value.Bits s w)) ≡ Some r → (b ≡ true → InRange w) → MadeBits r
made_if true s w r e h = (record { signed = s; word = w }, sym (same_some (value.Bits s w) r e), h refl)
made_if false s w r e h = none_some r e

made_bool : (b : Bool) → MadeBits (bool_value b)
made_bool true = (record { signed = false; word = word 1 1 }, refl, lit< tt)
made_bool false = (record { signed = false; word = word 1 0 }, refl, lit< tt)

made_bool_if : (b c : Bool) (r : DslxValue) → where_true b (Some (bool_value c)) ≡ Some r → MadeBits r
made_bool_if true c r e = subst MadeBits (same_some (bool_value c) r e) (made_bool c)
made_bool_if false c r e = none_some r e

made_of_both : (p q : Option Bool) (f : Bool → Bool → Bool) (r : DslxValue) → with_both p q (λ a c. Some (bool_value (f a c))) ≡ Some r → MadeBits r
made_of_both None q f r e = none_some r e
made_of_both (Some a) None f r e = none_some r e
made_of_both (Some a) (Some c) f r e = subst MadeBits (same_some (bool_value (f a c)) r e) (made_bool (f a c))

-- two words of one type lie in one width
alike : (x y : SignedWord) → of_one_type x y ≡ true → InRange y.word → y.word.value < 2 ^ x.word.width
alike x y e h = subst (λ w. y.word.value < 2 ^ w) (sym ((Decides-eqb x.word.width y.word.width).0 (and_true (same_bool x.signed y.signed) (x.word.width == y.word.width) e).1)) h

bits_made : (o : Binary) (x y : SignedWord) (r : DslxValue) → InRange x.word → InRange y.word → bits_binary o x y ≡ Some r → MadeBits r
bits_made b.Mul x y r h k e = made_if (of_one_type x y) x.signed (op.mul x.word y.word) r e (λ t. mod_below _ (2 ^ x.word.width) (pow_pos x.word.width))
bits_made b.Div x y r h k e =
    made_if (of_one_type x y && not x.signed) false (op.udiv x.word y.word) r e
    (λ t. either_below (y.word.value == 0) _ _ _ (ones_below x.word.width) (part_below x.word.value y.word.value (2 ^ x.word.width) h))
bits_made b.Rem x y r h k e =
    made_if (of_one_type x y && not x.signed) false (op.umod x.word y.word) r e
    (λ t. either_below (y.word.value == 0) _ _ _ (pow_pos x.word.width) (rest_below x.word.value y.word.value (2 ^ x.word.width) h))
bits_made b.Add x y r h k e = made_if (of_one_type x y) x.signed (op.add x.word y.word) r e (λ t. add_in_range x.word y.word)
bits_made b.Sub x y r h k e = made_if (of_one_type x y) x.signed (op.sub x.word y.word) r e (λ t. mod_below _ (2 ^ x.word.width) (pow_pos x.word.width))
bits_made b.Concat x y r h k e =
    made_if (not x.signed && not y.signed) false (op.concat x.word y.word) r e (λ t. joined_below x.word.width y.word.width x.word.value y.word.value h k)
bits_made b.Shl x y r h k e = made_if (not y.signed) x.signed (op.shll x.word y.word) r e (λ t. mod_below _ (2 ^ x.word.width) (pow_pos x.word.width))
bits_made b.Shr x y r h k e = made_if (not y.signed) x.signed (if x.signed then op.shra x.word y.word else op.shrl x.word y.word) r e (λ t. by_sign x.signed)
  where
    by_sign : (s : Bool) → InRange (if s then op.shra x.word y.word else op.shrl x.word y.word)
    by_sign true = signed_below (nat_lt x.word.value (2 ^ (x.word.width - 1))) x.word.width x.word.value (min y.word.value x.word.width) (2 ^ x.word.width - suc x.word.value) h
    by_sign false = part_below x.word.value (2 ^ min y.word.value x.word.width) (2 ^ x.word.width) h
bits_made b.And x y r h k e = made_if (of_one_type x y) x.signed (op.and x.word y.word) r e (λ t. and_below x.word.value y.word.value (2 ^ x.word.width) h)
bits_made b.Xor x y r h k e = made_if (of_one_type x y) x.signed (op.xor x.word y.word) r e (λ t. xor_lt x.word.width x.word.value y.word.value h (alike x y t k))
bits_made b.Or x y r h k e = made_if (of_one_type x y) x.signed (op.or x.word y.word) r e (λ t. or_lt x.word.width x.word.value y.word.value h (alike x y t k))
bits_made b.Eq x y r h k e = made_bool_if (of_one_type x y) (is_equal (order_of x y)) r e
bits_made b.Ne x y r h k e = made_bool_if (of_one_type x y) (not (is_equal (order_of x y))) r e
bits_made b.Lt x y r h k e = made_bool_if (of_one_type x y) (is_less (order_of x y)) r e
bits_made b.Le x y r h k e = made_bool_if (of_one_type x y) (is_less (order_of x y) || is_equal (order_of x y)) r e
bits_made b.Gt x y r h k e = made_bool_if (of_one_type x y) (not (is_less (order_of x y) || is_equal (order_of x y))) r e
bits_made b.Ge x y r h k e = made_bool_if (of_one_type x y) (not (is_less (order_of x y))) r e
bits_made b.Both x y r h k e = made_of_both (truth_of x) (truth_of y) (λ a c. a && c) r e
bits_made b.Either x y r h k e = made_of_both (truth_of x) (truth_of y) (λ a c. a || c) r e

enums_made : (o : Binary) (v w r : DslxValue) → enum_binary o v w ≡ Some r → MadeBits r
enums_made b.Eq v w r e = subst MadeBits (same_some (bool_value (same_value v w)) r e) (made_bool (same_value v w))
enums_made b.Ne v w r e = subst MadeBits (same_some (bool_value (not (same_value v w))) r e) (made_bool (not (same_value v w)))
enums_made _ v w r e = none_some r e

-- the bits that a value is lie in their width
abbrev pub BitsLie : DslxValue → Type 0
BitsLie v = (x : SignedWord) → bits_of v ≡ Some x → InRange x.word

pub binary_made : (o : Binary) (v w r : DslxValue) → BitsLie v → BitsLie w → binary_value o v w ≡ Some r → MadeBits r
binary_made o v w r h k e = by_bits (bits_of v) (bits_of w) refl refl e
  where
    both : (p q : Option SignedWord) → with_both p q (λ x y. enum_binary o v w) ≡ Some r → MadeBits r
    both None q f = none_some r f
    both (Some x) None f = none_some r f
    both (Some x) (Some y) f = enums_made o v w r f

    by_bits : (p q : Option SignedWord) → bits_of v ≡ p → bits_of w ≡ q → bits_or_enums o v w p q ≡ Some r → MadeBits r
    by_bits (Some x) (Some y) ep eq f = bits_made o x y r (h x ep) (k y eq) f
    by_bits None None ep eq f = both (based_bits v) (based_bits w) f
    by_bits (Some x) None ep eq f = none_some r f
    by_bits None (Some y) ep eq f = none_some r f

prefixed : (o : Prefix) (x : Word) → InRange x → InRange (prefix_word o x)
prefixed Minus x h = mod_below (2 ^ x.width - x.value) (2 ^ x.width) (pow_pos x.width)
prefixed Not x h = not_in_range x

pub prefix_made : (o : Prefix) (v r : DslxValue) → BitsLie v → prefix_value o v ≡ Some r → MadeBits r
prefix_made o v r h e = by_bits (bits_of v) refl e
  where
    by_bits : (p : Option SignedWord) → bits_of v ≡ p → and_then p (λ x. Some (value.Bits x.signed (prefix_word o x.word))) ≡ Some r → MadeBits r
    by_bits None q f = none_some r f
    by_bits (Some x) q f = (record { signed = x.signed; word = prefix_word o x.word }, sym (same_some (value.Bits x.signed (prefix_word o x.word)) r f), prefixed o x.word (h x q))

-- the bits that a value or its base is
abbrev pub BaseLies : DslxValue → Type 0
BaseLies v = (x : SignedWord) → based_bits v ≡ Some x → InRange x.word

cast_in_range : (s : Bool) (w : ℕ) (x : Word) → InRange x → InRange (cast_word s w x)
cast_in_range s w x h = by_width (nat_le w x.width) refl
  where
    by_sign : (s : Bool) → x.width ≤ w → InRange (if s then op.sext x w else op.zext x w)
    by_sign true l = extended_below (nat_lt x.value (2 ^ (x.width - 1))) w x.value (2 ^ x.width - suc x.value) (longer_below x.width w x.value l h)
    by_sign false l = longer_below x.width w x.value l h

    by_width : (b : Bool) → nat_le w x.width ≡ b → InRange (if b then op.slice x 0 w else if s then op.sext x w else op.zext x w)
    by_width true q = mod_below _ (2 ^ w) (pow_pos w)
    by_width false q = by_sign s (wider q)
      where
        wider : nat_le w x.width ≡ false → x.width ≤ w
        wider q = let less : x.width < w = leb-false w x.width q in omega arith

pub cast_made : (t : DslxType) (v r : DslxValue) → BaseLies v → cast_value t v ≡ Some r → MadeBits r
cast_made t v r h e = by_bits (based_bits v) refl e
  where
    by_kind : (k : Option BitKind) (x : SignedWord) → InRange x.word → cast_to k x ≡ Some r → MadeBits r
    by_kind None x l f = none_some r f
    by_kind (Some kind) x l f =
        (record { signed = kind.signed; word = cast_word x.signed kind.width x.word }, sym (same_some (value.Bits kind.signed (cast_word x.signed kind.width x.word)) r f), cast_in_range x.signed kind.width x.word l)

    by_bits : (p : Option SignedWord) → based_bits v ≡ p → and_then p (cast_to (bits_in t)) ≡ Some r → MadeBits r
    by_bits None q f = none_some r f
    by_bits (Some x) q f = by_kind (bits_in t) x (h x q) f
