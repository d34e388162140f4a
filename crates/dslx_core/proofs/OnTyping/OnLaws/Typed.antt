-- What an operation gives for values of types that break none of its rules is a value of its type.
use Rattle.std.proofs.Common.{◌≡◌, ◌+◌, ◌==◌, ◌&&◌, ◌||◌, ◌++◌, ℕ, suc, length, Bool, true, false, not, if◌then◌else◌, List, [], ◌∷◌, map, Option, Some, None, refl, sym, ap, subst, ◌∙◌}
use mathlib.Core.Bool.{true≢false}
use Rattle.std.specs.Option.{option_map}
use Rattle.std.specs.Prelude.{nat_le}
use Rattle.std.proofs.lemmas.Bool.Decides.{Decides-eqb}
use Rattle.xb_bits.specs.Word.{Word, word}
use Rattle.xb_bits.specs.Operations as op
use Rattle.xb_span.specs.declared.span.Span.{Span}
use Rattle.dslx_tree.specs.declared.operator.Binary.{Binary}
use Rattle.dslx_tree.specs.declared.operator.Binary.TheVariants as b
use Rattle.dslx_tree.specs.declared.operator.Prefix.{Prefix}
use Rattle.dslx_tree.specs.declared.operator.Prefix.TheVariants.{Minus, Not}
use Rattle.dslx_meaning.specs.Lists.{and_then, with_both, where_true}
use Rattle.dslx_meaning.specs.Types.{same_bool, same_type, same_type_step, bits_are, enum_is, bits_in, bits_step, bits_or_enum_step, bool_type, unsigned}
use Rattle.dslx_meaning.specs.Values.{type_of_value, type_step, array_type, bits_of, signed_step, based_bits, based_step, bool_value, same_value}
use Rattle.dslx_meaning.specs.Operators as o
use Rattle.dslx_meaning.specs.declared.ty.BitKind.{BitKind}
use Rattle.dslx_meaning.specs.declared.ty.DslxType.{DslxType, out-DslxType}
use Rattle.dslx_meaning.specs.declared.ty.DslxType as ty
use Rattle.dslx_meaning.specs.declared.ty.DslxType.TheVariants as type_rolls
use Rattle.dslx_meaning.specs.declared.ty.DslxType.TheOpen.{DslxType-F}
use Rattle.dslx_meaning.specs.declared.ty.DslxType.TheViews as type_views
use Rattle.dslx_meaning.specs.declared.ty.DslxType.TheFolds.{fold-roll-DslxType, ind-DslxType, map-DslxType}
use Rattle.dslx_meaning.specs.declared.value.SignedWord.{SignedWord}
use Rattle.dslx_meaning.specs.declared.value.DslxValue.{DslxValue, Bits, Tuple, Array, Struct, Enum, Token, out-DslxValue}
use Rattle.dslx_meaning.specs.declared.value.DslxValue.TheVariants as rolls
use Rattle.dslx_meaning.specs.declared.value.DslxValue.TheOpen.{DslxValue-F}
use Rattle.dslx_meaning.specs.declared.value.DslxValue.TheViews as views
use Rattle.dslx_meaning.specs.declared.value.DslxValue.TheFolds.{fold-roll-DslxValue, ind-DslxValue, map-DslxValue}
use Rattle.dslx_meaning.specs.Rules.TypeEnvs.{breaks, breaks_if}
use Rattle.dslx_meaning.specs.Rules.ConstantRules.{is_unsigned, is_unsigned_kind}
use Rattle.dslx_meaning.specs.Rules.PatternRules.{is_there}
use Rattle.dslx_meaning.specs.Rules.OperatorRules.{is_bits, is_bits_or_enum, is_bool, one_bit_type, one_unsigned_type, one_comparable_type, width_of_type, binary_faults, binary_type}

-- ---- values and types by their kinds

value_cases : (P : DslxValue → Type 0) → ((s : Bool) (x : Word) → P (Bits s x)) → ((vs : List DslxValue) → P (Tuple vs)) → ((vs : List DslxValue) → P (Array vs))
    → ((name : List ℕ) (fields : List (List ℕ)) (vs : List DslxValue) → P (Struct name fields vs)) → ((name : List ℕ) (s : Bool) (x : Word) → P (Enum name s x)) → P Token → (v : DslxValue) → P v
value_cases P bits tuple array struct enum token = ind-DslxValue P (λ x y is. subst (λ z. P (views.roll-DslxValue z)) is (case y))
  where
    case : (y : DslxValue-F ((v : DslxValue) × P v)) → P (views.roll-DslxValue (map-DslxValue ((v : DslxValue) × P v) DslxValue (λ e. e.0) y))
    case (DslxValue-F.Bits s x) = subst P (sym (rolls.rolls-Bits s x)) (bits s x)
    case (DslxValue-F.Tuple es) = subst P (sym (rolls.rolls-Tuple (map (λ e. e.0) es))) (tuple (map (λ e. e.0) es))
    case (DslxValue-F.Array es) = subst P (sym (rolls.rolls-Array (map (λ e. e.0) es))) (array (map (λ e. e.0) es))
    case (DslxValue-F.Struct name fields es) = subst P (sym (rolls.rolls-Struct name fields (map (λ e. e.0) es))) (struct name fields (map (λ e. e.0) es))
    case (DslxValue-F.Enum name s x) = subst P (sym (rolls.rolls-Enum name s x)) (enum name s x)
    case DslxValue-F.Token = subst P (sym rolls.rolls-Token) token

type_cases : (P : DslxType → Type 0) → ((s : Bool) (w : ℕ) → P (ty.Bits s w)) → ((ts : List DslxType) → P (ty.Tuple ts)) → ((t : DslxType) (n : ℕ) → P (ty.Array t n))
    → ((name : List ℕ) (fields : List (List ℕ)) (ts : List DslxType) → P (ty.Struct name fields ts)) → ((name : List ℕ) (s : Bool) (w : ℕ) → P (ty.Enum name s w)) → P ty.Token → (t : DslxType) → P t
type_cases P bits tuple array struct enum token = ind-DslxType P (λ x y is. subst (λ z. P (type_views.roll-DslxType z)) is (case y))
  where
    case : (y : DslxType-F ((t : DslxType) × P t)) → P (type_views.roll-DslxType (map-DslxType ((t : DslxType) × P t) DslxType (λ e. e.0) y))
    case (DslxType-F.Bits s w) = subst P (sym (type_rolls.rolls-Bits s w)) (bits s w)
    case (DslxType-F.Tuple es) = subst P (sym (type_rolls.rolls-Tuple (map (λ e. e.0) es))) (tuple (map (λ e. e.0) es))
    case (DslxType-F.Array e n) = subst P (sym (type_rolls.rolls-Array e.0 n)) (array e.0 n)
    case (DslxType-F.Struct name fields es) = subst P (sym (type_rolls.rolls-Struct name fields (map (λ e. e.0) es))) (struct name fields (map (λ e. e.0) es))
    case (DslxType-F.Enum name s w) = subst P (sym (type_rolls.rolls-Enum name s w)) (enum name s w)
    case DslxType-F.Token = subst P (sym type_rolls.rolls-Token) token

-- the type of bits
pub bits_typed : (s : Bool) (x : Word) → type_of_value (Bits s x) ≡ ty.Bits s x.width
bits_typed s x = ap type_of_value (sym (rolls.rolls-Bits s x)) ∙ fold-roll-DslxValue DslxType type_step (DslxValue-F.Bits s x)

-- the level of the type of a value, by the level of the value
abbrev type_level : DslxValue-F DslxValue → DslxType-F DslxType
type_level (DslxValue-F.Bits s x) = DslxType-F.Bits s x.width
type_level (DslxValue-F.Tuple vs) = DslxType-F.Tuple (map type_of_value vs)
type_level (DslxValue-F.Array []) = DslxType-F.Tuple []
type_level (DslxValue-F.Array (v ∷ vs)) = out-DslxType (array_type (map type_of_value (v ∷ vs)))
type_level (DslxValue-F.Struct name fields vs) = DslxType-F.Struct name fields (map type_of_value vs)
type_level (DslxValue-F.Enum name s x) = DslxType-F.Enum name s x.width
type_level DslxValue-F.Token = DslxType-F.Token

array_level : (vs : List DslxValue) → out-DslxType (array_type (map type_of_value vs)) ≡ type_level (DslxValue-F.Array vs)
array_level [] = type_views.outs-Tuple []
array_level (v ∷ vs) = refl

level_typed : (v : DslxValue) → out-DslxType (type_of_value v) ≡ type_level (out-DslxValue v)
level_typed = value_cases (λ v. out-DslxType (type_of_value v) ≡ type_level (out-DslxValue v))
    (λ s x. ap out-DslxType (bits_typed s x) ∙ type_views.outs-Bits s x.width ∙ sym (ap type_level (views.outs-Bits s x)))
    (λ vs. ap out-DslxType (ap type_of_value (sym (rolls.rolls-Tuple vs)) ∙ fold-roll-DslxValue DslxType type_step (DslxValue-F.Tuple vs))
    ∙ type_views.outs-Tuple (map type_of_value vs) ∙ sym (ap type_level (views.outs-Tuple vs)))
    (λ vs. ap out-DslxType (ap type_of_value (sym (rolls.rolls-Array vs)) ∙ fold-roll-DslxValue DslxType type_step (DslxValue-F.Array vs))
    ∙ array_level vs ∙ sym (ap type_level (views.outs-Array vs)))
    (λ name fields vs. ap out-DslxType (ap type_of_value (sym (rolls.rolls-Struct name fields vs)) ∙ fold-roll-DslxValue DslxType type_step (DslxValue-F.Struct name fields vs))
    ∙ type_views.outs-Struct name fields (map type_of_value vs) ∙ sym (ap type_level (views.outs-Struct name fields vs)))
    (λ name s x. ap out-DslxType (ap type_of_value (sym (rolls.rolls-Enum name s x)) ∙ fold-roll-DslxValue DslxType type_step (DslxValue-F.Enum name s x))
    ∙ type_views.outs-Enum name s x.width ∙ sym (ap type_level (views.outs-Enum name s x)))
    (ap out-DslxType (ap type_of_value (sym rolls.rolls-Token) ∙ fold-roll-DslxValue DslxType type_step DslxValue-F.Token)
    ∙ type_views.outs-Token ∙ sym (ap type_level views.outs-Token))

bits_type_is : (s : Bool) (w : ℕ) (u : DslxType) → same_type (ty.Bits s w) u ≡ bits_are s w (out-DslxType u)
bits_type_is s w u = ap (λ f. f u) (ap same_type (sym (type_rolls.rolls-Bits s w)) ∙ fold-roll-DslxType (DslxType → Bool) same_type_step (DslxType-F.Bits s w))

enum_type_is : (name : List ℕ) (s : Bool) (w : ℕ) (u : DslxType) → same_type (ty.Enum name s w) u ≡ enum_is name (out-DslxType u)
enum_type_is name s w u = ap (λ f. f u) (ap same_type (sym (type_rolls.rolls-Enum name s w)) ∙ fold-roll-DslxType (DslxType → Bool) same_type_step (DslxType-F.Enum name s w))

-- ---- tests

pub and_true : (p q : Bool) → (p && q) ≡ true → (p ≡ true) × (q ≡ true)
and_true true q e = (refl, e)
and_true false q e = absurd (true≢false (sym e))

no_list : {X : Type 0} (x : X) (xs : List X) → (x ∷ xs) ≡ [] → ⊥
no_list x xs e = cc

pub unbroken : (p : Bool) (rule : ℕ) (span : Span) → breaks_if (not p) rule span ≡ [] → p ≡ true
unbroken true rule span e = refl
unbroken false rule span e = absurd (no_list (breaks rule span) [] e)

pub both_unbroken : (p q : Bool) (rule : ℕ) (l r : Span) → (breaks_if (not p) rule l ++ breaks_if (not q) rule r) ≡ [] → (p ≡ true) × (q ≡ true)
both_unbroken true true rule l r e = (refl, refl)
both_unbroken true false rule l r e = absurd (no_list (breaks rule r) [] e)
both_unbroken false q rule l r e = absurd (no_list (breaks rule l) (breaks_if (not q) rule r) e)

-- ---- bits

-- a value that is these bits
abbrev pub AreBits : DslxValue → SignedWord → Type 0
AreBits v x = (bits_of v ≡ Some x) × (type_of_value v ≡ ty.Bits x.signed x.word.width)

-- a level of a value, as bits of this sign and width
level_bits : (s : Bool) (w : ℕ) (l : DslxValue-F DslxValue) → bits_are s w (type_level l) ≡ true
    → (x : SignedWord) × (signed_step l ≡ Some x) × ((same_bool s x.signed && w == x.word.width) ≡ true)
level_bits s w (DslxValue-F.Bits s' x) e = (record { signed = s'; word = x }, refl, e)
level_bits s w (DslxValue-F.Tuple vs) e = absurd (true≢false (sym e))
level_bits s w (DslxValue-F.Array []) e = absurd (true≢false (sym e))
level_bits s w (DslxValue-F.Array (v ∷ vs)) e = absurd (true≢false (sym e ∙ ap (bits_are s w) (type_views.outs-Array (type_of_value v) (suc (length (map type_of_value vs))))))
level_bits s w (DslxValue-F.Struct name fields vs) e = absurd (true≢false (sym e))
level_bits s w (DslxValue-F.Enum name s' x) e = absurd (true≢false (sym e))
level_bits s w DslxValue-F.Token e = absurd (true≢false (sym e))

-- what is of the type of bits is bits
like_bits : (s : Bool) (w : ℕ) (v : DslxValue) → same_type (ty.Bits s w) (type_of_value v) ≡ true
    → (x : SignedWord) × (bits_of v ≡ Some x) × ((same_bool s x.signed && w == x.word.width) ≡ true)
like_bits s w v e = level_bits s w (out-DslxValue v) (sym (ap (bits_are s w) (level_typed v)) ∙ sym (bits_type_is s w (type_of_value v)) ∙ e)

pub is_bits_value : (v : DslxValue) → is_bits (type_of_value v) ≡ true → (x : SignedWord) × AreBits v x
is_bits_value = value_cases (λ v. is_bits (type_of_value v) ≡ true → (x : SignedWord) × AreBits v x)
    (λ s x e. (record { signed = s; word = x }, (ap signed_step (views.outs-Bits s x), bits_typed s x)))
    (λ vs e. absurd (true≢false (sym e ∙ other (Tuple vs) (DslxValue-F.Tuple vs) (views.outs-Tuple vs) refl)))
    (λ vs e. absurd (true≢false (sym e ∙ array vs)))
    (λ name fields vs e. absurd (true≢false (sym e ∙ other (Struct name fields vs) (DslxValue-F.Struct name fields vs) (views.outs-Struct name fields vs) refl)))
    (λ name s x e. absurd (true≢false (sym e ∙ other (Enum name s x) (DslxValue-F.Enum name s x) (views.outs-Enum name s x) refl)))
    (λ e. absurd (true≢false (sym e ∙ other Token DslxValue-F.Token views.outs-Token refl)))
  where
    other : (v : DslxValue) (l : DslxValue-F DslxValue) → out-DslxValue v ≡ l → bits_step (type_level l) ≡ None → is_bits (type_of_value v) ≡ false
    other v l e h = ap (λ k. is_there (bits_step k)) (level_typed v ∙ ap type_level e) ∙ ap is_there h

    array : (vs : List DslxValue) → is_bits (type_of_value (Array vs)) ≡ false
    array [] = other (Array []) (DslxValue-F.Array []) (views.outs-Array []) refl
    array (v ∷ vs) = other (Array (v ∷ vs)) (DslxValue-F.Array (v ∷ vs)) (views.outs-Array (v ∷ vs)) (ap bits_step (type_views.outs-Array (type_of_value v) (suc (length (map type_of_value vs)))))

-- two values of one bit type
abbrev OneKind : DslxValue → DslxValue → Type 0
OneKind v w = (x : SignedWord) × (y : SignedWord) × AreBits v x × (bits_of w ≡ Some y) × (o.of_one_type x y ≡ true)

one_kind : (v w : DslxValue) → is_bits (type_of_value v) ≡ true → same_type (type_of_value v) (type_of_value w) ≡ true → OneKind v w
one_kind v w p q =
    let x = is_bits_value v p in
    let y = like_bits x.0.signed x.0.word.width w (sym (ap (λ t. same_type t (type_of_value w)) x.1.1) ∙ q) in
    (x.0, y.0, x.1, y.1, y.2)

-- the sign of bits that are unsigned
pub is_unsigned_value : (v : DslxValue) → is_unsigned (type_of_value v) ≡ true → (x : SignedWord) × AreBits v x × (x.signed ≡ false)
is_unsigned_value v e = by_kind (bits_in (type_of_value v)) refl e
  where
    sign : (s : Bool) → not s ≡ true → s ≡ false
    sign true e = absurd (true≢false (sym e))
    sign false e = refl

    by_kind : (k : Option BitKind) → bits_in (type_of_value v) ≡ k → is_unsigned_kind k ≡ true → (x : SignedWord) × AreBits v x × (x.signed ≡ false)
    by_kind None q e = absurd (true≢false (sym e))
    by_kind (Some k) q e =
        let x = is_bits_value v (ap is_there q) in
        let same = sym (ap bits_step (type_views.outs-Bits x.0.signed x.0.word.width)) ∙ sym (ap bits_in x.1.1) ∙ q in
        (x.0, x.1, sign x.0.signed (ap is_unsigned_kind same ∙ e))

-- ---- what bits give

pub some_typed : (s : Bool) (x : Word) (u : Option DslxValue) → u ≡ Some (Bits s x) → option_map type_of_value u ≡ Some (ty.Bits s x.width)
some_typed s x u e = ap (option_map type_of_value) e ∙ ap Some (bits_typed s x)

bool_typed : (t : Bool) → type_of_value (bool_value t) ≡ bool_type
bool_typed true = bits_typed false (word 1 1)
bool_typed false = bits_typed false (word 1 0)

of_bits : (p : Binary) (v w : DslxValue) (x y : SignedWord) → bits_of v ≡ Some x → bits_of w ≡ Some y → o.binary_value p v w ≡ o.bits_binary p x y
of_bits p v w x y e f = λ i. o.bits_or_enums p v w (e i) (f i)

-- an operation on two words of one kind that keeps their width
arithmetic_typed : (p : Binary) (f : Word → Word → Word) (v w : DslxValue) → is_bits (type_of_value v) ≡ true → same_type (type_of_value v) (type_of_value w) ≡ true
    → ((x y : SignedWord) → o.of_one_type x y ≡ true → o.bits_binary p x y ≡ Some (Bits x.signed (f x.word y.word))) → ((x y : Word) → (f x y).width ≡ x.width)
    → option_map type_of_value (o.binary_value p v w) ≡ Some (type_of_value v)
arithmetic_typed p f v w a e gives wide =
    let k = one_kind v w a e in
    some_typed k.0.signed (f k.0.word k.1.word) (o.binary_value p v w) (of_bits p v w k.0 k.1 k.2.0 k.3 ∙ gives k.0 k.1 k.4)
    ∙ ap (λ n. Some (ty.Bits k.0.signed n)) (wide k.0.word k.1.word) ∙ ap Some (sym k.2.1)

where_one : (x y : SignedWord) (r : Option DslxValue) → o.of_one_type x y ≡ true → where_true (o.of_one_type x y) r ≡ r
where_one x y r e = ap (λ t. where_true t r) e

-- a comparison of two words of one kind
comparison_typed : (p : Binary) (v w : DslxValue) → is_bits (type_of_value v) ≡ true → same_type (type_of_value v) (type_of_value w) ≡ true
    → ((x y : SignedWord) → o.of_one_type x y ≡ true → (t : Bool) × (o.bits_binary p x y ≡ Some (bool_value t))) → option_map type_of_value (o.binary_value p v w) ≡ Some bool_type
comparison_typed p v w a e gives =
    let k = one_kind v w a e in
    let t = gives k.0 k.1 k.4 in
    ap (option_map type_of_value) (of_bits p v w k.0 k.1 k.2.0 k.3 ∙ t.1) ∙ ap Some (bool_typed t.0)

-- the truth of a bool
truth_there : (v : DslxValue) → is_bool (type_of_value v) ≡ true → (x : SignedWord) × (bits_of v ≡ Some x) × (t : Bool) × (o.truth_of x ≡ Some t)
truth_there v e =
    let x = like_bits false 1 v e in
    let q = and_true (not x.0.signed) (1 == x.0.word.width) x.2 in
    let one = ap (λ k. k == 1) (sym ((Decides-eqb 1 x.0.word.width).0 q.1)) in
    (x.0, x.1, (x.0.word.value == 1), λ i. where_true (q.0 i && one i) (Some (x.0.word.value == 1)))

both_typed : (p : Binary) (v w : DslxValue) → is_bool (type_of_value v) ≡ true → is_bool (type_of_value w) ≡ true
    → ((x y : SignedWord) (s t : Bool) → o.truth_of x ≡ Some s → o.truth_of y ≡ Some t → (r : Bool) × (o.bits_binary p x y ≡ Some (bool_value r))) → option_map type_of_value (o.binary_value p v w) ≡ Some bool_type
both_typed p v w a e gives =
    let x = truth_there v a in
    let y = truth_there w e in
    let r = gives x.0 y.0 x.2 y.2 x.3 y.3 in
    ap (option_map type_of_value) (of_bits p v w x.0 y.0 x.1 y.1 ∙ r.1) ∙ ap Some (bool_typed r.0)

-- ---- enums

-- a level of a value, as a value of the enum of this name
level_enum : (name : List ℕ) (l : DslxValue-F DslxValue) → enum_is name (type_level l) ≡ true → (x : SignedWord) × (based_step l ≡ Some x) × (signed_step l ≡ None)
level_enum name (DslxValue-F.Enum name' s x) e = (record { signed = s; word = x }, refl, refl)
level_enum name (DslxValue-F.Bits s x) e = absurd (true≢false (sym e))
level_enum name (DslxValue-F.Tuple vs) e = absurd (true≢false (sym e))
level_enum name (DslxValue-F.Array []) e = absurd (true≢false (sym e))
level_enum name (DslxValue-F.Array (v ∷ vs)) e = absurd (true≢false (sym e ∙ ap (enum_is name) (type_views.outs-Array (type_of_value v) (suc (length (map type_of_value vs))))))
level_enum name (DslxValue-F.Struct name' fields vs) e = absurd (true≢false (sym e))
level_enum name DslxValue-F.Token e = absurd (true≢false (sym e))

-- a level of a type that is bits or an enum
level_based : (l : DslxValue-F DslxValue) → is_there (bits_or_enum_step (type_level l)) ≡ true → (x : SignedWord) × (based_step l ≡ Some x)
level_based (DslxValue-F.Bits s x) e = (record { signed = s; word = x }, refl)
level_based (DslxValue-F.Enum name s x) e = (record { signed = s; word = x }, refl)
level_based (DslxValue-F.Tuple vs) e = absurd (true≢false (sym e))
level_based (DslxValue-F.Array []) e = absurd (true≢false (sym e))
level_based (DslxValue-F.Array (v ∷ vs)) e = absurd (true≢false (sym e ∙ ap (λ t. is_there (bits_or_enum_step t)) (type_views.outs-Array (type_of_value v) (suc (length (map type_of_value vs))))))
level_based (DslxValue-F.Struct name fields vs) e = absurd (true≢false (sym e))
level_based DslxValue-F.Token e = absurd (true≢false (sym e))

based_value : (v : DslxValue) → is_bits_or_enum (type_of_value v) ≡ true → (x : SignedWord) × (based_bits v ≡ Some x)
based_value v e = level_based (out-DslxValue v) (sym (ap (λ t. is_there (bits_or_enum_step t)) (level_typed v)) ∙ e)

-- equality of values of one enum
enums_typed : (p : Binary) (r : DslxValue → DslxValue → Bool) → ((v w : DslxValue) → o.enum_binary p v w ≡ Some (bool_value (r v w))) → (name : List ℕ) (s : Bool) (x : Word) (w : DslxValue)
    → same_type (type_of_value (Enum name s x)) (type_of_value w) ≡ true → option_map type_of_value (o.binary_value p (Enum name s x) w) ≡ Some bool_type
enums_typed p r gives name s x w e =
    let own = ap type_of_value (sym (rolls.rolls-Enum name s x)) ∙ fold-roll-DslxValue DslxType type_step (DslxValue-F.Enum name s x) in
    let y = level_enum name (out-DslxValue w) (sym (ap (enum_is name) (level_typed w)) ∙ sym (enum_type_is name s x.width (type_of_value w)) ∙ sym (ap (λ t. same_type t (type_of_value w)) own) ∙ e) in
    ap (option_map type_of_value)
    ((λ i. o.bits_or_enums p (Enum name s x) w (signed_step (views.outs-Enum name s x i)) (y.2 i))
    ∙ (λ i. with_both (based_step (views.outs-Enum name s x i)) (y.1 i) (λ a c. o.enum_binary p (Enum name s x) w))
    ∙ gives (Enum name s x) w) ∙ ap Some (bool_typed (r (Enum name s x) w))

equality_typed : (p : Binary) (r : DslxValue → DslxValue → Bool) → ((v w : DslxValue) → o.enum_binary p v w ≡ Some (bool_value (r v w)))
    → ((x y : SignedWord) → o.of_one_type x y ≡ true → (t : Bool) × (o.bits_binary p x y ≡ Some (bool_value t)))
    → (v w : DslxValue) → is_bits_or_enum (type_of_value v) ≡ true → same_type (type_of_value v) (type_of_value w) ≡ true → option_map type_of_value (o.binary_value p v w) ≡ Some bool_type
equality_typed p r enums gives = value_cases Claim
    (λ s x w a e. comparison_typed p (Bits s x) w (ap is_bits (bits_typed s x) ∙ ap (λ t. is_there (bits_step t)) (type_views.outs-Bits s x.width)) e gives)
    (λ vs w a e. none (Tuple vs) (DslxValue-F.Tuple vs) (views.outs-Tuple vs) a refl)
    (λ vs w a e. absurd (array vs a))
    (λ name fields vs w a e. none (Struct name fields vs) (DslxValue-F.Struct name fields vs) (views.outs-Struct name fields vs) a refl)
    (λ name s x w a e. enums_typed p r enums name s x w e)
    (λ w a e. none Token DslxValue-F.Token views.outs-Token a refl)
  where
    Claim : DslxValue → Type 0
    Claim v = (w : DslxValue) → is_bits_or_enum (type_of_value v) ≡ true → same_type (type_of_value v) (type_of_value w) ≡ true → option_map type_of_value (o.binary_value p v w) ≡ Some bool_type

    none : {X : Type 0} (v : DslxValue) (l : DslxValue-F DslxValue) → out-DslxValue v ≡ l → is_bits_or_enum (type_of_value v) ≡ true → is_there (bits_or_enum_step (type_level l)) ≡ false → X
    none v l e a h = absurd (true≢false (sym a ∙ ap (λ t. is_there (bits_or_enum_step t)) (level_typed v ∙ ap type_level e) ∙ h))

    array : (vs : List DslxValue) → is_bits_or_enum (type_of_value (Array vs)) ≡ true → ⊥
    array [] a = none (Array []) (DslxValue-F.Array []) (views.outs-Array []) a refl
    array (v ∷ vs) a = none (Array (v ∷ vs)) (DslxValue-F.Array (v ∷ vs)) (views.outs-Array (v ∷ vs)) a
        (ap (λ t. is_there (bits_or_enum_step t)) (type_views.outs-Array (type_of_value v) (suc (length (map type_of_value vs)))))

-- ---- each operator

kinds : (v w : DslxValue) (rule : ℕ) (span : Span) → breaks_if (not (one_bit_type (type_of_value v) (type_of_value w))) rule span ≡ []
    → (is_bits (type_of_value v) ≡ true) × (same_type (type_of_value v) (type_of_value w) ≡ true)
kinds v w rule span e = and_true (is_bits (type_of_value v)) (same_type (type_of_value v) (type_of_value w)) (unbroken (one_bit_type (type_of_value v) (type_of_value w)) rule span e)

-- divisions, of unsigned words
division_typed : (p : Binary) (f : Word → Word → Word) (v w : DslxValue) (span : Span) → breaks_if (not (one_unsigned_type (type_of_value v) (type_of_value w))) 13 span ≡ []
    → ((x y : SignedWord) → o.bits_binary p x y ≡ where_true (o.of_one_type x y && not x.signed) (Some (Bits false (f x.word y.word)))) → ((x y : Word) → (f x y).width ≡ x.width)
    → option_map type_of_value (o.binary_value p v w) ≡ Some (type_of_value v)
division_typed p f v w span e gives wide =
    let q = and_true (is_unsigned (type_of_value v)) (same_type (type_of_value v) (type_of_value w)) (unbroken (one_unsigned_type (type_of_value v) (type_of_value w)) 13 span e) in
    let x = is_unsigned_value v q.0 in
    let y = like_bits x.0.signed x.0.word.width w (sym (ap (λ t. same_type t (type_of_value w)) x.1.1) ∙ q.1) in
    some_typed false (f x.0.word y.0.word) (o.binary_value p v w)
    (of_bits p v w x.0 y.0 x.1.0 y.1 ∙ gives x.0 y.0 ∙ (λ i. where_true (y.2 i && not (x.2 i)) (Some (Bits false (f x.0.word y.0.word)))))
    ∙ (λ i. Some (ty.Bits (sym x.2 i) (wide x.0.word y.0.word i))) ∙ ap Some (sym x.1.1)

shifted : (s : Bool) (x k : Word) → (if s then op.shra x k else op.shrl x k).width ≡ x.width
shifted true x k = refl
shifted false x k = refl

shift_typed : (p : Binary) (v w : DslxValue) (l r : Span) → (breaks_if (not (is_bits (type_of_value v))) 16 l ++ breaks_if (not (is_unsigned (type_of_value w))) 16 r) ≡ []
    → ((x k : SignedWord) → (z : Word) × (o.bits_binary p x k ≡ where_true (not k.signed) (Some (Bits x.signed z))) × (z.width ≡ x.word.width))
    → option_map type_of_value (o.binary_value p v w) ≡ Some (type_of_value v)
shift_typed p v w l r e gives =
    let q = both_unbroken (is_bits (type_of_value v)) (is_unsigned (type_of_value w)) 16 l r e in
    let x = is_bits_value v q.0 in
    let k = is_unsigned_value w q.1 in
    let z = gives x.0 k.0 in
    some_typed x.0.signed z.0 (o.binary_value p v w)
    (of_bits p v w x.0 k.0 x.1.0 k.1.0 ∙ z.1 ∙ ap (λ s. where_true (not s) (Some (Bits x.0.signed z.0))) k.2)
    ∙ ap (λ n. Some (ty.Bits x.0.signed n)) z.2 ∙ ap Some (sym x.1.1)

width_there : (s : Bool) (n : ℕ) (t : DslxType) → t ≡ ty.Bits s n → width_of_type t ≡ n
width_there s n t e = subst (λ u. width_of_type u ≡ n) (sym e) (rw (type_views.outs-Bits s n) refl)

joined_typed : (v w : DslxValue) (l r : Span) → (breaks_if (not (is_unsigned (type_of_value v))) 17 l ++ breaks_if (not (is_unsigned (type_of_value w))) 17 r) ≡ []
    → option_map type_of_value (o.binary_value b.Concat v w) ≡ Some (unsigned (width_of_type (type_of_value v) + width_of_type (type_of_value w)))
joined_typed v w l r e =
    let q = both_unbroken (is_unsigned (type_of_value v)) (is_unsigned (type_of_value w)) 17 l r e in
    let x = is_unsigned_value v q.0 in
    let y = is_unsigned_value w q.1 in
    some_typed false (op.concat x.0.word y.0.word) (o.binary_value b.Concat v w)
    (of_bits b.Concat v w x.0 y.0 x.1.0 y.1.0 ∙ (λ i. where_true (not (x.2 i) && not (y.2 i)) (Some (Bits false (op.concat x.0.word y.0.word)))))
    ∙ (λ i. Some (unsigned (sym (width_there x.0.signed x.0.word.width (type_of_value v) x.1.1) i + sym (width_there y.0.signed y.0.word.width (type_of_value w) y.1.1) i)))

pub binary_typed : (p : Binary) (span left right : Span) (v w : DslxValue) → binary_faults p span left (Some (type_of_value v)) right (Some (type_of_value w)) ≡ []
    → option_map type_of_value (o.binary_value p v w) ≡ binary_type p (Some (type_of_value v)) (Some (type_of_value w))
binary_typed b.Mul span l r v w e = let q = kinds v w 12 span e in arithmetic_typed b.Mul op.mul v w q.0 q.1 (λ x y h. where_one x y (Some (Bits x.signed (op.mul x.word y.word))) h) (λ x y. refl)
binary_typed b.Add span l r v w e = let q = kinds v w 12 span e in arithmetic_typed b.Add op.add v w q.0 q.1 (λ x y h. where_one x y (Some (Bits x.signed (op.add x.word y.word))) h) (λ x y. refl)
binary_typed b.Sub span l r v w e = let q = kinds v w 12 span e in arithmetic_typed b.Sub op.sub v w q.0 q.1 (λ x y h. where_one x y (Some (Bits x.signed (op.sub x.word y.word))) h) (λ x y. refl)
binary_typed b.And span l r v w e = let q = kinds v w 12 span e in arithmetic_typed b.And op.and v w q.0 q.1 (λ x y h. where_one x y (Some (Bits x.signed (op.and x.word y.word))) h) (λ x y. refl)
binary_typed b.Xor span l r v w e = let q = kinds v w 12 span e in arithmetic_typed b.Xor op.xor v w q.0 q.1 (λ x y h. where_one x y (Some (Bits x.signed (op.xor x.word y.word))) h) (λ x y. refl)
binary_typed b.Or span l r v w e = let q = kinds v w 12 span e in arithmetic_typed b.Or op.or v w q.0 q.1 (λ x y h. where_one x y (Some (Bits x.signed (op.or x.word y.word))) h) (λ x y. refl)
binary_typed b.Div span l r v w e = division_typed b.Div op.udiv v w span e (λ x y. refl) (λ x y. refl)
binary_typed b.Rem span l r v w e = division_typed b.Rem op.umod v w span e (λ x y. refl) (λ x y. refl)
binary_typed b.Lt span l r v w e = let q = kinds v w 14 span e in comparison_typed b.Lt v w q.0 q.1 (λ x y h. (o.is_less (o.order_of x y), where_one x y _ h))
binary_typed b.Le span l r v w e = let q = kinds v w 14 span e in comparison_typed b.Le v w q.0 q.1 (λ x y h. (o.is_less (o.order_of x y) || o.is_equal (o.order_of x y), where_one x y _ h))
binary_typed b.Gt span l r v w e = let q = kinds v w 14 span e in comparison_typed b.Gt v w q.0 q.1 (λ x y h. (not (o.is_less (o.order_of x y) || o.is_equal (o.order_of x y)), where_one x y _ h))
binary_typed b.Ge span l r v w e = let q = kinds v w 14 span e in comparison_typed b.Ge v w q.0 q.1 (λ x y h. (not (o.is_less (o.order_of x y)), where_one x y _ h))
binary_typed b.Eq span l r v w e =
    let q = and_true (is_bits_or_enum (type_of_value v)) (same_type (type_of_value v) (type_of_value w)) (unbroken (one_comparable_type (type_of_value v) (type_of_value w)) 14 span e) in
    equality_typed b.Eq same_value (λ a c. refl) (λ x y h. (o.is_equal (o.order_of x y), where_one x y _ h)) v w q.0 q.1
binary_typed b.Ne span l r v w e =
    let q = and_true (is_bits_or_enum (type_of_value v)) (same_type (type_of_value v) (type_of_value w)) (unbroken (one_comparable_type (type_of_value v) (type_of_value w)) 14 span e) in
    equality_typed b.Ne (λ a c. not (same_value a c)) (λ a c. refl) (λ x y h. (not (o.is_equal (o.order_of x y)), where_one x y _ h)) v w q.0 q.1
binary_typed b.Both span l r v w e =
    let q = both_unbroken (is_bool (type_of_value v)) (is_bool (type_of_value w)) 15 l r e in
    both_typed b.Both v w q.0 q.1 (λ x y s t f g. (s && t, λ i. with_both (f i) (g i) (λ a c. Some (bool_value (a && c)))))
binary_typed b.Either span l r v w e =
    let q = both_unbroken (is_bool (type_of_value v)) (is_bool (type_of_value w)) 15 l r e in
    both_typed b.Either v w q.0 q.1 (λ x y s t f g. (s || t, λ i. with_both (f i) (g i) (λ a c. Some (bool_value (a || c)))))
binary_typed b.Shl span l r v w e = shift_typed b.Shl v w l r e (λ x k. (op.shll x.word k.word, refl, refl))
binary_typed b.Shr span l r v w e = shift_typed b.Shr v w l r e (λ x k. ((if x.signed then op.shra x.word k.word else op.shrl x.word k.word), refl, shifted x.signed x.word k.word))
binary_typed b.Concat span l r v w e = joined_typed v w l r e

pub prefix_typed : (p : Prefix) (v : DslxValue) → is_bits (type_of_value v) ≡ true → option_map type_of_value (o.prefix_value p v) ≡ Some (type_of_value v)
prefix_typed p v e =
    let x = is_bits_value v e in
    some_typed x.0.signed (o.prefix_word p x.0.word) (o.prefix_value p v) (ap (λ k. and_then k (λ x. Some (Bits x.signed (o.prefix_word p x.word)))) x.1.0)
    ∙ ap (λ n. Some (ty.Bits x.0.signed n)) (wide p x.0.word) ∙ ap Some (sym x.1.1)
  where
    wide : (p : Prefix) (x : Word) → (o.prefix_word p x).width ≡ x.width
    wide Minus x = refl
    wide Not x = refl

-- a type that is bits
pub is_bits_type : (t : DslxType) → is_bits t ≡ true → (k : BitKind) × (t ≡ ty.Bits k.signed k.width) × (bits_in t ≡ Some k)
is_bits_type = type_cases (λ t. is_bits t ≡ true → (k : BitKind) × (t ≡ ty.Bits k.signed k.width) × (bits_in t ≡ Some k))
    (λ s w e. (record { signed = s; width = w }, refl, ap bits_step (type_views.outs-Bits s w)))
    (λ ts e. absurd (true≢false (sym e ∙ ap (λ l. is_there (bits_step l)) (type_views.outs-Tuple ts))))
    (λ t n e. absurd (true≢false (sym e ∙ ap (λ l. is_there (bits_step l)) (type_views.outs-Array t n))))
    (λ name fields ts e. absurd (true≢false (sym e ∙ ap (λ l. is_there (bits_step l)) (type_views.outs-Struct name fields ts))))
    (λ name s w e. absurd (true≢false (sym e ∙ ap (λ l. is_there (bits_step l)) (type_views.outs-Enum name s w))))
    (λ e. absurd (true≢false (sym e ∙ ap (λ l. is_there (bits_step l)) type_views.outs-Token)))

cast_width : (s : Bool) (w : ℕ) (x : Word) → (o.cast_word s w x).width ≡ w
cast_width s w x = by_size (nat_le w x.width)
  where
    by_sign : (t : Bool) → (if t then op.sext x w else op.zext x w).width ≡ w
    by_sign true = refl
    by_sign false = refl

    by_size : (t : Bool) → (if t then op.slice x 0 w else if s then op.sext x w else op.zext x w).width ≡ w
    by_size true = refl
    by_size false = by_sign s

pub cast_typed : (t : DslxType) (v : DslxValue) → is_bits t ≡ true → is_bits_or_enum (type_of_value v) ≡ true → option_map type_of_value (o.cast_value t v) ≡ Some t
cast_typed t v a e =
    let k = is_bits_type t a in
    let x = based_value v e in
    some_typed k.0.signed (o.cast_word x.0.signed k.0.width x.0.word) (o.cast_value t v) (λ i. and_then (x.1 i) (o.cast_to (k.2 i)))
    ∙ ap (λ n. Some (ty.Bits k.0.signed n)) (cast_width x.0.signed k.0.width x.0.word) ∙ ap Some (sym k.1)
