-- A value of a sound type has this type where it stands as a literal.
use Rattle.std.proofs.Common.{◌≡◌, ◌&&◌, ◌<◌, ℕ, zero, suc, true, not, List, [], ◌∷◌, map, length, Option, Some, refl, sym, ap, ◌∙◌, arith}
use mathlib.Core.Bool.{true≢false}
use Rattle.std.specs.Prelude.{nat_lt}
use Rattle.std.specs.List.{list_all}
use Rattle.std.proofs.lemmas.Bool.Decides.{nat_tests}
use Rattle.xb_bits.specs.Word.{Word}
use Rattle.xb_value.specs.declared.ty.Ty.{Ty}
use Rattle.xb_value.specs.declared.ty.Ty as plain
use Rattle.xb_value.specs.declared.value.Value.{Value}
use Rattle.xb_value.specs.declared.value.Value as plain_value_of
use Rattle.xb_value.proofs.Lemmas.Types.{EachHas}
use Rattle.xb_value.proofs.Lemmas.Values as values
use Rattle.dslx_meaning.specs.Lists.{all_some, and_then}
use Rattle.dslx_meaning.specs.Types.{plain_type}
use Rattle.dslx_meaning.specs.Values.{forget_step, plain_value, type_of_value}
use Rattle.dslx_meaning.specs.declared.ty.DslxType.{DslxType}
use Rattle.dslx_meaning.specs.declared.value.DslxValue.{DslxValue, out-DslxValue}
use Rattle.dslx_meaning.specs.declared.value.DslxValue.TheOpen.{DslxValue-F}
use Rattle.dslx_meaning.specs.declared.value.DslxValue.TheViews as views
use Rattle.dslx_meaning.specs.declared.value.DslxValue.TheFolds.{fold-roll-DslxValue, map-DslxValue}
use Rattle.dslx_meaning.specs.Rules.ConstantRules.{is_zero}
use Rattle.dslx_core.proofs.Lemmas.Typing.Laws.{and_true}
use Rattle.dslx_core.proofs.Lemmas.Typing.Typed.{all_are, is_array_of, is_bits_of, is_enum_of, is_struct_of, is_token_of, is_tuple_of, type_induction}
use Rattle.dslx_core.specs.CoreValues.{is_width}
use Rattle.dslx_core.specs.Typing.Typed.Kinds.{each_of, is_of, lies_in}
use Rattle.dslx_core.specs.Types.Typing.{all_alike, elements_alike, if_alike, is_sound_word, value_type, value_type_step}
use Rattle.dslx_core.proofs.Lemmas.Types.{alike_itself, where_so}
use Rattle.dslx_total.specs.Typed.Scopes.{IsSoundValue, is_sound_type}
use Rattle.dslx_total.proofs.OnTyped.OnTypes.{plain_array, plain_bits, plain_enum, plain_struct, plain_token, plain_tuple, sound_array, sound_bits, sound_enum, sound_struct, sound_tuple}

-- ---- types that are all one

abbrev pub EachIs : Ty → List (Option Ty) → Type 0
EachIs p [] = Unit {0}
EachIs p (o ∷ os) = (o ≡ Some p) × EachIs p os

alike_all : (p : Ty) (os : List (Option Ty)) → EachIs p os → all_alike p os ≡ Some p
alike_all p [] k = refl
alike_all p (o ∷ os) k = ap (λ x. and_then (if_alike p x) (λ s. all_alike s os)) k.0 ∙ ap (λ x. and_then x (λ s. all_alike s os)) (alike_itself p) ∙ alike_all p os k.1

pub elements_are_alike : (p : Ty) (os : List (Option Ty)) (n : ℕ) → EachIs p os → length os ≡ n → nat_lt 0 n ≡ true → elements_alike os ≡ Some (plain.Array p n)
elements_are_alike p [] n k e some =
    let none : 0 ≡ n = e in
    let more : 0 < n = grind (arith, nat_tests, some) in
    absurd (omega (arith, none, more))
elements_are_alike p (o ∷ os) n k e some =
    ap (λ x. and_then x (λ t. and_then (all_alike t os) (λ s. Some (plain.Array s (suc (length os)))))) k.0
    ∙ ap (λ x. and_then x (λ s. Some (plain.Array s (suc (length os))))) (alike_all p os k.1)
    ∙ ap (λ m. Some (plain.Array p m)) e

-- ---- values of each kind of type

value_level : (v : DslxValue) (l : DslxValue-F DslxValue) → out-DslxValue v ≡ l → plain_value v ≡ forget_step (map-DslxValue DslxValue Value plain_value l)
value_level v l e = ap plain_value (sym (views.roll-out-DslxValue v) ∙ ap views.roll-DslxValue e) ∙ fold-roll-DslxValue Value forget_step l

word_typed : (x : Word) (w : ℕ) → x.width ≡ w → lies_in x ≡ true → is_width w ≡ true → value_type (plain_value_of.Bits x) ≡ Some (plain.Bits w)
word_typed x w e lies width =
    values.fold-Bits (Option Ty) value_type_step x
    ∙ where_so (is_sound_word x) (Some (plain.Bits x.width)) (λ i. (ap is_width e ∙ width) i && lies i)
    ∙ ap (λ n. Some (plain.Bits n)) e

abbrev HasOwnType : DslxType → Type 0
HasOwnType t = is_sound_type t ≡ true → (v : DslxValue) → is_of t v ≡ true → value_type (plain_value v) ≡ Some (plain_type t)

parts_typed : (ts : List DslxType) (vs : List DslxValue) → EachHas HasOwnType ts → list_all (λ b. b) (map is_sound_type ts) ≡ true → each_of (map is_of ts) vs ≡ true → map value_type (map plain_value vs) ≡ map Some (map plain_type ts)
parts_typed [] [] h s e = refl
parts_typed [] (v ∷ vs) h s e = absurd (true≢false (sym e))
parts_typed (t ∷ ts) [] h s e = absurd (true≢false (sym e))
parts_typed (t ∷ ts) (v ∷ vs) h s e =
    let q = and_true (is_of t v) (each_of (map is_of ts) vs) e in
    let r = and_true (is_sound_type t) (list_all (λ b. b) (map is_sound_type ts)) s in
    λ i. h.0 r.0 v q.0 i ∷ parts_typed ts vs h.1 r.1 q.1 i

elements_typed : (t : DslxType) (vs : List DslxValue) → HasOwnType t → is_sound_type t ≡ true → list_all (is_of t) vs ≡ true → EachIs (plain_type t) (map value_type (map plain_value vs))
elements_typed t [] h s e = tt
elements_typed t (v ∷ vs) h s e = let q = and_true (is_of t v) (list_all (is_of t) vs) e in (h s v q.0, elements_typed t vs h s q.1)

tuple_typed : (ts : List DslxType) (vs : List DslxValue) → EachHas HasOwnType ts → list_all (λ b. b) (map is_sound_type ts) ≡ true → each_of (map is_of ts) vs ≡ true
    → value_type (plain_value_of.Tuple (map plain_value vs)) ≡ Some (plain.Tuple (map plain_type ts))
tuple_typed ts vs h s e =
    values.fold-Tuple (Option Ty) value_type_step (map plain_value vs)
    ∙ ap (λ os. and_then (all_some os) (λ us. Some (plain.Tuple us))) (parts_typed ts vs h s e)
    ∙ ap (λ o. and_then o (λ us. Some (plain.Tuple us))) (all_are (map plain_type ts))

many : {A B : Type 0} (f : A → B) (xs : List A) → length (map f xs) ≡ length xs
many f [] = refl
many f (x ∷ xs) = ap suc (many f xs)

some_there : (n : ℕ) → not (is_zero n) ≡ true → nat_lt 0 n ≡ true
some_there zero e = absurd (true≢false (sym e))
some_there (suc n) e = grind (arith, nat_tests)

pub value_typed : (t : DslxType) → HasOwnType t
value_typed = type_induction HasOwnType
    (λ s w sound v e.
    let q = is_bits_of s w v e in
    ap value_type (value_level v (DslxValue-F.Bits s q.0) q.1) ∙ word_typed q.0 w q.2 q.3 (sym (sound_bits s w) ∙ sound) ∙ ap Some (sym (plain_bits s w)))
    (λ ts h sound v e.
    let q = is_tuple_of ts v e in
    ap value_type (value_level v (DslxValue-F.Tuple q.0) q.1) ∙ tuple_typed ts q.0 h (sym (sound_tuple ts) ∙ sound) q.2 ∙ ap Some (sym (plain_tuple ts)))
    (λ t n h sound v e.
    let q = is_array_of t n v e in
    let r = and_true (not (is_zero n)) (is_sound_type t) (sym (sound_array t n) ∙ sound) in
    ap value_type (value_level v (DslxValue-F.Array q.elements) q.out)
    ∙ values.fold-Array (Option Ty) value_type_step (map plain_value q.elements)
    ∙ elements_are_alike (plain_type t) (map value_type (map plain_value q.elements)) n (elements_typed t q.elements h r.1 q.all)
    (many value_type (map plain_value q.elements) ∙ many plain_value q.elements ∙ sym q.count) (some_there n r.0)
    ∙ ap Some (sym (plain_array t n)))
    (λ name fields ts h sound v e.
    let q = is_struct_of name fields ts v e in
    ap value_type (value_level v (DslxValue-F.Struct name fields q.0) q.1) ∙ tuple_typed ts q.0 h (sym (sound_struct name fields ts) ∙ sound) q.2 ∙ ap Some (sym (plain_struct name fields ts)))
    (λ name s w sound v e.
    let q = is_enum_of name s w v e in
    ap value_type (value_level v (DslxValue-F.Enum name s q.0) q.1) ∙ word_typed q.0 w q.2 q.3 (sym (sound_enum name s w) ∙ sound) ∙ ap Some (sym (plain_enum name s w)))
    (λ sound v e.
    ap value_type (value_level v DslxValue-F.Token (is_token_of v e)) ∙ values.fold-Tuple (Option Ty) value_type_step [] ∙ ap Some (sym plain_token))

-- a sound value
pub sound_typed : (v : DslxValue) → IsSoundValue v → value_type (plain_value v) ≡ Some (plain_type (type_of_value v))
sound_typed v s = value_typed (type_of_value v) s.sound v s.own
