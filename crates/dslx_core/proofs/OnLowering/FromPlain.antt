-- Values of a type that come from plain values.
use Rattle.std.proofs.Common.{◌≡◌, ◌&&◌, ◌<◌, ◌^◌, ℕ, suc, length, Bool, true, false, not, List, [], ◌∷◌, map, refl, sym, ap, subst, ◌∙◌, IsTrue}
use mathlib.Core.Bool.{true≢false}
use Rattle.std.specs.List.{list_all}
use Rattle.std.proofs.lemmas.Bool.Decides.{Decides-eqb}
use Rattle.std.proofs.lemmas.Slice.Eq.{bytes_eq-Decides}
use Rattle.xb_value.specs.declared.ty.Ty.{Ty}
use Rattle.xb_value.specs.declared.value.Value.{Value, out-Value}
use Rattle.xb_value.specs.declared.value.Value as plain
use Rattle.xb_value.specs.declared.value.Value.TheViews as plain_views
use Rattle.xb_value.specs.Typing.{IsOfType, each_passes, fits}
use Rattle.xb_value.proofs.Lemmas.Types.{EachHas}
use Rattle.xb_value.proofs.Lemmas.Typing.{array_of_type, bits_of_type, tuple_of_type}
use Rattle.dslx_meaning.specs.Lists.{apply_each}
use Rattle.dslx_meaning.specs.Types.{plain_step, plain_type, same_bool}
use Rattle.dslx_meaning.specs.Values.{at_type, at_type_step, parts_in_step, plain_parts, plain_value, plain_word, word_in_step}
use Rattle.dslx_meaning.specs.declared.ty.DslxType.{DslxType}
use Rattle.dslx_meaning.specs.declared.ty.DslxType as ty
use Rattle.dslx_meaning.specs.declared.ty.DslxType.TheOpen.{DslxType-F}
use Rattle.dslx_meaning.specs.declared.ty.DslxType.TheVariants as type_rolls
use Rattle.dslx_meaning.specs.declared.ty.DslxType.TheFolds.{fold-roll-DslxType, map-DslxType}
use Rattle.dslx_meaning.specs.declared.ty.DslxType.TheViews as type_views
use Rattle.dslx_meaning.specs.declared.value.DslxValue.{DslxValue, out-DslxValue}
use Rattle.dslx_meaning.specs.declared.value.DslxValue as value
use Rattle.dslx_meaning.specs.declared.value.DslxValue.TheOpen.{DslxValue-F}
use Rattle.dslx_meaning.specs.declared.value.DslxValue.TheViews as views
use Rattle.dslx_meaning.specs.Rules.ConstantRules.{is_zero}
use Rattle.dslx_core.proofs.Lemmas.Typing.Laws.{and_true}
use Rattle.dslx_core.specs.Typing.Typed.Kinds.{each_of, elements_all_of, enum_of_kind, is_of, is_of_step, same_names, struct_of, tuple_of}
use Rattle.dslx_core.proofs.Lemmas.Typing.Typed.{bits_of_width, lies, of_array, of_struct, of_token, of_tuple, type_induction}
use Rattle.dslx_core.specs.Lowering.Steps.{is_sized, sized_step}
use Rattle.dslx_core.proofs.OnLowering.Openings.{plain_array, plain_bits, plain_level, plain_struct, plain_token, plain_tuple}

abbrev pub FromPlain : DslxType → Type 0
FromPlain t = is_sized t ≡ true → (u : Value) → IsOfType (plain_type t) u → (is_of t (at_type t u) ≡ true) × (plain_value (at_type t u) ≡ u)

-- ---- the kinds of types

plain_type_is : (l : DslxType-F DslxType) (t : DslxType) → type_views.roll-DslxType l ≡ t → plain_type t ≡ plain_step (map-DslxType DslxType Ty plain_type l)
plain_type_is l t e = ap plain_type (sym e) ∙ fold-roll-DslxType Ty plain_step l

at_type_is : (l : DslxType-F DslxType) (t : DslxType) → type_views.roll-DslxType l ≡ t → at_type t ≡ at_type_step (map-DslxType DslxType (Value → DslxValue) at_type l)
at_type_is l t e = ap at_type (sym e) ∙ fold-roll-DslxType (Value → DslxValue) at_type_step l

sized_is : (l : DslxType-F DslxType) (t : DslxType) → type_views.roll-DslxType l ≡ t → is_sized t ≡ sized_step (map-DslxType DslxType Bool is_sized l)
sized_is l t e = ap is_sized (sym e) ∙ fold-roll-DslxType Bool sized_step l

from_bits : (s : Bool) (w : ℕ) → FromPlain (ty.Bits s w)
from_bits s w sized u typed =
    let b = bits_of_type w u (subst (λ t. IsOfType t u) (plain_type_is (DslxType-F.Bits s w) (ty.Bits s w) (type_rolls.rolls-Bits s w)) typed) in
    let is : at_type (ty.Bits s w) u ≡ value.Bits s b.word =
    ap (λ f. f u) (at_type_is (DslxType-F.Bits s w) (ty.Bits s w) (type_rolls.rolls-Bits s w)) ∙ ap (λ v. value.Bits s (plain_word v)) b.is ∙ ap (λ l. value.Bits s (word_in_step l)) (plain_views.outs-Bits b.word) in (
      ap (is_of (ty.Bits s w)) is ∙ bits_of_width s b.word w b.width (lies b.word (subst (λ n. b.word.value < 2 ^ n) (sym b.width) b.in_range)),
      ap plain_value is ∙ plain_bits s b.word ∙ sym b.is,
    )

-- parts in order
parts_from : (ts : List DslxType) (us : List Value) → EachHas FromPlain ts → list_all (λ b. b) (map is_sized ts) ≡ true → IsTrue (each_passes (map fits (map plain_type ts)) us)
    → (each_of (map is_of ts) (apply_each (map at_type ts) us) ≡ true) × (map plain_value (apply_each (map at_type ts) us) ≡ us)
parts_from [] [] h sized typed = (refl, refl)
parts_from [] (u ∷ us) h sized typed = absurd (true≢false (sym typed))
parts_from (t ∷ ts) [] h sized typed = absurd (true≢false (sym typed))
parts_from (t ∷ ts) (u ∷ us) h sized typed =
    let q = and_true (is_sized t) (list_all (λ b. b) (map is_sized ts)) sized in
    let r = and_true (fits (plain_type t) u) (each_passes (map fits (map plain_type ts)) us) typed in
    let first = h.0 q.0 u r.0 in
    let rest = parts_from ts us h.1 q.1 r.1 in
    ((λ i. first.0 i && rest.0 i), λ i. first.1 i ∷ rest.1 i)

from_tuple : (ts : List DslxType) → EachHas FromPlain ts → FromPlain (ty.Tuple ts)
from_tuple ts h sized u typed =
    let b = tuple_of_type (map plain_type ts) u (subst (λ t. IsOfType t u) (plain_type_is (DslxType-F.Tuple ts) (ty.Tuple ts) (type_rolls.rolls-Tuple ts)) typed) in
    let is : at_type (ty.Tuple ts) u ≡ value.Tuple (apply_each (map at_type ts) b.parts) =
    ap (λ f. f u) (at_type_is (DslxType-F.Tuple ts) (ty.Tuple ts) (type_rolls.rolls-Tuple ts)) ∙ ap (λ v. value.Tuple (apply_each (map at_type ts) (plain_parts v))) b.is
    ∙ ap (λ l. value.Tuple (apply_each (map at_type ts) (parts_in_step l))) (plain_views.outs-Tuple b.parts) in
    let all = parts_from ts b.parts h (sym (sized_is (DslxType-F.Tuple ts) (ty.Tuple ts) (type_rolls.rolls-Tuple ts)) ∙ sized) b.each in
    let vs = apply_each (map at_type ts) b.parts in
    (ap (is_of (ty.Tuple ts)) is ∙ of_tuple ts (value.Tuple vs) ∙ ap (tuple_of (map is_of ts)) (views.outs-Tuple vs) ∙ all.0, ap plain_value is ∙ plain_tuple vs ∙ ap plain.Tuple all.1 ∙ sym b.is)

names_themselves : (ns : List (List ℕ)) → same_names ns ns ≡ true
names_themselves [] = refl
names_themselves (n ∷ ns) = λ i. (bytes_eq-Decides n n).1 refl i && names_themselves ns i

from_struct : (name : List ℕ) (fields : List (List ℕ)) (ts : List DslxType) → EachHas FromPlain ts → FromPlain (ty.Struct name fields ts)
from_struct name fields ts h sized u typed =
    let b = tuple_of_type (map plain_type ts) u (subst (λ t. IsOfType t u) (plain_type_is (DslxType-F.Struct name fields ts) (ty.Struct name fields ts) (type_rolls.rolls-Struct name fields ts)) typed) in
    let is : at_type (ty.Struct name fields ts) u ≡ value.Struct name fields (apply_each (map at_type ts) b.parts) =
    ap (λ f. f u) (at_type_is (DslxType-F.Struct name fields ts) (ty.Struct name fields ts) (type_rolls.rolls-Struct name fields ts)) ∙ ap (λ v. value.Struct name fields (apply_each (map at_type ts) (plain_parts v))) b.is
    ∙ ap (λ l. value.Struct name fields (apply_each (map at_type ts) (parts_in_step l))) (plain_views.outs-Tuple b.parts) in
    let all = parts_from ts b.parts h (sym (sized_is (DslxType-F.Struct name fields ts) (ty.Struct name fields ts) (type_rolls.rolls-Struct name fields ts)) ∙ sized) b.each in
    let vs = apply_each (map at_type ts) b.parts in (
      ap (is_of (ty.Struct name fields ts)) is ∙ of_struct name fields ts (value.Struct name fields vs) ∙ ap (struct_of name fields (map is_of ts)) (views.outs-Struct name fields vs)
          ∙ (λ i. ((bytes_eq-Decides name name).1 refl i && names_themselves fields i) && all.0 i),
      ap plain_value is ∙ plain_struct name fields vs ∙ ap plain.Tuple all.1 ∙ sym b.is,
    )

elements_from : (t : DslxType) (us : List Value) → FromPlain t → is_sized t ≡ true → IsTrue (list_all (fits (plain_type t)) us)
    → (list_all (is_of t) (map (at_type t) us) ≡ true) × (map plain_value (map (at_type t) us) ≡ us) × (length (map (at_type t) us) ≡ length us)
elements_from t [] h sized typed = (refl, refl, refl)
elements_from t (u ∷ us) h sized typed =
    let r = and_true (fits (plain_type t) u) (list_all (fits (plain_type t)) us) typed in
    let first = h sized u r.0 in
    let rest = elements_from t us h sized r.1 in
    ((λ i. first.0 i && rest.0 i), (λ i. first.1 i ∷ rest.1 i), ap suc rest.2)

from_array : (t : DslxType) (n : ℕ) → FromPlain t → FromPlain (ty.Array t n)
from_array t n h sized u typed =
    let b = array_of_type (plain_type t) n u (subst (λ t. IsOfType t u) (plain_type_is (DslxType-F.Array t n) (ty.Array t n) (type_rolls.rolls-Array t n)) typed) in
    let is : at_type (ty.Array t n) u ≡ value.Array (map (at_type t) b.parts) =
    ap (λ f. f u) (at_type_is (DslxType-F.Array t n) (ty.Array t n) (type_rolls.rolls-Array t n)) ∙ ap (λ v. value.Array (map (at_type t) (plain_parts v))) b.is
    ∙ ap (λ l. value.Array (map (at_type t) (parts_in_step l))) (plain_views.outs-Array b.parts) in
    let q = and_true (not (is_zero n)) (is_sized t) (sym (sized_is (DslxType-F.Array t n) (ty.Array t n) (type_rolls.rolls-Array t n)) ∙ sized) in
    let all = elements_from t b.parts h q.1 b.all in
    let vs = map (at_type t) b.parts in (
      ap (is_of (ty.Array t n)) is ∙ of_array t n (value.Array vs) ∙ ap (elements_all_of (is_of t) n) (views.outs-Array vs) ∙ (λ i. (q.0 i && (Decides-eqb n (length vs)).1 (sym b.count ∙ sym all.2) i) && all.0 i),
      ap plain_value is ∙ plain_array vs ∙ ap plain.Array all.1 ∙ sym b.is,
    )

of_enum : (name : List ℕ) (s : Bool) (w : ℕ) (v : DslxValue) → is_of (ty.Enum name s w) v ≡ enum_of_kind name s w (out-DslxValue v)
of_enum name s w v = ap (λ f. f v) (ap is_of (sym (type_rolls.rolls-Enum name s w)) ∙ fold-roll-DslxType (DslxValue → Bool) is_of_step (DslxType-F.Enum name s w))

from_enum : (name : List ℕ) (s : Bool) (w : ℕ) → FromPlain (ty.Enum name s w)
from_enum name s w sized u typed =
    let b = bits_of_type w u (subst (λ t. IsOfType t u) (plain_type_is (DslxType-F.Enum name s w) (ty.Enum name s w) (type_rolls.rolls-Enum name s w)) typed) in
    let is : at_type (ty.Enum name s w) u ≡ value.Enum name s b.word =
    ap (λ f. f u) (at_type_is (DslxType-F.Enum name s w) (ty.Enum name s w) (type_rolls.rolls-Enum name s w)) ∙ ap (λ v. value.Enum name s (plain_word v)) b.is
    ∙ ap (λ l. value.Enum name s (word_in_step l)) (plain_views.outs-Bits b.word) in (
      ap (is_of (ty.Enum name s w)) is ∙ of_enum name s w (value.Enum name s b.word) ∙ ap (enum_of_kind name s w) (views.outs-Enum name s b.word)
          ∙ (λ i. (bytes_eq-Decides name name).1 refl i && ((itself s i && (Decides-eqb w b.word.width).1 (sym b.width) i) && lies b.word (subst (λ n. b.word.value < 2 ^ n) (sym b.width) b.in_range) i)),
      ap plain_value is ∙ plain_level (value.Enum name s b.word) (DslxValue-F.Enum name s b.word) (views.outs-Enum name s b.word) ∙ sym b.is,
    )
  where
    itself : (s : Bool) → same_bool s s ≡ true
    itself true = refl
    itself false = refl

from_token : FromPlain ty.Token
from_token sized u typed =
    let b = tuple_of_type [] u (subst (λ t. IsOfType t u) (plain_type_is DslxType-F.Token ty.Token type_rolls.rolls-Token) typed) in
    let is : at_type ty.Token u ≡ value.Token = ap (λ f. f u) (at_type_is DslxType-F.Token ty.Token type_rolls.rolls-Token) in
    (ap (is_of ty.Token) is ∙ of_token value.Token ∙ rw views.outs-Token refl, ap plain_value is ∙ plain_token ∙ ap plain.Tuple (nothing b.parts b.each) ∙ sym b.is)
  where
    nothing : (us : List Value) → IsTrue (each_passes [] us) → [] ≡ us
    nothing [] h = refl
    nothing (u ∷ us) h = absurd (true≢false (sym h))

-- a plain value of the type is that of a value of it
pub from_plain : (t : DslxType) → FromPlain t
from_plain = type_induction FromPlain from_bits from_tuple from_array from_struct from_enum from_token
