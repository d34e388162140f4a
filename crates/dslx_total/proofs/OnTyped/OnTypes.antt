-- Types without signs and names, and sound types, at each kind of type.
use Rattle.std.proofs.Common.{◌≡◌, ◌&&◌, ℕ, zero, suc, Bool, true, not, List, [], ◌∷◌, map, Some, refl, sym, ap, subst, ◌∙◌, arith}
use mathlib.Core.Bool.{true≢false}
use Rattle.std.specs.Prelude.{nat_lt, slice_get}
use Rattle.std.specs.List.{list_all}
use Rattle.std.proofs.lemmas.Bool.Decides.{nat_tests}
use Rattle.xb_value.specs.declared.ty.Ty.{Ty}
use Rattle.xb_value.specs.declared.ty.Ty as plain
use Rattle.dslx_meaning.specs.Types.{bits_in, bits_or_enum, bits_or_enum_step, bits_step, plain_step, plain_type}
use Rattle.dslx_meaning.specs.declared.ty.BitKind.{BitKind}
use Rattle.dslx_meaning.specs.declared.ty.DslxType.{DslxType, out-DslxType}
use Rattle.dslx_meaning.specs.declared.ty.DslxType as ty
use Rattle.dslx_meaning.specs.declared.ty.DslxType.TheFolds.{fold-roll-DslxType, map-DslxType}
use Rattle.dslx_meaning.specs.declared.ty.DslxType.TheOpen.{DslxType-F}
use Rattle.dslx_meaning.specs.declared.ty.DslxType.TheViews as views
use Rattle.dslx_meaning.specs.Rules.AggregateRules.{array_in, array_parts}
use Rattle.dslx_meaning.specs.Rules.ConstantRules.{is_zero}
use Rattle.dslx_core.proofs.Lemmas.Typing.Laws.{and_true}
use Rattle.dslx_core.proofs.Lemmas.Typing.Typed.{none_some, same_some}
use Rattle.dslx_core.specs.CoreValues.{is_width}
use Rattle.dslx_total.specs.Typed.Scopes.{is_sound_type, sound_step}

-- ---- by its level

pub plain_level : (t : DslxType) (l : DslxType-F DslxType) → out-DslxType t ≡ l → plain_type t ≡ plain_step (map-DslxType DslxType Ty plain_type l)
plain_level t l e = ap plain_type (sym (views.roll-out-DslxType t) ∙ ap views.roll-DslxType e) ∙ fold-roll-DslxType Ty plain_step l

pub sound_level : (t : DslxType) (l : DslxType-F DslxType) → out-DslxType t ≡ l → is_sound_type t ≡ sound_step (map-DslxType DslxType Bool is_sound_type l)
sound_level t l e = ap is_sound_type (sym (views.roll-out-DslxType t) ∙ ap views.roll-DslxType e) ∙ fold-roll-DslxType Bool sound_step l

pub plain_bits : (s : Bool) (w : ℕ) → plain_type (ty.Bits s w) ≡ plain.Bits w
plain_bits s w = plain_level (ty.Bits s w) (DslxType-F.Bits s w) (views.outs-Bits s w)

pub plain_tuple : (ts : List DslxType) → plain_type (ty.Tuple ts) ≡ plain.Tuple (map plain_type ts)
plain_tuple ts = plain_level (ty.Tuple ts) (DslxType-F.Tuple ts) (views.outs-Tuple ts)

pub plain_array : (t : DslxType) (n : ℕ) → plain_type (ty.Array t n) ≡ plain.Array (plain_type t) n
plain_array t n = plain_level (ty.Array t n) (DslxType-F.Array t n) (views.outs-Array t n)

pub plain_struct : (name : List ℕ) (fields : List (List ℕ)) (ts : List DslxType) → plain_type (ty.Struct name fields ts) ≡ plain.Tuple (map plain_type ts)
plain_struct name fields ts = plain_level (ty.Struct name fields ts) (DslxType-F.Struct name fields ts) (views.outs-Struct name fields ts)

pub plain_enum : (name : List ℕ) (s : Bool) (w : ℕ) → plain_type (ty.Enum name s w) ≡ plain.Bits w
plain_enum name s w = plain_level (ty.Enum name s w) (DslxType-F.Enum name s w) (views.outs-Enum name s w)

pub plain_token : plain_type ty.Token ≡ plain.Tuple []
plain_token = plain_level ty.Token DslxType-F.Token views.outs-Token

pub sound_bits : (s : Bool) (w : ℕ) → is_sound_type (ty.Bits s w) ≡ is_width w
sound_bits s w = sound_level (ty.Bits s w) (DslxType-F.Bits s w) (views.outs-Bits s w)

pub sound_tuple : (ts : List DslxType) → is_sound_type (ty.Tuple ts) ≡ list_all (λ b. b) (map is_sound_type ts)
sound_tuple ts = sound_level (ty.Tuple ts) (DslxType-F.Tuple ts) (views.outs-Tuple ts)

pub sound_array : (t : DslxType) (n : ℕ) → is_sound_type (ty.Array t n) ≡ (not (is_zero n) && is_sound_type t)
sound_array t n = sound_level (ty.Array t n) (DslxType-F.Array t n) (views.outs-Array t n)

pub sound_struct : (name : List ℕ) (fields : List (List ℕ)) (ts : List DslxType) → is_sound_type (ty.Struct name fields ts) ≡ list_all (λ b. b) (map is_sound_type ts)
sound_struct name fields ts = sound_level (ty.Struct name fields ts) (DslxType-F.Struct name fields ts) (views.outs-Struct name fields ts)

pub sound_enum : (name : List ℕ) (s : Bool) (w : ℕ) → is_sound_type (ty.Enum name s w) ≡ is_width w
sound_enum name s w = sound_level (ty.Enum name s w) (DslxType-F.Enum name s w) (views.outs-Enum name s w)

pub sound_token : is_sound_type ty.Token ≡ true
sound_token = sound_level ty.Token DslxType-F.Token views.outs-Token

-- ---- types that are bits

-- without signs and names it is bits of this width
pub record HasWidth (t : DslxType) (w : ℕ) : Type 0 where
  pub plain : plain_type t ≡ plain.Bits w
  pub width : is_width w ≡ true

pub kind_width : (t : DslxType) (k : BitKind) → is_sound_type t ≡ true → bits_or_enum t ≡ Some k → HasWidth t k.width
kind_width t k sound e = by_level (out-DslxType t) refl e
  where
    by_level : (l : DslxType-F DslxType) → out-DslxType t ≡ l → bits_or_enum_step l ≡ Some k → HasWidth t k.width
    by_level (DslxType-F.Bits s w) q h =
        let same = ap (λ (k : BitKind). k.width) (same_some (record { signed = s; width = w }) k h) in
        record { plain = plain_level t (DslxType-F.Bits s w) q ∙ ap plain.Bits same; width = ap is_width (sym same) ∙ sym (sound_level t (DslxType-F.Bits s w) q) ∙ sound }
    by_level (DslxType-F.Enum name s w) q h =
        let same = ap (λ (k : BitKind). k.width) (same_some (record { signed = s; width = w }) k h) in
        record { plain = plain_level t (DslxType-F.Enum name s w) q ∙ ap plain.Bits same; width = ap is_width (sym same) ∙ sym (sound_level t (DslxType-F.Enum name s w) q) ∙ sound }
    by_level (DslxType-F.Tuple ts) q h = none_some k h
    by_level (DslxType-F.Array v n) q h = none_some k h
    by_level (DslxType-F.Struct name fields ts) q h = none_some k h
    by_level DslxType-F.Token q h = none_some k h

-- bits are bits or an enum
pub bits_too : (t : DslxType) (k : BitKind) → bits_in t ≡ Some k → bits_or_enum t ≡ Some k
bits_too t k e = by_level (out-DslxType t) e
  where
    by_level : (l : DslxType-F DslxType) → bits_step l ≡ Some k → bits_or_enum_step l ≡ Some k
    by_level (DslxType-F.Bits s w) h = h
    by_level (DslxType-F.Enum name s w) h = none_some k h
    by_level (DslxType-F.Tuple ts) h = none_some k h
    by_level (DslxType-F.Array v n) h = none_some k h
    by_level (DslxType-F.Struct name fields ts) h = none_some k h
    by_level DslxType-F.Token h = none_some k h

pub bits_width_is : (t : DslxType) (k : BitKind) → is_sound_type t ≡ true → bits_in t ≡ Some k → HasWidth t k.width
bits_width_is t k sound e = kind_width t k sound (bits_too t k e)

-- ---- types of parts

pub each_sound : (ts : List DslxType) (k : ℕ) (t : DslxType) → list_all (λ b. b) (map is_sound_type ts) ≡ true → slice_get ts k ≡ Some t → is_sound_type t ≡ true
each_sound [] k t e h = none_some t h
each_sound (u ∷ us) zero t e h = ap is_sound_type (sym (same_some u t h)) ∙ (and_true (is_sound_type u) (list_all (λ b. b) (map is_sound_type us)) e).0
each_sound (u ∷ us) (suc k) t e h = each_sound us k t (and_true (is_sound_type u) (list_all (λ b. b) (map is_sound_type us)) e).1 h

pub plain_at : (ts : List DslxType) (k : ℕ) (t : DslxType) → slice_get ts k ≡ Some t → slice_get (map plain_type ts) k ≡ Some (plain_type t)
plain_at [] k t h = none_some t h
plain_at (u ∷ us) zero t h = ap Some (ap plain_type (same_some u t h))
plain_at (u ∷ us) (suc k) t h = plain_at us k t h

-- a type whose values are tuples without names
pub record HasParts (t : DslxType) (ts : List DslxType) : Type 0 where
  pub plain : plain_type t ≡ plain.Tuple (map plain_type ts)
  pub sound : list_all (λ b. b) (map is_sound_type ts) ≡ true

pub record HasElements (t u : DslxType) (n : ℕ) : Type 0 where
  pub plain : plain_type t ≡ plain.Array (plain_type u) n
  pub sound : is_sound_type u ≡ true
  pub some : nat_lt 0 n ≡ true

pub positive : (n : ℕ) → not (is_zero n) ≡ true → nat_lt 0 n ≡ true
positive zero e = absurd (true≢false (sym e))
positive (suc n) e = grind (arith, nat_tests)

pub has_elements : (t : DslxType) (parts : DslxType × ℕ) → is_sound_type t ≡ true → array_in t ≡ Some parts → HasElements t parts.0 parts.1
has_elements t parts sound e = by_level (out-DslxType t) refl e
  where
    by_level : (l : DslxType-F DslxType) → out-DslxType t ≡ l → array_parts l ≡ Some parts → HasElements t parts.0 parts.1
    by_level (DslxType-F.Array v n) q h =
        let same = same_some (v, n) parts h in
        let r = and_true (not (is_zero n)) (is_sound_type v) (sym (sound_level t (DslxType-F.Array v n) q) ∙ sound) in
        subst (λ (p : DslxType × ℕ). HasElements t p.0 p.1) same (record { plain = plain_level t (DslxType-F.Array v n) q; sound = r.1; some = positive n r.0 })
    by_level (DslxType-F.Bits s w) q h = none_some parts h
    by_level (DslxType-F.Tuple ts) q h = none_some parts h
    by_level (DslxType-F.Struct name fields ts) q h = none_some parts h
    by_level (DslxType-F.Enum name s w) q h = none_some parts h
    by_level DslxType-F.Token q h = none_some parts h
