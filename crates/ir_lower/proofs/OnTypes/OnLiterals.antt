-- Types of written values.
use Rattle.std.proofs.Common.{◌≡◌, ℕ, suc, ◌^◌, true, List, ◌∷◌, ◌++◌, map, length, drop, Option, Some, refl, sym, ap, ap₂, ◌∙◌, arith, []}
use Rattle.std.specs.Prelude.{nat_lt, nat_le}
use Rattle.std.proofs.lemmas.Bool.Decides.{nat_tests}
use Rattle.xb_bits.specs.Word.{Word, IsWord}
use Rattle.xb_value.specs.declared.ty.Ty.{Ty}
use Rattle.xb_value.specs.declared.ty.Ty as ty
use Rattle.xb_value.specs.declared.value.Value.{Value, fold-Value, out-Value}
use Rattle.xb_value.specs.declared.value.Value as value
use Rattle.xb_value.specs.declared.value.Value.TheOpen.{Value-F}
use Rattle.xb_value.specs.declared.value.Value.TheViews as views
use Rattle.xb_value.specs.declared.value.Value.TheFolds.{map-Value, fold_out-Value}
use Rattle.dslx_meaning.specs.Lists.{all_some, and_then}
use Rattle.dslx_core.specs.CoreValues.{is_width}
use Rattle.dslx_core.specs.Types.Typing.{all_alike, elements_alike, if_alike, is_sound_word, value_type, value_type_step}
use Rattle.dslx_core.proofs.Lemmas.Types.{alike_itself, where_so}
use Rattle.ir_lower.proofs.OnTypes.OnKinds.{all_there}
use Rattle.ir_lower.proofs.OnTypes.OnLimits.{and_true}

opened : (v : Value) (x : Value-F Value) → out-Value v ≡ x → value_type v ≡ value_type_step (map-Value Value (Option Ty) value_type x)
opened v x h = fold_out-Value (Option Ty) value_type_step v ∙ ap (λ y. value_type_step (map-Value Value (Option Ty) value_type y)) h

pub sound_word : (x : Word) → IsWord x → is_sound_word x ≡ true
sound_word x h =
    and_true (is_width x.width) (nat_lt x.value (2 ^ x.width))
    (and_true (nat_lt 0 x.width) (nat_le x.width 128) (grind (arith, nat_tests, h.some_width)) (grind (arith, nat_tests, h.most_width)))
    (grind (arith, nat_tests, h.in_range))

pub bits_typed : (x : Word) → IsWord x → value_type (value.Bits x) ≡ Some (ty.Bits x.width)
bits_typed x h = opened (value.Bits x) (Value-F.Bits x) (views.outs-Bits x) ∙ where_so (is_sound_word x) (Some (ty.Bits x.width)) (sound_word x h)

pub tuple_typed : (vs : List Value) (ts : List Ty) → map value_type vs ≡ map Some ts → value_type (value.Tuple vs) ≡ Some (ty.Tuple ts)
tuple_typed vs ts are =
    opened (value.Tuple vs) (Value-F.Tuple vs) (views.outs-Tuple vs) ∙ ap (λ o. and_then o (λ us. Some (ty.Tuple us))) (ap all_some are ∙ all_there ts)

pub array_typed : (vs : List Value) (ts : List Ty) (t : Ty) → map value_type vs ≡ map Some ts → elements_alike (map Some ts) ≡ Some t → value_type (value.Array vs) ≡ Some t
array_typed vs ts t are h = opened (value.Array vs) (Value-F.Array vs) (views.outs-Array vs) ∙ (ap elements_alike are ∙ h)

-- ---- elements of one type

abbrev pub AlikeLeft : Ty → List Ty → ℕ → Type 0
AlikeLeft t us i = all_alike t (map Some (drop i us)) ≡ all_alike t (map Some us)

pub alike_first : (t u : Ty) (us : List Ty) → t ≡ u → all_alike t (map Some (u ∷ us)) ≡ all_alike t (map Some us)
alike_first t u us same = ap (λ o. and_then o (λ s. all_alike s (map Some us))) (ap (λ x. if_alike t (Some x)) (sym same) ∙ alike_itself t)

count_some : (us : List Ty) → length (map Some us) ≡ length us
count_some [] = refl
count_some (u ∷ us) = ap suc (count_some us)

pub array_of_alike : (t : Ty) (us : List Ty) → all_alike t (map Some us) ≡ Some t → elements_alike (Some t ∷ map Some us) ≡ Some (ty.Array t (suc (length us)))
array_of_alike t us h = ap (λ o. and_then o (λ s. Some (ty.Array s (suc (length (map Some us)))))) h ∙ ap (λ n. Some (ty.Array t (suc n))) (count_some us)

-- one more value, and its type
pub types_more : (vs all : List Value) (v : Value) (ts : List Ty) (t : Ty) → all ≡ vs ++ v ∷ [] → map value_type vs ≡ map Some ts → value_type v ≡ Some t → map value_type all ≡ map Some (ts ++ t ∷ [])
types_more vs all v ts t is are h = ap (map value_type) is ∙ (behind vs ∙ (ap₂ (λ os o. os ++ o ∷ []) are h ∙ sym (some_behind ts)))
  where
    behind : (xs : List Value) → map value_type (xs ++ v ∷ []) ≡ map value_type xs ++ value_type v ∷ []
    behind [] = refl
    behind (x ∷ xs) = ap (λ os. value_type x ∷ os) (behind xs)

    some_behind : (us : List Ty) → map Some (us ++ t ∷ []) ≡ map Some us ++ Some t ∷ []
    some_behind [] = refl
    some_behind (u ∷ us) = ap (λ os. Some u ∷ os) (some_behind us)
