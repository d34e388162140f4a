-- Arrays whose last element is repeated.
use Rattle.std.proofs.Common.{◌≡◌, ◌&&◌, ◌++◌, ◌+◌, ◌-◌, ◌≤◌, ℕ, zero, suc, length, true, not, List, [], ◌∷◌, map, Option, Some, refl, sym, ap, ◌∙◌, arith}
use Rattle.std.specs.Prelude.{nat_le, slice_get}
use Rattle.std.specs.List.{list_all}
use Rattle.std.proofs.lemmas.Bool.{leb-true}
use Rattle.std.proofs.lemmas.List.{append_assoc}
use Rattle.xb_value.specs.declared.value.Value.{Value, out-Value}
use Rattle.xb_value.specs.declared.value.Value as plain
use Rattle.xb_value.specs.declared.value.Value.TheViews as plain_views
use Rattle.dslx_meaning.specs.Lists.{all_some, and_then, last_of, repeated}
use Rattle.dslx_meaning.specs.Values.{plain_value}
use Rattle.dslx_meaning.specs.declared.ty.DslxType.{DslxType}
use Rattle.dslx_meaning.specs.declared.ty.DslxType as ty
use Rattle.dslx_meaning.specs.declared.value.DslxValue.{DslxValue}
use Rattle.dslx_meaning.specs.declared.value.DslxValue as value
use Rattle.dslx_meaning.specs.Rules.ConstantRules.{is_zero}
use Rattle.dslx_core.specs.Typing.Typed.Kinds.{is_of}
use Rattle.dslx_core.proofs.Lemmas.Typing.Typed.{all_are, none_some, same_some}
use Rattle.dslx_core.proofs.Lemmas.Typing.Laws.{and_true}
use Rattle.dslx_core.specs.CoreValues.{Bindings, CoreDen, Functions, TakesApart, apart_each, core_value, taken_apart, tuple_values_step}
use Rattle.dslx_core.specs.declared.expr.CoreExpr.{CoreExpr}
use Rattle.dslx_core.specs.declared.expr.CoreExpr as core
use Rattle.dslx_core.specs.declared.expr.Shape.{Shape}
use Rattle.dslx_core.specs.declared.expr.Shape as shape
use Rattle.dslx_core.specs.Lowering.Lowering.{LoweredExpr, cores_of}
use Rattle.dslx_core.specs.Lowering.Trees.{filled_array, slots_from}
use Rattle.dslx_core.specs.Lowering.Correspondence.{HasPlainValue}
use Rattle.dslx_core.proofs.OnLowering.Lists.{AllHave, all_values}
use Rattle.dslx_core.proofs.OnLowering.OfCalls.{array_of_elements}
use Rattle.dslx_core.proofs.OnLowering.Openings.{core_array, core_bind, core_slot, core_tuple, plain_array, shape_bound, shape_tuple}

-- ---- lists

in_the_middle : {A : Type 0} (as' : List A) (b : A) (bs : List A) → slice_get (as' ++ b ∷ bs) (length as') ≡ Some b
in_the_middle [] b bs = refl
in_the_middle (a ∷ as') b bs = in_the_middle as' b bs

past_prefix : {A : Type 0} (as' bs : List A) (k : ℕ) → slice_get (as' ++ bs) (length as' + k) ≡ slice_get bs k
past_prefix [] bs k = ap (slice_get bs) (nothing_added k)
  where
    nothing_added : (k : ℕ) → (0 + k) ≡ k
    nothing_added k = omega arith
past_prefix (a ∷ as') bs k = ap (slice_get (a ∷ as' ++ bs)) (one_further (length as') k) ∙ past_prefix as' bs k
  where
    one_further : (n k : ℕ) → (suc n + k) ≡ suc (n + k)
    one_further n k = omega arith

one_longer : {A : Type 0} (as' : List A) (b : A) → length (as' ++ b ∷ []) ≡ suc (length as')
one_longer [] b = refl
one_longer (a ∷ as') b = ap suc (one_longer as' b)

map_both : {A B : Type 0} (f : A → B) (as' bs : List A) → map f (as' ++ bs) ≡ (map f as' ++ map f bs)
map_both f [] bs = refl
map_both f (a ∷ as') bs = ap (λ cs. f a ∷ cs) (map_both f as' bs)

map_repeated : {A B : Type 0} (f : A → B) (n : ℕ) (a : A) → map f (repeated n a) ≡ repeated n (f a)
map_repeated f zero a = refl
map_repeated f (suc n) a = ap (λ bs. f a ∷ bs) (map_repeated f n a)

length_both : {A : Type 0} (as' bs : List A) → length (as' ++ bs) ≡ (length as' + length bs)
length_both [] bs = nothing_added (length bs)
  where
    nothing_added : (k : ℕ) → k ≡ (0 + k)
    nothing_added k = omega arith
length_both (a ∷ as') bs = ap suc (length_both as' bs) ∙ one_further (length as') (length bs)
  where
    one_further : (n k : ℕ) → suc (n + k) ≡ (suc n + k)
    one_further n k = omega arith

length_repeated : {A : Type 0} (n : ℕ) (a : A) → length (repeated n a) ≡ n
length_repeated zero a = refl
length_repeated (suc n) a = ap suc (length_repeated n a)

last_at : {A : Type 0} (a : A) (as' : List A) (b : A) → last_of (a ∷ as') ≡ Some b → slice_get (a ∷ as') (length as') ≡ Some b
last_at a [] b e = e
last_at a (c ∷ as') b e = last_at c as' b e

last_of_type : (t : DslxType) (vs : List DslxValue) (w : DslxValue) → list_all (is_of t) vs ≡ true → last_of vs ≡ Some w → is_of t w ≡ true
last_of_type t [] w all e = none_some w e
last_of_type t (v ∷ []) w all e = ap (is_of t) (sym (same_some v w e)) ∙ (and_true (is_of t v) true all).0
last_of_type t (v ∷ u ∷ vs) w all e = last_of_type t (u ∷ vs) w (and_true (is_of t v) (list_all (is_of t) (u ∷ vs)) all).1 e

all_repeated : (t : DslxType) (vs : List DslxValue) (n : ℕ) (w : DslxValue) → list_all (is_of t) vs ≡ true → is_of t w ≡ true → list_all (is_of t) (vs ++ repeated n w) ≡ true
all_repeated t [] zero w all of = refl
all_repeated t [] (suc n) w all of = ap (λ b. b && list_all (is_of t) (repeated n w)) of ∙ all_repeated t [] n w all of
all_repeated t (v ∷ vs) n w all of =
    let q = and_true (is_of t v) (list_all (is_of t) vs) all in
    ap (λ b. b && list_all (is_of t) (vs ++ repeated n w)) q.0 ∙ all_repeated t vs n w q.1 of

-- ---- the elements bound one behind the other

apart_all : (es : List LoweredExpr) (us : List Value) (bound : Bindings) → length us ≡ length es → apart_each (map taken_apart (map (λ (e : LoweredExpr). shape.Bound) es)) us bound ≡ Some (bound ++ us)
apart_all [] [] bound n = ap Some (nothing_behind bound)
  where
    nothing_behind : (bs : Bindings) → bs ≡ (bs ++ [])
    nothing_behind [] = refl
    nothing_behind (b ∷ bs) = ap (λ cs. b ∷ cs) (nothing_behind bs)
apart_all [] (u ∷ us) bound n = absurd (cc)
apart_all (e ∷ es) [] bound n = absurd (cc)
apart_all (e ∷ es) (u ∷ us) bound n =
    ap (λ (f : TakesApart). and_then (f u bound) (apart_each (map taken_apart (map (λ (e : LoweredExpr). shape.Bound) es)) us)) shape_bound
    ∙ apart_all es us (bound ++ u ∷ []) (shorter n) ∙ ap Some (append_assoc bound (u ∷ []) us)
  where
    shorter : suc (length us) ≡ suc (length es) → length us ≡ length es
    shorter n = omega (arith, n)

abbrev values_with : Functions → Bindings → List CoreExpr → List (Option Value)
values_with calls bound es = map (λ (e : CoreDen). e calls bound) (map core_value es)

slot_values : (calls : Functions) (front : Bindings) (es : List LoweredExpr) (us : List Value) → length us ≡ length es → values_with calls (front ++ us) (slots_from (length front) es) ≡ map Some us
slot_values calls front [] [] n = refl
slot_values calls front [] (u ∷ us) n = absurd (cc)
slot_values calls front (e ∷ es) [] n = absurd (cc)
slot_values calls front (e ∷ es) (u ∷ us) n =
    λ i. (ap (λ f. f calls (front ++ u ∷ us)) (core_slot (length front)) ∙ in_the_middle front u us) i ∷ rest (slot_values calls (front ++ u ∷ []) es us (shorter n)) i
  where
    shorter : suc (length us) ≡ suc (length es) → length us ≡ length es
    shorter n = omega (arith, n)

    rest : values_with calls ((front ++ u ∷ []) ++ us) (slots_from (length (front ++ u ∷ [])) es) ≡ map Some us → values_with calls (front ++ u ∷ us) (slots_from (suc (length front)) es) ≡ map Some us
    rest h = (λ i. values_with calls (sym (append_assoc front (u ∷ []) us) i) (slots_from (sym (one_longer front u) i) es)) ∙ h

repeated_values : (calls : Functions) (bound : Bindings) (k : ℕ) (u : Value) (n : ℕ) → slice_get bound k ≡ Some u → values_with calls bound (repeated n (core.Slot k)) ≡ map Some (repeated n u)
repeated_values calls bound k u zero e = refl
repeated_values calls bound k u (suc n) e = λ i. (ap (λ f. f calls bound) (core_slot k) ∙ e) i ∷ repeated_values calls bound k u n e i

values_of_both : (calls : Functions) (bound : Bindings) (as' bs : List CoreExpr) → values_with calls bound (as' ++ bs) ≡ (values_with calls bound as' ++ values_with calls bound bs)
values_of_both calls bound as' bs = ap (map (λ (e : CoreDen). e calls bound)) (map_both core_value as' bs) ∙ map_both (λ (e : CoreDen). e calls bound) (map core_value as') (map core_value bs)

pub filled_kept : (calls : Functions) (bound : Bindings) (count : ℕ) (t : DslxType) (e : LoweredExpr) (es : List LoweredExpr) (v : DslxValue) (vs : List DslxValue) (w : DslxValue) (n : ℕ) → length bound ≡ count
    → AllHave calls bound (e ∷ es) (v ∷ vs) → length vs ≡ length es → list_all (is_of t) (v ∷ vs) ≡ true → last_of (v ∷ vs) ≡ Some w → nat_le (suc (length es)) n ≡ true
    → HasPlainValue (record { core = filled_array count n e es; ty = ty.Array t n }) calls bound (value.Array ((v ∷ vs) ++ repeated (n - suc (length vs)) w))
filled_kept calls bound count t e es v vs w n is_count have as_long all last fits = record {
  of = array_of_elements t n ((v ∷ vs) ++ repeated (n - suc (length vs)) w) (some n fits) (sym (counted n fits)) (all_repeated t (v ∷ vs) (n - suc (length vs)) w all (last_of_type t (v ∷ vs) w all last));
  core =
      ap (λ f. f calls bound) (core_bind (core.Tuple (cores_of (e ∷ es))) (shape.Tuple (map (λ (e : LoweredExpr). shape.Bound) (e ∷ es))) body)
      ∙ ap (λ o. and_then o (λ v. and_then (taken_apart (shape.Tuple (map (λ (e : LoweredExpr). shape.Bound) (e ∷ es))) v bound) (core_value body calls)))
      (ap (λ f. f calls bound) (core_tuple (cores_of (e ∷ es))) ∙ ap (λ o. and_then o (λ vs. Some (plain.Tuple vs))) (all_values calls bound (e ∷ es) (v ∷ vs) have))
      ∙ ap (λ (f : TakesApart). and_then (f (plain.Tuple us) bound) (core_value body calls)) (shape_tuple (map (λ (e : LoweredExpr). shape.Bound) (e ∷ es)))
      ∙ ap (λ l. and_then (and_then (tuple_values_step l) (λ vs. apart_each (map taken_apart (map (λ (e : LoweredExpr). shape.Bound) (e ∷ es))) vs bound)) (core_value body calls)) (plain_views.outs-Tuple us)
      ∙ ap (λ o. and_then o (core_value body calls)) (apart_all (e ∷ es) us bound (ap suc (length_kept vs ∙ as_long)))
      ∙ ap (λ f. f calls (bound ++ us)) (core_array (slots_from count (e ∷ es) ++ repeated (n - suc (length es)) (core.Slot (count + length es))))
      ∙ ap (λ o. and_then o (λ vs. Some (plain.Array vs))) (ap all_some elements ∙ all_are (us ++ repeated (n - suc (length es)) (plain_value w)))
      ∙ ap (λ us. Some (plain.Array us)) (sym flat) ∙ ap Some (sym (plain_array ((v ∷ vs) ++ repeated (n - suc (length vs)) w)));
}
  where
    us : List Value
    us = map plain_value (v ∷ vs)

    body : CoreExpr
    body = core.Array (slots_from count (e ∷ es) ++ repeated (n - suc (length es)) (core.Slot (count + length es)))

    length_kept : (vs : List DslxValue) → length (map plain_value vs) ≡ length vs
    length_kept [] = refl
    length_kept (v ∷ vs) = ap suc (length_kept vs)

    some : (n : ℕ) → nat_le (suc (length es)) n ≡ true → not (is_zero n) ≡ true
    some zero q = let low : suc (length es) ≤ 0 = leb-true (suc (length es)) 0 q in absurd (omega (arith, low))
    some (suc n) q = refl

    counted : (n : ℕ) → nat_le (suc (length es)) n ≡ true → length ((v ∷ vs) ++ repeated (n - suc (length vs)) w) ≡ n
    counted n q =
        let room : suc (length es) ≤ n = leb-true (suc (length es)) n q in
        length_both (v ∷ vs) (repeated (n - suc (length vs)) w) ∙ ap (λ k. suc (length vs) + k) (length_repeated (n - suc (length vs)) w) ∙ filled_up (length vs) (length es) n as_long room
      where
        filled_up : (k l n : ℕ) → k ≡ l → suc l ≤ n → (suc k + (n - suc k)) ≡ n
        filled_up k l n h r = omega (arith, h, r)

    last_value : slice_get (bound ++ us) (count + length es) ≡ Some (plain_value w)
    last_value =
        (λ i. slice_get (bound ++ us) (sym is_count i + sym as_long i)) ∙ past_prefix bound us (length vs) ∙ plain_at (v ∷ vs) (length vs) w (last_at v vs w last)
      where
        plain_at : (vs : List DslxValue) (k : ℕ) (w : DslxValue) → slice_get vs k ≡ Some w → slice_get (map plain_value vs) k ≡ Some (plain_value w)
        plain_at [] k w e = none_some w e
        plain_at (v ∷ vs) zero w e = ap (λ x. Some (plain_value x)) (same_some v w e)
        plain_at (v ∷ vs) (suc k) w e = plain_at vs k w e

    elements : values_with calls (bound ++ us) (slots_from count (e ∷ es) ++ repeated (n - suc (length es)) (core.Slot (count + length es))) ≡ map Some (us ++ repeated (n - suc (length es)) (plain_value w))
    elements =
        values_of_both calls (bound ++ us) (slots_from count (e ∷ es)) (repeated (n - suc (length es)) (core.Slot (count + length es)))
        ∙ (λ i. (ap (λ k. values_with calls (bound ++ us) (slots_from k (e ∷ es))) (sym is_count) ∙ slot_values calls bound (e ∷ es) us (ap suc (length_kept vs ∙ as_long))) i
        ++ repeated_values calls (bound ++ us) (count + length es) (plain_value w) (n - suc (length es)) last_value i)
        ∙ sym (map_both Some us (repeated (n - suc (length es)) (plain_value w)))

    flat : map plain_value ((v ∷ vs) ++ repeated (n - suc (length vs)) w) ≡ (us ++ repeated (n - suc (length es)) (plain_value w))
    flat =
        map_both plain_value (v ∷ vs) (repeated (n - suc (length vs)) w)
        ∙ ap (λ xs. us ++ xs) (map_repeated plain_value (n - suc (length vs)) w ∙ ap (λ k. repeated (n - suc k) (plain_value w)) as_long)
