-- Expressions with types have values of them.
use Rattle.std.proofs.Common.{◌≡◌, ◌==◌, ℕ, zero, suc, ◌+◌, ◌<◌, ◌≤◌, min, Bool, true, false, ◌&&◌, List, ◌∷◌, map, length, Option, Some, None, refl, sym, ap, ap₂, subst, ◌∙◌, arith, if◌then◌else◌, []}
use Rattle.std.specs.Prelude.{slice_get, nat_lt, nat_le, set, pred, ◌||◌}
use Rattle.std.specs.List.{list_all}
use Rattle.std.proofs.lemmas.Bool.Decides.{nat_tests}
use Rattle.std.proofs.lemmas.List.{length-map}
use Rattle.xb_bits.specs.Word.{Word, word}
use Rattle.xb_bits.specs.Operations as op
use Rattle.xb_value.specs.declared.ty.Ty.{Ty, Bits, Tuple, Array}
use Rattle.xb_value.specs.declared.value.Value.{Value, out-Value}
use Rattle.xb_value.specs.declared.value.Value as value
use Rattle.xb_value.specs.declared.value.Value.TheViews.{outs-Tuple, outs-Array}
use Rattle.xb_value.specs.Typing.{IsOfType, fits}
use Rattle.xb_value.proofs.Lemmas.Types.{EachHas}
use Rattle.xb_value.proofs.Lemmas.Values.{value_induction}
use Rattle.xb_value.proofs.Lemmas.Values as values
use Rattle.xb_value.proofs.Lemmas.Typing.{tuple_of_type, array_of_type}
use Rattle.dslx_meaning.specs.Lists.{all_some, and_then, with_both, where_true}
use Rattle.dslx_meaning.specs.Operators.{cast_word}
use Rattle.dslx_core.specs.declared.expr.Shape.{Shape}
use Rattle.dslx_core.specs.declared.expr.CoreExpr.{CoreExpr}
use Rattle.dslx_core.specs.declared.expr.CoreExpr.TheOpen.{CoreExpr-F}
use Rattle.dslx_core.specs.declared.expr.CoreExpr.TheViews.{roll-CoreExpr}
use Rattle.dslx_core.specs.declared.expr.CoreExpr.TheFolds.{ind-CoreExpr, map-CoreExpr, map-Arm, fold-roll-CoreExpr, fold-roll-Arm}
use Rattle.dslx_core.specs.declared.expr.Arm.{Arm, Arm-F, fold-Arm, roll-Arm}
use Rattle.dslx_core.specs.CoreValues.{Bindings, Functions, CoreDen, CoreArmDen, word_of_value, array_values_step, tuple_values_step, unary_word, binary_words, is_signed_read, is_one, is_width, values_in, word_in, array_in, chosen, arm_or, select, turns, one_turn, taken_apart, first_apart, core_step, arm_step, core_value}
use Rattle.dslx_core.proofs.Lemmas.Typing.Typed.OfLists.{all_there, all_are}
use Rattle.dslx_core.specs.Types.Typing.{Elements, bits_width, elements_of, parts_of_tuple, if_alike, all_alike, elements_alike, is_sound_word, value_type_step, value_type, unary_type, binary_type, binds_types, arm_binds, is_certain, last_binds, FunctionTypes, Typing, CoreArmTyping, types_in, width_in, arms_type, typing_step, is_fit, some_fits, all_fit, shapes_of, arm_typing, core_type}
use Rattle.dslx_core.specs.Types.Typing as typing
use Rattle.dslx_core.specs.Types.Sound.{AreOfTypes, HasValueOf, FunctionsGive}
use Rattle.dslx_core.proofs.OnTypes.OnOptions.{IsThen, both, and_both, some_same, then_is, both_are, where_is, where_so}
use Rattle.dslx_core.proofs.OnTypes.OnTypes.{same_number, if_alike_is, width_bounds, bits_type, tuple_type, array_type}
use Rattle.dslx_core.proofs.OnTypes.OnWords.{IsWordIn, typed_word, word_in_value, unary_in, binary_in, cast_in, slice_in, sound_word, next_in}
use Rattle.dslx_core.proofs.OnTypes.OnLists.{typed_tuple, more_typed, part_typed, typed_array, element_typed, updated_typed, within}
use Rattle.dslx_core.proofs.OnTypes.OnFlat.{value_fits}
use Rattle.dslx_core.proofs.OnTypes.OnPatterns.{behind, first_behind}
use Rattle.dslx_core.proofs.OnTypes.OnShapes.{is_shape, arm_fits, arm_keeps, certain_fits, same_length}

-- ---- what has a value

so : (o p : Option Value) (t : Ty) → o ≡ p → HasValueOf p t → HasValueOf o t
so o p t e h = subst (λ q. HasValueOf q t) (sym e) h

some_of : (v : Value) (s t : Ty) → Some s ≡ Some t → IsOfType s v → HasValueOf (Some v) t
some_of v s t e h = record { value = v; is = refl; typed = subst (λ u. IsOfType u v) (some_same s t e) h }

retyped : (o : Option Value) (s t : Ty) → s ≡ t → HasValueOf o s → HasValueOf o t
retyped o s t e h = subst (HasValueOf o) e h

-- ---- types that are one

abbrev AllAre : Ty → List (Option Ty) → Type 0
AllAre t [] = Unit {0}
AllAre t (o ∷ os) = (o ≡ Some t) × AllAre t os

record AreAlike (t s : Ty) (os : List (Option Ty)) : Type 0 where
  same : t ≡ s
  each : AllAre s os

alike_are : (os : List (Option Ty)) (t s : Ty) → all_alike t os ≡ Some s → AreAlike t s os
alike_are [] t s h = record { same = some_same t s h; each = tt }
alike_are (o ∷ os) t s h =
    let found = then_is (if_alike t o) (λ u. all_alike u os) s h in
    let one = if_alike_is t found.first o found.is in
    let rest = alike_are os found.first s found.gives in
    record { same = one.0 ∙ rest.same; each = (one.1 ∙ ap Some rest.same, rest.each) }

record AreElements (os : List (Option Ty)) (t : Ty) : Type 0 where
  element : Ty
  is : t ≡ Array element (length os)
  each : AllAre element os

elements_are : (os : List (Option Ty)) (t : Ty) → elements_alike os ≡ Some t → AreElements os t
elements_are [] t h = absurd (cc)
elements_are (o ∷ os) t h =
    let first = then_is o (λ u. and_then (all_alike u os) (λ s. Some (Array s (suc (length os))))) t h in
    let rest = then_is (all_alike first.first os) (λ s. Some (Array s (suc (length os)))) t first.gives in
    let all = alike_are os first.first rest.first rest.is in
    record { element = rest.first; is = sym (some_same (Array rest.first (suc (length os))) t rest.gives); each = (first.is ∙ ap Some all.same, all.each) }

heads : {A : Type 0} (x y : A) (xs ys : List A) → (x ∷ xs) ≡ (y ∷ ys) → (x ≡ y) × (xs ≡ ys)
heads x y xs ys h = let first : x ≡ y = cc in let rest : xs ≡ ys = cc in (first, rest)

-- ---- literals

abbrev pub IsValueTyped : Value → Type 0
IsValueTyped v = (t : Ty) → value_type v ≡ Some t → IsOfType t v

values_typed : (vs : List Value) (us : List Ty) → EachHas IsValueTyped vs → map value_type vs ≡ map Some us → AreOfTypes us vs
values_typed [] [] each h = refl
values_typed [] (u ∷ us) each h = absurd (cc)
values_typed (v ∷ vs) [] each h = absurd (cc)
values_typed (v ∷ vs) (u ∷ us) each h =
    let parts = heads (value_type v) (Some u) (map value_type vs) (map Some us) h in
    more_typed u us v vs (each.0 u parts.0) (values_typed vs us each.1 parts.1)

elements_typed : (vs : List Value) (t : Ty) → EachHas IsValueTyped vs → AllAre t (map value_type vs) → list_all (fits t) vs ≡ true
elements_typed [] t each h = refl
elements_typed (v ∷ vs) t each h = and_both (fits t v) (list_all (fits t) vs) (each.0 t h.0) (elements_typed vs t each.1 h.1)

pub value_typed : (v : Value) → IsValueTyped v
value_typed = value_induction IsValueTyped
    (λ x t h.
    let found = where_is (is_sound_word x) (Some (Bits x.width)) t (sym (values.fold-Bits (Option Ty) value_type_step x) ∙ h) in
    subst (λ u. IsOfType u (value.Bits x)) (some_same (Bits x.width) t found.1) (typed_word x.width x (sound_word x found.0)))
    (λ vs each t h.
    let found = then_is (all_some (map value_type vs)) (λ us. Some (Tuple us)) t (sym (values.fold-Tuple (Option Ty) value_type_step vs) ∙ h) in
    subst (λ u. IsOfType u (value.Tuple vs)) (some_same (Tuple found.first) t found.gives) (typed_tuple found.first vs (values_typed vs found.first each (all_there (map value_type vs) found.first found.is))))
    (λ vs each t h.
    let found = elements_are (map value_type vs) t (sym (values.fold-Array (Option Ty) value_type_step vs) ∙ h) in
    subst (λ u. IsOfType u (value.Array vs)) (sym found.is) (typed_array found.element (length (map value_type vs)) vs (sym (length-map vs value_type)) (elements_typed vs found.element each found.each)))

-- ---- arms of which none before fits

fit_alike : (bound : Bindings) (o : Option Bindings) → behind bound o ≡ None → is_fit o ≡ false
fit_alike bound None e = refl
fit_alike bound (Some more) e = absurd (cc)

-- what fits behind an arm that doesn't
others_fit : (ps : List Shape) (arms : List (List Shape)) (v : Value) (bound : Bindings) → first_apart ps v bound ≡ None → some_fits (ps ∷ arms) v ≡ true → some_fits arms v ≡ true
others_fit ps arms v bound n e = sym (ap (λ b. b || some_fits arms v) (fit_alike bound (first_apart ps v []) (sym (first_behind ps v bound) ∙ n))) ∙ e

none_fits : (ps : List Shape) (v : Value) (bound : Bindings) → first_apart ps v bound ≡ None → some_fits (ps ∷ []) v ≡ true → ⊥
none_fits ps v bound n e = let never : false ≡ true = others_fit ps [] v bound n e in cc

-- ---- the claim

abbrev pub SoundBy : CoreDen → Typing → Type 0
SoundBy e q = (functions : FunctionTypes) (calls : Functions) (ts : List Ty) (bound : Bindings) (t : Ty) → FunctionsGive functions calls → AreOfTypes ts bound → q functions ts ≡ Some t → HasValueOf (e calls bound) t

pub record ArmSound (a : CoreArmDen) (q : CoreArmTyping) : Type 0 where
  pub shapes : a.shapes ≡ q.shapes
  pub value : SoundBy a.value q.value

abbrev pub AreSound : List CoreDen → List Typing → Type 0
AreSound [] [] = Unit {0}
AreSound (e ∷ es) (q ∷ qs) = SoundBy e q × AreSound es qs
AreSound _ _ = ⊥

abbrev pub ArmsSound : List CoreArmDen → List CoreArmTyping → Type 0
ArmsSound [] [] = Unit {0}
ArmsSound (e ∷ es) (q ∷ qs) = ArmSound e q × ArmsSound es qs
ArmsSound _ _ = ⊥

-- the operations on arrays, over what their parts come to
abbrev indexed_by : Option (List Value) → Option Word → Option Value
indexed_by o p = with_both o p (λ vs (k : Word). slice_get vs (min k.value (pred (length vs))))

abbrev updated_by : Option (List Value) → Option Word → Value → Option Value
updated_by o p new = with_both o p (λ vs (k : Word). Some (value.Array (if nat_lt k.value (length vs) then set vs k.value new else vs)))

record HasWord (o : Option Word) (w : ℕ) : Type 0 where
  word : Word
  there : o ≡ Some word
  of : IsWordIn w word

record HasElements (o : Option (List Value)) (a : Elements) : Type 0 where
  values : List Value
  there : o ≡ Some values
  count : length values ≡ a.count
  all : list_all (fits a.element) values ≡ true
  some : 1 ≤ a.count

record HaveValues (calls : Functions) (bound : Bindings) (es : List CoreDen) (us : List Ty) : Type 0 where
  values : List Value
  are : map (λ (e : CoreDen). e calls bound) es ≡ map Some values
  typed : AreOfTypes us values

record HaveElements (calls : Functions) (bound : Bindings) (es : List CoreDen) (t : Ty) : Type 0 where
  values : List Value
  are : map (λ (e : CoreDen). e calls bound) es ≡ map Some values
  all : list_all (fits t) values ≡ true
  count : length values ≡ length es

module _ (functions : FunctionTypes) (calls : Functions) (ts : List Ty) (bound : Bindings) (give : FunctionsGive functions calls) (own : AreOfTypes ts bound) where
  word_sound : (e : CoreDen) (q : Typing) (w : ℕ) → SoundBy e q → width_in q functions ts ≡ Some w → HasWord (word_in e calls bound) w
  word_sound e q w s h =
      let found = then_is (q functions ts) bits_width w h in
      let v = s functions calls ts bound found.first give own found.is in
      let x = word_in_value w v.value (subst (λ u. IsOfType u v.value) (bits_type found.first w found.gives).is v.typed) in
      record { word = x.word; there = ap (λ o. and_then o word_of_value) v.is ∙ x.there; of = x.of }

  array_sound : (e : CoreDen) (q : Typing) (a : Elements) → SoundBy e q → typing.array_in q functions ts ≡ Some a → HasElements (array_in e calls bound) a
  array_sound e q a s h =
      let found = then_is (q functions ts) elements_of a h in
      let v = s functions calls ts bound found.first give own found.is in
      let t = array_type found.first a found.gives in
      let f = array_of_type a.element a.count v.value (subst (λ u. IsOfType u v.value) t.is v.typed) in
      record {
        values = f.parts;
        there = ap (λ o. and_then o (λ w. array_values_step (out-Value w))) v.is ∙ (ap (λ w. array_values_step (out-Value w)) f.is ∙ ap array_values_step (outs-Array f.parts));
        count = f.count;
        all = f.all;
        some = t.some;
      }

  each_sound : (es : List CoreDen) (qs : List Typing) (us : List Ty) → AreSound es qs → map (λ (q : Typing). q functions ts) qs ≡ map Some us → HaveValues calls bound es us
  each_sound [] [] [] s h = record { values = []; are = refl; typed = refl }
  each_sound [] [] (u ∷ us) s h = absurd (cc)
  each_sound [] (q ∷ qs) us s h = absurd s
  each_sound (e ∷ es) [] us s h = absurd s
  each_sound (e ∷ es) (q ∷ qs) [] s h = absurd (cc)
  each_sound (e ∷ es) (q ∷ qs) (u ∷ us) s h =
      let parts = heads (q functions ts) (Some u) (map (λ (q : Typing). q functions ts) qs) (map Some us) h in
      let v = s.0 functions calls ts bound u give own parts.0 in
      let rest = each_sound es qs us s.1 parts.1 in
      record { values = v.value ∷ rest.values; are = ap₂ (λ o os. o ∷ os) v.is rest.are; typed = more_typed u us v.value rest.values v.typed rest.typed }

  values_sound : (es : List CoreDen) (qs : List Typing) (us : List Ty) → AreSound es qs → types_in qs functions ts ≡ Some us → (vs : List Value) × (values_in es calls bound ≡ Some vs) × AreOfTypes us vs
  values_sound es qs us s h =
      let all = each_sound es qs us s (all_there (map (λ (q : Typing). q functions ts) qs) us h) in
      (all.values, ap all_some all.are ∙ all_are all.values, all.typed)

  all_sound : (es : List CoreDen) (qs : List Typing) (t : Ty) → AreSound es qs → AllAre t (map (λ (q : Typing). q functions ts) qs) → HaveElements calls bound es t
  all_sound [] [] t s h = record { values = []; are = refl; all = refl; count = refl }
  all_sound [] (q ∷ qs) t s h = absurd s
  all_sound (e ∷ es) [] t s h = absurd s
  all_sound (e ∷ es) (q ∷ qs) t s h =
      let v = s.0 functions calls ts bound t give own h.0 in
      let rest = all_sound es qs t s.1 h.1 in
      record {
        values = v.value ∷ rest.values;
        are = ap₂ (λ o os. o ∷ os) v.is rest.are;
        all = and_both (fits t v.value) (list_all (fits t) rest.values) v.typed rest.all;
        count = ap suc rest.count;
      }

  same_count : (es : List CoreDen) (qs : List Typing) → AreSound es qs → length es ≡ length (map (λ (q : Typing). q functions ts) qs)
  same_count [] [] s = refl
  same_count [] (q ∷ qs) s = absurd s
  same_count (e ∷ es) [] s = absurd s
  same_count (e ∷ es) (q ∷ qs) s = ap suc (same_count es qs s.1)

  -- ---- each expression, over what its parts come to

  array_literal : (es : List CoreDen) (qs : List Typing) (t : Ty) → AreSound es qs → elements_alike (map (λ (q : Typing). q functions ts) qs) ≡ Some t → HasValueOf (and_then (values_in es calls bound) (λ vs. Some (value.Array vs))) t
  array_literal es qs t s h =
      let found = elements_are (map (λ (q : Typing). q functions ts) qs) t h in
      let all = all_sound es qs found.element s found.each in
      so _ (Some (value.Array all.values)) t (ap (λ o. and_then o (λ vs. Some (value.Array vs))) (ap all_some all.are ∙ all_are all.values))
      (retyped _ (Array found.element (length (map (λ (q : Typing). q functions ts) qs))) t (sym found.is)
      (record { value = value.Array all.values; is = refl; typed = typed_array found.element _ all.values (all.count ∙ same_count es qs s) all.all }))

  element_sound : (e : CoreDen) (q : Typing) (k : ℕ) (t : Ty) → SoundBy e q → and_then (and_then (q functions ts) parts_of_tuple) (λ us. slice_get us k) ≡ Some t → HasValueOf (and_then (and_then (e calls bound) (λ v. tuple_values_step (out-Value v))) (λ vs. slice_get vs k)) t
  element_sound e q k t s h =
      let found = then_is (and_then (q functions ts) parts_of_tuple) (λ us. slice_get us k) t h in
      let whole = then_is (q functions ts) parts_of_tuple found.first found.is in
      let v = s functions calls ts bound whole.first give own whole.is in
      let f = tuple_of_type found.first v.value (subst (λ u. IsOfType u v.value) (tuple_type whole.first found.first whole.gives) v.typed) in
      let there : and_then (e calls bound) (λ v. tuple_values_step (out-Value v)) ≡ Some f.parts = ap (λ o. and_then o (λ w. tuple_values_step (out-Value w))) v.is ∙ (ap (λ w. tuple_values_step (out-Value w)) f.is ∙ ap tuple_values_step (outs-Tuple f.parts)) in
      so _ (slice_get f.parts k) t (ap (λ o. and_then o (λ vs. slice_get vs k)) there) (part_typed found.first f.parts k t f.each found.gives)

  index_sound : (e i : CoreDen) (q r : Typing) (t : Ty) → SoundBy e q → SoundBy i r → with_both (typing.array_in q functions ts) (width_in r functions ts) (λ (a : Elements) w. Some a.element) ≡ Some t
      → HasValueOf (with_both (array_in e calls bound) (word_in i calls bound) (λ vs k. slice_get vs (min k.value (pred (length vs))))) t
  index_sound e i q r t s z h =
      let found = both_are (typing.array_in q functions ts) (width_in r functions ts) (λ (a : Elements) w. Some a.element) t h in
      let a = array_sound e q found.first s found.is_first in
      let x = word_sound i r found.second z found.is_second in
      let some = a.some in
      let count = a.count in
      let less : min x.word.value (pred (length a.values)) < length a.values = within (length a.values) x.word.value (omega (arith, some, count)) in
      so (indexed_by (array_in e calls bound) (word_in i calls bound)) (slice_get a.values (min x.word.value (pred (length a.values)))) t (ap₂ indexed_by a.there x.there)
      (retyped (slice_get a.values (min x.word.value (pred (length a.values)))) found.first.element t (some_same found.first.element t found.gives) (element_typed found.first.element a.values (min x.word.value (pred (length a.values))) a.all less))

  update_sound : (e i n : CoreDen) (q r p : Typing) (t : Ty) → SoundBy e q → SoundBy i r → SoundBy n p → with_both (typing.array_in q functions ts) (width_in r functions ts) (λ (a : Elements) w. and_then (if_alike a.element (p functions ts)) (λ u. Some (Array a.element a.count))) ≡ Some t
      → HasValueOf (and_then (n calls bound) (λ new. with_both (array_in e calls bound) (word_in i calls bound) (λ vs k. Some (value.Array (if nat_lt k.value (length vs) then set vs k.value new else vs))))) t
  update_sound e i n q r p t s z y h =
      let found = both_are (typing.array_in q functions ts) (width_in r functions ts) (λ (a : Elements) w. and_then (if_alike a.element (p functions ts)) (λ u. Some (Array a.element a.count))) t h in
      let a = array_sound e q found.first s found.is_first in
      let x = word_sound i r found.second z found.is_second in
      let new = then_is (if_alike found.first.element (p functions ts)) (λ u. Some (Array found.first.element found.first.count)) t found.gives in
      let one = if_alike_is found.first.element new.first (p functions ts) new.is in
      let v = y functions calls ts bound new.first give own one.1 in
      so (and_then (n calls bound) (updated_by (array_in e calls bound) (word_in i calls bound))) (updated_by (Some a.values) (Some x.word) v.value) t
      (ap (λ o. and_then o (updated_by (array_in e calls bound) (word_in i calls bound))) v.is ∙ ap₂ (λ o p. updated_by o p v.value) a.there x.there)
      (some_of (value.Array (if nat_lt x.word.value (length a.values) then set a.values x.word.value v.value else a.values)) (Array found.first.element found.first.count) t new.gives
      (updated_typed found.first.element found.first.count a.values x.word.value v.value a.count a.all (subst (λ u. IsOfType u v.value) (sym one.0) v.typed)))

  bind_sound : (e body : CoreDen) (q r : Typing) (shape : Shape) (t : Ty) → SoundBy e q → SoundBy body r → and_then (q functions ts) (λ u. and_then (binds_types true shape u ts) (r functions)) ≡ Some t → HasValueOf (and_then (e calls bound) (λ v. and_then (taken_apart shape v bound) (body calls))) t
  bind_sound e body q r shape t s z h =
      let found = then_is (q functions ts) (λ u. and_then (binds_types true shape u ts) (r functions)) t h in
      let inner = then_is (binds_types true shape found.first ts) (r functions) t found.gives in
      let v = s functions calls ts bound found.first give own found.is in
      let more = (is_shape shape).always found.first ts inner.first v.value bound v.typed own inner.is in
      so _ (body calls more.more) t (ap (λ o. and_then o (λ v. and_then (taken_apart shape v bound) (body calls))) v.is ∙ ap (λ o. and_then o (body calls)) more.is)
      (z functions calls inner.first more.more t give more.typed inner.gives)

  choose_sound : (c l r : CoreDen) (p q s : Typing) (t : Ty) → SoundBy c p → SoundBy l q → SoundBy r s → and_then (width_in p functions ts) (λ w. where_true (w == 1) (and_then (q functions ts) (λ u. if_alike u (s functions ts)))) ≡ Some t
      → HasValueOf (chosen (and_then (word_in c calls bound) is_one) (l calls bound) (r calls bound)) t
  choose_sound c l r p q s t sc sl sr h =
      let found = then_is (width_in p functions ts) (λ w. where_true (w == 1) (and_then (q functions ts) (λ u. if_alike u (s functions ts)))) t h in
      let test = where_is (found.first == 1) (and_then (q functions ts) (λ u. if_alike u (s functions ts))) t found.gives in
      let first = then_is (q functions ts) (λ u. if_alike u (s functions ts)) t test.1 in
      let one = if_alike_is first.first t (s functions ts) first.gives in
      let x = word_sound c p found.first sc found.is in
      let width : x.word.width ≡ 1 = x.of.width ∙ same_number found.first 1 test.0 in
      let same : (x.word.width == 1) ≡ true = grind (arith, nat_tests, width) in
      let there : and_then (word_in c calls bound) is_one ≡ Some (x.word.value == 1) = ap (λ o. and_then o is_one) x.there ∙ where_so (x.word.width == 1) (Some (x.word.value == 1)) same in
      so _ (chosen (Some (x.word.value == 1)) (l calls bound) (r calls bound)) t (ap (λ o. chosen o (l calls bound) (r calls bound)) there)
      (by (x.word.value == 1) (retyped _ first.first t one.0 (sl functions calls ts bound first.first give own first.is)) (sr functions calls ts bound t give own one.1))
    where
      by : (b : Bool) → HasValueOf (l calls bound) t → HasValueOf (r calls bound) t → HasValueOf (chosen (Some b) (l calls bound) (r calls bound)) t
      by true x y = x
      by false x y = y

  -- ---- arms

  last_sound : (whole : Bool) (a : CoreArmDen) (q : CoreArmTyping) (s t : Ty) (v : Value) → ArmSound a q → IsOfType s v → (whole ≡ true → some_fits (q.shapes ∷ []) v ≡ true) → and_then (last_binds whole q.shapes s ts) (q.value functions) ≡ Some t
      → HasValueOf (arm_or calls a.value (first_apart a.shapes v bound) (a.value calls bound)) t
  last_sound whole a q s t v z h w e =
      so _ (arm_or calls a.value (first_apart q.shapes v bound) (a.value calls bound)) t (ap (λ ps. arm_or calls a.value (first_apart ps v bound) (a.value calls bound)) z.shapes) (by (first_apart q.shapes v bound) refl)
    where
      found : IsThen (last_binds whole q.shapes s ts) (q.value functions) t
      found = then_is (last_binds whole q.shapes s ts) (q.value functions) t e

      inner : IsThen (arm_binds q.shapes s ts) (λ more. where_true (whole || (is_certain q.shapes s ts || length more == length ts)) (Some more)) found.first
      inner = then_is (arm_binds q.shapes s ts) (λ more. where_true (whole || (is_certain q.shapes s ts || length more == length ts)) (Some more)) found.first found.is

      test : ((whole || (is_certain q.shapes s ts || length inner.first == length ts)) ≡ true) × (Some inner.first ≡ Some found.first)
      test = where_is (whole || (is_certain q.shapes s ts || length inner.first == length ts)) (Some inner.first) found.first inner.gives

      typed : q.value functions inner.first ≡ Some t
      typed = ap (q.value functions) (some_same inner.first found.first test.1) ∙ found.gives

      none : (b : Bool) → is_certain q.shapes s ts ≡ b → (b || length inner.first == length ts) ≡ true → first_apart q.shapes v bound ≡ None → HasValueOf (a.value calls bound) t
      none true c k n = absurd (certain_fits q.shapes s ts v bound h own c n)
      none false c k n =
          let same = same_length ts inner.first (arm_keeps q.shapes s ts inner.first inner.is) (same_number (length inner.first) (length ts) k) in
          z.value functions calls ts bound t give own (ap (q.value functions) (sym same) ∙ typed)

      by_whole : (b : Bool) → whole ≡ b → (b || (is_certain q.shapes s ts || length inner.first == length ts)) ≡ true → first_apart q.shapes v bound ≡ None → HasValueOf (a.value calls bound) t
      by_whole true k test n = absurd (none_fits q.shapes v bound n (w k))
      by_whole false k test n = none (is_certain q.shapes s ts) refl test n

      by : (o : Option Bindings) → first_apart q.shapes v bound ≡ o → HasValueOf (arm_or calls a.value o (a.value calls bound)) t
      by None k = by_whole whole refl test.0 k
      by (Some more) k = z.value functions calls inner.first more t give (arm_fits q.shapes s ts inner.first v bound h own inner.is more k) typed

  arm_sound : (a : CoreArmDen) (q : CoreArmTyping) (s t : Ty) (v : Value) (rest : Option Value) → ArmSound a q → IsOfType s v → and_then (arm_binds q.shapes s ts) (q.value functions) ≡ Some t → (first_apart q.shapes v bound ≡ None → HasValueOf rest t)
      → HasValueOf (arm_or calls a.value (first_apart a.shapes v bound) rest) t
  arm_sound a q s t v rest z h e behind =
      so _ (arm_or calls a.value (first_apart q.shapes v bound) rest) t (ap (λ ps. arm_or calls a.value (first_apart ps v bound) rest) z.shapes) (by (first_apart q.shapes v bound) refl)
    where
      inner : IsThen (arm_binds q.shapes s ts) (q.value functions) t
      inner = then_is (arm_binds q.shapes s ts) (q.value functions) t e

      by : (o : Option Bindings) → first_apart q.shapes v bound ≡ o → HasValueOf (arm_or calls a.value o rest) t
      by None k = behind k
      by (Some more) k = z.value functions calls inner.first more t give (arm_fits q.shapes s ts inner.first v bound h own inner.is more k) inner.gives

  select_sound : (whole : Bool) (as' : List CoreArmDen) (qs : List CoreArmTyping) (s t : Ty) (v : Value) → ArmsSound as' qs → IsOfType s v → (whole ≡ true → some_fits (shapes_of qs) v ≡ true) → arms_type whole functions ts s qs ≡ Some t
      → HasValueOf (select as' v calls bound) t
  select_sound whole [] [] s t v z h w e = absurd (cc)
  select_sound whole [] (q ∷ qs) s t v z h w e = absurd z
  select_sound whole (a ∷ as') [] s t v z h w e = absurd z
  select_sound whole (a ∷ []) (q ∷ []) s t v z h w e = last_sound whole a q s t v z.0 h w e
  select_sound whole (a ∷ []) (q ∷ r ∷ qs) s t v z h w e = absurd z.1
  select_sound whole (a ∷ c ∷ as') (q ∷ []) s t v z h w e = absurd z.1
  select_sound whole (a ∷ c ∷ as') (q ∷ r ∷ qs) s t v z h w e =
      let found = then_is (and_then (arm_binds q.shapes s ts) (q.value functions)) (λ u. if_alike u (arms_type whole functions ts s (r ∷ qs))) t e in
      let one = if_alike_is found.first t (arms_type whole functions ts s (r ∷ qs)) found.gives in
      arm_sound a q s t v (select (c ∷ as') v calls bound) z.0 h (found.is ∙ ap Some one.0)
      (λ n. select_sound whole (c ∷ as') (r ∷ qs) s t v z.1 h (λ k. others_fit q.shapes (shapes_of (r ∷ qs)) v bound n (w k)) one.1)

  -- ---- loops

  turns_sound : (body : Value → Value → Option Value) (t : Ty) (w : ℕ) → ((i x : Value) → IsOfType (Bits w) i → IsOfType t x → HasValueOf (body i x) t) → (n : ℕ) (i : Word) (x : Value) → IsWordIn w i → IsOfType t x → HasValueOf (turns body n i x) t
  turns_sound body t w each zero i x h k = record { value = x; is = refl; typed = k }
  turns_sound body t w each (suc n) i x h k =
      let one = each (value.Bits i) x (typed_word w i h) k in
      so _ (turns body n (op.add i (word i.width 1)) one.value) t (ap (λ o. and_then o (turns body n (op.add i (word i.width 1)))) one.is) (turns_sound body t w each n (op.add i (word i.width 1)) one.value (next_in w i h) one.typed)

  loop_sound : (n : ℕ) (from : Word) (index acc : Shape) (body start : CoreDen) (q r : Typing) (t : Ty) → SoundBy body q → SoundBy start r
      → where_true (is_sound_word from) (and_then (r functions ts) (λ u. and_then (binds_types true index (Bits from.width) ts) (λ inner. and_then (binds_types true acc u inner) (λ both. if_alike u (q functions both))))) ≡ Some t
      → HasValueOf (and_then (start calls bound) (turns (one_turn index acc body calls bound) n from)) t
  loop_sound n from index acc body start q r t sb ss h =
      let test = where_is (is_sound_word from) _ t h in
      let found = then_is (r functions ts) (λ u. and_then (binds_types true index (Bits from.width) ts) (λ inner. and_then (binds_types true acc u inner) (λ both. if_alike u (q functions both)))) t test.1 in
      let inner = then_is (binds_types true index (Bits from.width) ts) (λ inner. and_then (binds_types true acc found.first inner) (λ both. if_alike found.first (q functions both))) t found.gives in
      let all = then_is (binds_types true acc found.first inner.first) (λ both. if_alike found.first (q functions both)) t inner.gives in
      let one = if_alike_is found.first t (q functions all.first) all.gives in
      let v = ss functions calls ts bound found.first give own found.is in
      so _ (turns (one_turn index acc body calls bound) n from v.value) t (ap (λ o. and_then o (turns (one_turn index acc body calls bound) n from)) v.is)
      (turns_sound (one_turn index acc body calls bound) t from.width
      (λ i x k l.
      let first = (is_shape index).always (Bits from.width) ts inner.first i bound k own inner.is in
      let second = (is_shape acc).always found.first inner.first all.first x first.more (subst (λ u. IsOfType u x) (sym one.0) l) first.typed all.is in
      so _ (body calls second.more) t (ap (λ o. and_then o (λ inner. and_then (taken_apart acc x inner) (body calls))) first.is ∙ ap (λ o. and_then o (body calls)) second.is)
      (sb functions calls all.first second.more t give second.typed one.1))
      n from v.value (sound_word from test.0) (subst (λ u. IsOfType u v.value) one.0 v.typed))

-- ---- each layer

literal_sound : (v : Value) → SoundBy (core_step (CoreExpr-F.Literal v)) (typing_step (CoreExpr-F.Literal v))
literal_sound v functions calls ts bound t give own h = record { value = v; is = refl; typed = value_typed v t h }

abbrev arm_value : Arm → CoreArmDen
arm_value = fold-Arm CoreDen CoreArmDen core_step arm_step

abbrev arm_type : Arm → CoreArmTyping
arm_type = fold-Arm Typing CoreArmTyping typing_step arm_typing

abbrev HeldExpr : Type 0
HeldExpr = (e : CoreExpr) × SoundBy (core_value e) (core_type e)

abbrev HeldArm : Type 0
HeldArm = (a : Arm) × ArmSound (arm_value a) (arm_type a)

abbrev expr_in : HeldExpr → CoreExpr
expr_in k = k.0

abbrev arm_in : HeldArm → Arm
arm_in k = k.0

exprs_sound : (ks : List HeldExpr) → AreSound (map core_value (map expr_in ks)) (map core_type (map expr_in ks))
exprs_sound [] = tt
exprs_sound (k ∷ ks) = (k.1, exprs_sound ks)

arms_sound : (ks : List HeldArm) → ArmsSound (map arm_value (map arm_in ks)) (map arm_type (map arm_in ks))
arms_sound [] = tt
arms_sound (k ∷ ks) = (k.1, arms_sound ks)

abbrev values_layer : CoreExpr-F HeldExpr HeldArm → CoreExpr-F CoreDen CoreArmDen
values_layer x = map-CoreExpr CoreExpr Arm CoreDen CoreArmDen core_value arm_value (map-CoreExpr HeldExpr HeldArm CoreExpr Arm expr_in arm_in x)

abbrev types_layer : CoreExpr-F HeldExpr HeldArm → CoreExpr-F Typing CoreArmTyping
types_layer x = map-CoreExpr CoreExpr Arm Typing CoreArmTyping core_type arm_type (map-CoreExpr HeldExpr HeldArm CoreExpr Arm expr_in arm_in x)

layer_sound : (x : CoreExpr-F HeldExpr HeldArm) → SoundBy (core_step (values_layer x)) (typing_step (types_layer x))
layer_sound (CoreExpr-F.Literal v) functions calls ts bound t give own h = literal_sound v functions calls ts bound t give own h
layer_sound (CoreExpr-F.Slot k) functions calls ts bound t give own h = part_typed ts bound k t own h
layer_sound (CoreExpr-F.Tuple ks) functions calls ts bound t give own h =
    let found = then_is (types_in (map core_type (map expr_in ks)) functions ts) (λ us. Some (Tuple us)) t h in
    let all = values_sound functions calls ts bound give own (map core_value (map expr_in ks)) (map core_type (map expr_in ks)) found.first (exprs_sound ks) found.is in
    so _ (Some (value.Tuple all.0)) t (ap (λ o. and_then o (λ vs. Some (value.Tuple vs))) all.1) (some_of (value.Tuple all.0) (Tuple found.first) t found.gives (typed_tuple found.first all.0 all.2))
layer_sound (CoreExpr-F.Array ks) functions calls ts bound t give own h = array_literal functions calls ts bound give own (map core_value (map expr_in ks)) (map core_type (map expr_in ks)) t (exprs_sound ks) h
layer_sound (CoreExpr-F.Unary o k) functions calls ts bound t give own h =
    let found = then_is (width_in (core_type k.0) functions ts) (λ w. Some (unary_type o w)) t h in
    let x = word_sound functions calls ts bound give own (core_value k.0) (core_type k.0) found.first k.1 found.is in
    so _ (Some (value.Bits (unary_word o x.word))) t (ap (λ p. and_then p (λ w. Some (value.Bits (unary_word o w)))) x.there) (some_of _ (unary_type o found.first) t found.gives (unary_in o found.first x.word x.of))
layer_sound (CoreExpr-F.Binary o k l) functions calls ts bound t give own h =
    let found = both_are (width_in (core_type k.0) functions ts) (width_in (core_type l.0) functions ts) (binary_type o) t h in
    let x = word_sound functions calls ts bound give own (core_value k.0) (core_type k.0) found.first k.1 found.is_first in
    let y = word_sound functions calls ts bound give own (core_value l.0) (core_type l.0) found.second l.1 found.is_second in
    so _ (binary_words o x.word y.word) t (ap₂ (λ p q. with_both p q (binary_words o)) x.there y.there) (binary_in o found.first found.second t x.word y.word found.gives x.of y.of)
layer_sound (CoreExpr-F.Cast sign w k) functions calls ts bound t give own h =
    let found = then_is (width_in (core_type k.0) functions ts) (λ v. where_true (is_width w) (Some (Bits w))) t h in
    let test = where_is (is_width w) (Some (Bits w)) t found.gives in
    let bounds = width_bounds w test.0 in
    let x = word_sound functions calls ts bound give own (core_value k.0) (core_type k.0) found.first k.1 found.is in
    so _ (Some (value.Bits (cast_word (is_signed_read sign) w x.word))) t
    (ap (λ o. and_then o (λ (x : Word). where_true (is_width w) (Some (value.Bits (cast_word (is_signed_read sign) w x))))) x.there ∙ where_so (is_width w) _ test.0)
    (some_of _ (Bits w) t test.1 (typed_word w _ (cast_in (is_signed_read sign) found.first w x.word bounds.0 bounds.1 x.of)))
layer_sound (CoreExpr-F.Slice k from w) functions calls ts bound t give own h =
    let found = then_is (width_in (core_type k.0) functions ts) (λ v. where_true (nat_lt 0 w && nat_le (from + w) v) (Some (Bits w))) t h in
    let test = where_is (nat_lt 0 w && nat_le (from + w) found.first) (Some (Bits w)) t found.gives in
    let parts = both (nat_lt 0 w) (nat_le (from + w) found.first) test.0 in
    let x = word_sound functions calls ts bound give own (core_value k.0) (core_type k.0) found.first k.1 found.is in
    let most = x.of.most in
    let positive : 0 < w = grind (arith, nat_tests, parts.0) in
    let inside : from + w ≤ found.first = grind (arith, nat_tests, parts.1) in
    let some : 1 ≤ w = omega (arith, positive) in
    let few : w ≤ 128 = omega (arith, inside, most) in
    let there : (nat_lt 0 w && nat_le (from + w) x.word.width) ≡ true = and_both _ _ parts.0 (ap (nat_le (from + w)) x.of.width ∙ parts.1) in
    so _ (Some (value.Bits (op.slice x.word from w))) t
    (ap (λ o. and_then o (λ (x : Word). where_true (nat_lt 0 w && nat_le (from + w) x.width) (Some (value.Bits (op.slice x from w))))) x.there ∙ where_so _ _ there)
    (some_of _ (Bits w) t test.1 (typed_word w _ (slice_in w _ some few)))
layer_sound (CoreExpr-F.Part k l w) functions calls ts bound t give own h =
    let found = both_are (width_in (core_type k.0) functions ts) (width_in (core_type l.0) functions ts) (λ v j. where_true (is_width w) (Some (Bits w))) t h in
    let test = where_is (is_width w) (Some (Bits w)) t found.gives in
    let bounds = width_bounds w test.0 in
    let x = word_sound functions calls ts bound give own (core_value k.0) (core_type k.0) found.first k.1 found.is_first in
    let y = word_sound functions calls ts bound give own (core_value l.0) (core_type l.0) found.second l.1 found.is_second in
    so _ (Some (value.Bits (op.dyn_slice x.word y.word w))) t
    (ap₂ (λ o p. with_both o p (λ x k. where_true (is_width w) (Some (value.Bits (op.dyn_slice x k w))))) x.there y.there ∙ where_so (is_width w) _ test.0)
    (some_of _ (Bits w) t test.1 (typed_word w _ (slice_in w _ bounds.0 bounds.1)))
layer_sound (CoreExpr-F.Element k n) functions calls ts bound t give own h = element_sound functions calls ts bound give own (core_value k.0) (core_type k.0) n t k.1 h
layer_sound (CoreExpr-F.Index k l) functions calls ts bound t give own h = index_sound functions calls ts bound give own (core_value k.0) (core_value l.0) (core_type k.0) (core_type l.0) t k.1 l.1 h
layer_sound (CoreExpr-F.Update k l m) functions calls ts bound t give own h = update_sound functions calls ts bound give own (core_value k.0) (core_value l.0) (core_value m.0) (core_type k.0) (core_type l.0) (core_type m.0) t k.1 l.1 m.1 h
layer_sound (CoreExpr-F.Bind k shape l) functions calls ts bound t give own h = bind_sound functions calls ts bound give own (core_value k.0) (core_value l.0) (core_type k.0) (core_type l.0) shape t k.1 l.1 h
layer_sound (CoreExpr-F.Choose k l m) functions calls ts bound t give own h = choose_sound functions calls ts bound give own (core_value k.0) (core_value l.0) (core_value m.0) (core_type k.0) (core_type l.0) (core_type m.0) t k.1 l.1 m.1 h
layer_sound (CoreExpr-F.Select k arms) functions calls ts bound t give own h =
    let qs = map arm_type (map arm_in arms) in
    let found = then_is (core_type k.0 functions ts) (λ s. arms_type (all_fit (shapes_of qs) s) functions ts s qs) t h in
    let v = k.1 functions calls ts bound found.first give own found.is in
    so _ (select (map arm_value (map arm_in arms)) v.value calls bound) t (ap (λ o. and_then o (λ v. select (map arm_value (map arm_in arms)) v calls bound)) v.is)
    (select_sound functions calls ts bound give own (all_fit (shapes_of qs) found.first) (map arm_value (map arm_in arms)) qs found.first t v.value (arms_sound arms) v.typed (λ e. value_fits (shapes_of qs) found.first v.value e v.typed) found.gives)
layer_sound (CoreExpr-F.Loop n from index acc k l) functions calls ts bound t give own h = loop_sound functions calls ts bound give own n from index acc (core_value k.0) (core_value l.0) (core_type k.0) (core_type l.0) t k.1 l.1 h
layer_sound (CoreExpr-F.Call f ks) functions calls ts bound t give own h =
    let found = then_is (types_in (map core_type (map expr_in ks)) functions ts) (functions f) t h in
    let all = values_sound functions calls ts bound give own (map core_value (map expr_in ks)) (map core_type (map expr_in ks)) found.first (exprs_sound ks) found.is in
    so _ (calls f all.0) t (ap (λ o. and_then o (calls f)) all.1) (give f found.first all.0 t found.gives all.2)

-- ---- each tree

step_expr : (x : CoreExpr-F CoreExpr Arm) (y : CoreExpr-F HeldExpr HeldArm) → map-CoreExpr HeldExpr HeldArm CoreExpr Arm expr_in arm_in y ≡ x → SoundBy (core_value (roll-CoreExpr x)) (core_type (roll-CoreExpr x))
step_expr x y is =
    subst (λ z. SoundBy (core_value (roll-CoreExpr z)) (core_type (roll-CoreExpr z))) is
    (subst (λ e. SoundBy e (core_type (roll-CoreExpr (map-CoreExpr HeldExpr HeldArm CoreExpr Arm expr_in arm_in y)))) (sym (fold-roll-CoreExpr CoreDen CoreArmDen core_step arm_step (map-CoreExpr HeldExpr HeldArm CoreExpr Arm expr_in arm_in y)))
    (subst (λ q. SoundBy (core_step (values_layer y)) q) (sym (fold-roll-CoreExpr Typing CoreArmTyping typing_step arm_typing (map-CoreExpr HeldExpr HeldArm CoreExpr Arm expr_in arm_in y))) (layer_sound y)))

step_arm : (x : Arm-F CoreExpr Arm) (y : Arm-F HeldExpr HeldArm) → map-Arm HeldExpr HeldArm CoreExpr Arm expr_in arm_in y ≡ x → ArmSound (arm_value (roll-Arm x)) (arm_type (roll-Arm x))
step_arm x y is =
    subst (λ z. ArmSound (arm_value (roll-Arm z)) (arm_type (roll-Arm z))) is
    (subst (λ a. ArmSound a (arm_type (roll-Arm (map-Arm HeldExpr HeldArm CoreExpr Arm expr_in arm_in y)))) (sym (fold-roll-Arm CoreDen CoreArmDen core_step arm_step (map-Arm HeldExpr HeldArm CoreExpr Arm expr_in arm_in y)))
    (subst (λ q. ArmSound (arm_step (map-Arm CoreExpr Arm CoreDen CoreArmDen core_value arm_value (map-Arm HeldExpr HeldArm CoreExpr Arm expr_in arm_in y))) q) (sym (fold-roll-Arm Typing CoreArmTyping typing_step arm_typing (map-Arm HeldExpr HeldArm CoreExpr Arm expr_in arm_in y)))
    (record { shapes = refl; value = y.value.1 })))

pub expressions_sound : (e : CoreExpr) → SoundBy (core_value e) (core_type e)
expressions_sound = ind-CoreExpr (λ e. SoundBy (core_value e) (core_type e)) (λ a. ArmSound (arm_value a) (arm_type a)) step_expr step_arm
