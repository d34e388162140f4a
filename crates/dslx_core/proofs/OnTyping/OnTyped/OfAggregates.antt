-- What tuples, arrays and structs give, and what takes them apart.
use Rattle.std.proofs.Common.{◌≡◌, ◌++◌, ◌<◌, ℕ, zero, suc, min, length, Bool, true, not, if◌then◌else◌, List, [], ◌∷◌, map, Option, Some, None, slice_get, arith, refl, sym, ap, subst, ◌∙◌}
use mathlib.Core.Bool.{true≢false}
use Rattle.std.specs.List.{list_all}
use Rattle.xb_span.specs.declared.span.Span.{Span}
use Rattle.dslx_meaning.specs.Lists.{all_some, and_then, with_both}
use Rattle.dslx_meaning.specs.Values.{tuple_step, array_step, amount_in}
use Rattle.dslx_meaning.specs.Operators.{index_value, element_value, element_or_last}
use Rattle.dslx_meaning.specs.declared.ty.DslxType.{DslxType, out-DslxType}
use Rattle.dslx_meaning.specs.declared.ty.DslxType as ty
use Rattle.dslx_meaning.specs.declared.ty.DslxType.TheOpen.{DslxType-F}
use Rattle.dslx_meaning.specs.declared.ty.DslxType.TheViews as type_views
use Rattle.dslx_meaning.specs.declared.value.DslxValue.{DslxValue, out-DslxValue}
use Rattle.dslx_meaning.specs.declared.value.DslxValue as value
use Rattle.dslx_meaning.specs.declared.value.DslxValue.TheViews as views
use Rattle.dslx_meaning.specs.Rules.TypeEnvs.{TypeEnv, ExprPair, has_broken, alone, types_of, faults_of_all}
use Rattle.dslx_meaning.specs.Rules.ConstantRules.{is_unsigned, is_zero}
use Rattle.dslx_meaning.specs.Rules.OperatorRules.{unless_type}
use Rattle.dslx_meaning.specs.Rules.AggregateRules.{array_parts, array_in, is_array, element_type, element_alone, tuple_typing, index_typing, part_type, tuple_parts}
use Rattle.dslx_core.proofs.Lemmas.Typing.Laws.{and_true, is_unsigned_value}
use Rattle.dslx_core.specs.Typing.Typed.Kinds.{each_of, is_of, tuple_of}
use Rattle.dslx_core.specs.Typing.Typed.Declared.{Declarations, IsDeclared, AllDeclared}
use Rattle.dslx_core.specs.Typing.Typed.Given.{GivesOf, GivesItsType, EachGives}
use Rattle.dslx_core.proofs.OnTyping.OnTyped.TypingRelations.{none_some, same_some, unbroken_parts, test_holds, settled_type}
use Rattle.dslx_core.proofs.OnTyping.OnTyped.OfTypes.{one_type, of_tuple, is_tuple_of, is_array_of}
use Rattle.dslx_core.proofs.OnTyping.OnTyped.OneName.{tuple_declared, parts_declared, element_declared}
use Rattle.dslx_core.proofs.Lemmas.Typing.Typed.OfLists.{all_there, all_alone_given, element_types}

-- ---- what is bound to an option

pub and_then_type : {A B : Type 0} (o : Option A) (f : A → Option B) (b : B) → and_then o f ≡ Some b → (a : A) × (o ≡ Some a) × (f a ≡ Some b)
and_then_type None f b e = none_some b e
and_then_type (Some a) f b e = (a, refl, e)

-- ---- tuples

pub tuple_gives : (types : Declarations) (span : Span) (context : TypeEnv) (es : List ExprPair) (xs : List (Option DslxValue))
    → EachGives types context es xs → GivesItsType types (tuple_typing span context es) (and_then (all_some xs) (λ vs. Some (value.Tuple vs)))
tuple_gives types span context es xs h t e =
    let js = map (element_alone context) es in
    let s = settled_type (and_then (all_some (types_of js)) (λ ts. Some (ty.Tuple ts))) (faults_of_all js) t e in
    let q = and_then_type (all_some (types_of js)) (λ ts. Some (ty.Tuple ts)) t s.1 in
    let all = all_alone_given types context es xs q.0 h (sym (element_types context es) ∙ all_there (types_of js) q.0 q.1) in
    let is = same_some (ty.Tuple q.0) t q.2 in
    record {
      value = value.Tuple all.values;
      is = ap (λ o. and_then o (λ vs. Some (value.Tuple vs))) all.are;
      of = ap (λ u. is_of u (value.Tuple all.values)) (sym is) ∙ of_tuple q.0 (value.Tuple all.values) ∙ ap (tuple_of (map is_of q.0)) (views.outs-Tuple all.values) ∙ all.of;
      declared = subst (IsDeclared types) is (tuple_declared types q.0 all.declared);
    }

-- the part of a place
pub part_of : (types : Declarations) (ts : List DslxType) (vs : List DslxValue) (k : ℕ) (t : DslxType) → each_of (map is_of ts) vs ≡ true → AllDeclared types ts → slice_get ts k ≡ Some t
    → GivesOf types t (slice_get vs k)
part_of types [] vs k t h d e = none_some t e
part_of types (u ∷ ts) [] k t h d e = absurd (true≢false (sym h))
part_of types (u ∷ ts) (v ∷ vs) zero t h d e =
    let q = and_true (is_of u v) (each_of (map is_of ts) vs) h in
    let is = same_some u t e in
    record { value = v; is = refl; of = ap (λ x. is_of x v) (sym is) ∙ q.0; declared = subst (IsDeclared types) is d.0 }
part_of types (u ∷ ts) (v ∷ vs) (suc k) t h d e = part_of types ts vs k t (and_true (is_of u v) (each_of (map is_of ts) vs) h).1 d.1 e

-- a type that has this part is a tuple
tuple_with : (t u : DslxType) (k : ℕ) → part_type t k ≡ Some u → (ts : List DslxType) × (t ≡ ty.Tuple ts) × (slice_get ts k ≡ Some u)
tuple_with t u k e = by_level (out-DslxType t) refl e
  where
    by_level : (l : DslxType-F DslxType) → out-DslxType t ≡ l → slice_get (tuple_parts l) k ≡ Some u → (ts : List DslxType) × (t ≡ ty.Tuple ts) × (slice_get ts k ≡ Some u)
    by_level (DslxType-F.Tuple ts) q h = (ts, sym (type_views.roll-out-DslxType t) ∙ ap type_views.roll-DslxType q ∙ type_views.rolls-Tuple ts, h)
    by_level (DslxType-F.Bits s w) q h = none_some u h
    by_level (DslxType-F.Array v n) q h = none_some u h
    by_level (DslxType-F.Struct name fields us) q h = none_some u h
    by_level (DslxType-F.Enum name s w) q h = none_some u h
    by_level DslxType-F.Token q h = none_some u h

pub tuple_part_given : (types : Declarations) (whole t : DslxType) (k : ℕ) (x : Option DslxValue) → GivesOf types whole x → part_type whole k ≡ Some t
    → GivesOf types t (and_then x (λ v. element_value v k))
tuple_part_given types whole t k x g e =
    let q = tuple_with whole t k e in
    let r = is_tuple_of q.0 g.value (ap (λ u. is_of u g.value) (sym q.1) ∙ g.of) in
    let p = part_of types q.0 r.0 k t r.2 (parts_declared types q.0 (subst (IsDeclared types) q.1 g.declared)) q.2 in
    record {
      value = p.value;
      is = ap (λ o. and_then o (λ v. element_value v k)) g.is ∙ ap (λ l. and_then (tuple_step l) (λ vs. slice_get vs k)) r.1 ∙ p.is;
      of = p.of;
      declared = p.declared;
    }

-- ---- arrays

-- a type that is an array
pub array_with : (t : DslxType) (p : DslxType × ℕ) → array_in t ≡ Some p → t ≡ ty.Array p.0 p.1
array_with t p e = by_level (out-DslxType t) refl e
  where
    by_level : (l : DslxType-F DslxType) → out-DslxType t ≡ l → array_parts l ≡ Some p → t ≡ ty.Array p.0 p.1
    by_level (DslxType-F.Array u n) q h =
        sym (type_views.roll-out-DslxType t) ∙ ap type_views.roll-DslxType q ∙ type_views.rolls-Array u n ∙ (λ i. ty.Array (same_some (u, n) p h i).0 (same_some (u, n) p h i).1)
    by_level (DslxType-F.Tuple ts) q h = none_some p h
    by_level (DslxType-F.Bits s w) q h = none_some p h
    by_level (DslxType-F.Struct name fields us) q h = none_some p h
    by_level (DslxType-F.Enum name s w) q h = none_some p h
    by_level DslxType-F.Token q h = none_some p h

-- a place of a list that isn't past its end
there : (test : DslxValue → Bool) (vs : List DslxValue) (k : ℕ) → k < length vs → list_all test vs ≡ true → (v : DslxValue) × (slice_get vs k ≡ Some v) × (test v ≡ true)
there test [] k e h = absurd (past e)
  where
    past : k < 0 → ⊥
    past less = omega (arith, less)
there test (v ∷ vs) zero e h = (v, refl, (and_true (test v) (list_all test vs) h).0)
there test (v ∷ vs) (suc k) e h = there test vs k (omega (arith, e)) (and_true (test v) (list_all test vs) h).1

-- the element of a place, the last one past the end
some_element : (test : DslxValue → Bool) (vs : List DslxValue) (k : ℕ) → not (is_zero (length vs)) ≡ true → list_all test vs ≡ true → (v : DslxValue) × (element_or_last vs k ≡ Some v) × (test v ≡ true)
some_element test [] k e h = absurd (true≢false (sym e))
some_element test (v ∷ vs) k e h =
    let less : min k (length vs) < suc (length vs) = omega arith in
    there test (v ∷ vs) (min k (length vs)) less h

pub index_gives : (types : Declarations) (span : Span) (context : TypeEnv) (e i : ExprPair) (x y : Option DslxValue)
    → GivesItsType types (alone context e) x → GivesItsType types (alone context i) y → GivesItsType types (index_typing span context e i) (with_both x y index_value)
index_gives types span context e i x y p q t h =
    let whole = alone context e in
    let place = alone context i in
    let s = settled_type (and_then place.ty (λ k. element_type (and_then whole.ty array_in)))
    (((whole.faults ++ place.faults) ++ unless_type is_array 19 span whole.ty) ++ unless_type is_unsigned 19 span place.ty) t h in
    let f = unbroken_parts ((whole.faults ++ place.faults) ++ unless_type is_array 19 span whole.ty) (unless_type is_unsigned 19 span place.ty) s.0 in
    let k = and_then_type place.ty (λ k. element_type (and_then whole.ty array_in)) t s.1 in
    let a = element_of (and_then whole.ty array_in) k.2 in
    let w = and_then_type whole.ty array_in a.0 a.1 in
    indexed w.0 k.0 a.0 (p w.0 w.1) (q k.0 k.1) (array_with w.0 a.0 w.2)
    (test_holds (is_unsigned k.0) 19 span (ap (λ m. has_broken (unless_type is_unsigned 19 span m)) (sym k.1) ∙ f.1)) a.2
  where
    element_of : (o : Option (DslxType × ℕ)) → element_type o ≡ Some t → (p : DslxType × ℕ) × (o ≡ Some p) × (p.0 ≡ t)
    element_of None h = none_some t h
    element_of (Some p) h = (p, refl, same_some p.0 t h)

    indexed : (w k : DslxType) (a : DslxType × ℕ) → GivesOf types w x → GivesOf types k y → w ≡ ty.Array a.0 a.1 → is_unsigned k ≡ true → a.0 ≡ t → GivesOf types t (with_both x y index_value)
    indexed w k a gw gk is unsigned own =
        let r = is_array_of a.0 a.1 gw.value (ap (λ u. is_of u gw.value) (sym is) ∙ gw.of) in
        let n = is_unsigned_value gk.value (ap is_unsigned (one_type k gk.value gk.of) ∙ unsigned) in
        let v = some_element (is_of a.0) r.elements n.0.word.value (ap (λ k. not (is_zero k)) (sym r.count) ∙ r.some) r.all in
        record {
          value = v.0;
          is = (λ j. with_both (gw.is j) (gk.is j) index_value)
              ∙ (λ j. with_both (array_step (r.out j)) (amount_in (n.1.0 j)) (λ vs k. element_or_last vs k.value))
              ∙ ap (λ b. with_both (Some r.elements) (if b then None else (Some n.0.word)) (λ vs k. element_or_last vs k.value)) n.2
              ∙ v.1;
          of = ap (λ u. is_of u v.0) (sym own) ∙ v.2;
          declared = subst (IsDeclared types) own (element_declared types a.0 a.1 (subst (IsDeclared types) is gw.declared)).0;
        }
