-- What patterns bind has the types that they bind.
use Rattle.std.proofs.Common.{◌≡◌, suc, ◌+◌, Bool, true, false, List, ◌∷◌, ◌++◌, map, length, Option, Some, None, refl, sym, ap, subst, ◌∙◌, arith, if◌then◌else◌, length-append, []}
use Rattle.std.specs.Prelude.{◌||◌}
use Rattle.std.proofs.lemmas.List.{append_assoc, append-nil}
use Rattle.xb_value.specs.declared.ty.Ty.{Ty}
use Rattle.xb_value.specs.declared.value.Value.{Value, out-Value}
use Rattle.xb_value.specs.declared.value.Value.TheViews.{outs-Tuple}
use Rattle.xb_value.specs.Typing.{IsOfType}
use Rattle.xb_value.proofs.Lemmas.Typing.{tuple_of_type}
use Rattle.dslx_meaning.specs.Lists.{and_then, or_else}
use Rattle.dslx_core.specs.declared.expr.Shape.{Shape}
use Rattle.dslx_core.specs.declared.expr.Shape.TheOpen.{Shape-F}
use Rattle.dslx_core.specs.declared.expr.Shape.TheViews.{roll-Shape}
use Rattle.dslx_core.specs.declared.expr.Shape.TheFolds.{fold-roll-Shape, ind-Shape, map-Shape}
use Rattle.dslx_core.specs.CoreValues.{Bindings, TakesApart, is_like, tuple_values_step, apart_each, shape_step, taken_apart, first_apart}
use Rattle.dslx_core.specs.Types.Typing.{BindsTypes, if_alike, value_type, parts_of_tuple, binds_each, binds_step, binds_types, is_some, none_bound, each_binds_none, arm_binds, is_certain}
use Rattle.dslx_core.specs.Types.Sound.{AreOfTypes}
use Rattle.dslx_core.proofs.OnTypes.OnOptions.{both, some_same, then_is, where_is}
use Rattle.dslx_core.proofs.OnTypes.OnTypes.{same_number, tuple_type}
use Rattle.dslx_core.proofs.OnTypes.OnLists.{first_typed, last_typed}

-- ---- what is bound where a value is taken apart

-- whatever is bound has these types
abbrev pub MayBind : Option Bindings → List Ty → Type 0
MayBind o ts = (more : Bindings) → o ≡ Some more → AreOfTypes ts more

pub record Binds (o : Option Bindings) (ts : List Ty) : Type 0 where
  pub more : Bindings
  pub is : o ≡ Some more
  pub typed : AreOfTypes ts more

-- types that a pattern which may be compared binds, and what it takes apart
abbrev pub Fits : TakesApart → BindsTypes → Type 0
Fits p q = (t : Ty) (ts us : List Ty) (v : Value) (bound : Bindings) → IsOfType t v → AreOfTypes ts bound → q t ts ≡ Some us → MayBind (p v bound) us

-- one that always fits
abbrev pub AlwaysFits : TakesApart → BindsTypes → Type 0
AlwaysFits p q = (t : Ty) (ts us : List Ty) (v : Value) (bound : Bindings) → IsOfType t v → AreOfTypes ts bound → q t ts ≡ Some us → Binds (p v bound) us

-- what is bound stands behind what was bound
abbrev pub KeepsTypes : BindsTypes → Type 0
KeepsTypes q = (t : Ty) (ts us : List Ty) → q t ts ≡ Some us → (rest : List Ty) × (us ≡ ts ++ rest)

pub record IsPattern (p : TakesApart) (certain may : BindsTypes) : Type 0 where
  pub always : AlwaysFits p certain
  pub fits : Fits p may
  pub keeps : KeepsTypes may

abbrev pub ArePatterns : List TakesApart → List BindsTypes → List BindsTypes → Type 0
ArePatterns [] [] [] = Unit {0}
ArePatterns (p ∷ ps) (c ∷ cs) (m ∷ ms) = IsPattern p c m × ArePatterns ps cs ms
ArePatterns _ _ _ = ⊥

same_bound : (ts us : List Ty) (bound : Bindings) → AreOfTypes ts bound → Some ts ≡ Some us → AreOfTypes us bound
same_bound ts us bound h e = subst (λ xs. AreOfTypes xs bound) (some_same ts us e) h

-- ---- one after the other

each_always : (ps : List TakesApart) (cs ms : List BindsTypes) → ArePatterns ps cs ms → (ss ts us : List Ty) (vs : List Value) (bound : Bindings) → AreOfTypes ss vs → AreOfTypes ts bound → binds_each cs ss ts ≡ Some us → Binds (apart_each ps vs bound) us
each_always [] [] [] h [] ts us [] bound typed own e = record { more = bound; is = refl; typed = same_bound ts us bound own e }
each_always [] [] [] h [] ts us (v ∷ vs) bound typed own e = absurd (cc)
each_always [] [] [] h (s ∷ ss) ts us vs bound typed own e = absurd (cc)
each_always [] [] (m ∷ ms) h ss ts us vs bound typed own e = absurd h
each_always [] (c ∷ cs) ms h ss ts us vs bound typed own e = absurd h
each_always (p ∷ ps) [] ms h ss ts us vs bound typed own e = absurd h
each_always (p ∷ ps) (c ∷ cs) [] h ss ts us vs bound typed own e = absurd h
each_always (p ∷ ps) (c ∷ cs) (m ∷ ms) h [] ts us vs bound typed own e = absurd (cc)
each_always (p ∷ ps) (c ∷ cs) (m ∷ ms) h (s ∷ ss) ts us [] bound typed own e = absurd (cc)
each_always (p ∷ ps) (c ∷ cs) (m ∷ ms) h (s ∷ ss) ts us (v ∷ vs) bound typed own e =
    let found = then_is (c s ts) (binds_each cs ss) us e in
    let parts = first_typed s ss v vs typed in
    let one = h.0.always s ts found.first v bound parts.0 own found.is in
    let rest = each_always ps cs ms h.1 ss found.first us vs one.more parts.1 one.typed found.gives in
    record { more = rest.more; is = ap (λ o. and_then o (apart_each ps vs)) one.is ∙ rest.is; typed = rest.typed }

each_fits : (ps : List TakesApart) (cs ms : List BindsTypes) → ArePatterns ps cs ms → (ss ts us : List Ty) (vs : List Value) (bound : Bindings) → AreOfTypes ss vs → AreOfTypes ts bound → binds_each ms ss ts ≡ Some us → MayBind (apart_each ps vs bound) us
each_fits [] [] [] h [] ts us [] bound typed own e more is = subst (AreOfTypes us) (some_same bound more is) (same_bound ts us bound own e)
each_fits [] [] [] h [] ts us (v ∷ vs) bound typed own e more is = absurd (cc)
each_fits [] [] [] h (s ∷ ss) ts us vs bound typed own e more is = absurd (cc)
each_fits [] [] (m ∷ ms) h ss ts us vs bound typed own e more is = absurd h
each_fits [] (c ∷ cs) ms h ss ts us vs bound typed own e more is = absurd h
each_fits (p ∷ ps) [] ms h ss ts us vs bound typed own e more is = absurd h
each_fits (p ∷ ps) (c ∷ cs) [] h ss ts us vs bound typed own e more is = absurd h
each_fits (p ∷ ps) (c ∷ cs) (m ∷ ms) h [] ts us vs bound typed own e more is = absurd (cc)
each_fits (p ∷ ps) (c ∷ cs) (m ∷ ms) h (s ∷ ss) ts us [] bound typed own e more is = absurd (cc)
each_fits (p ∷ ps) (c ∷ cs) (m ∷ ms) h (s ∷ ss) ts us (v ∷ vs) bound typed own e more is =
    let found = then_is (m s ts) (binds_each ms ss) us e in
    let parts = first_typed s ss v vs typed in
    let taken = then_is (p v bound) (apart_each ps vs) more is in
    let one = h.0.fits s ts found.first v bound parts.0 own found.is taken.first taken.is in
    each_fits ps cs ms h.1 ss found.first us vs taken.first parts.1 one found.gives more taken.gives

nothing_more : (ts us : List Ty) → Some ts ≡ Some us → (rest : List Ty) × (us ≡ ts ++ rest)
nothing_more ts us e = ([], sym (some_same ts us e) ∙ sym (append-nil ts))

each_keeps : (ps : List TakesApart) (cs ms : List BindsTypes) → ArePatterns ps cs ms → (ss ts us : List Ty) → binds_each ms ss ts ≡ Some us → (rest : List Ty) × (us ≡ ts ++ rest)
each_keeps [] [] [] h [] ts us e = nothing_more ts us e
each_keeps [] [] [] h (s ∷ ss) ts us e = absurd (cc)
each_keeps [] [] (m ∷ ms) h ss ts us e = absurd h
each_keeps [] (c ∷ cs) ms h ss ts us e = absurd h
each_keeps (p ∷ ps) [] ms h ss ts us e = absurd h
each_keeps (p ∷ ps) (c ∷ cs) [] h ss ts us e = absurd h
each_keeps (p ∷ ps) (c ∷ cs) (m ∷ ms) h [] ts us e = absurd (cc)
each_keeps (p ∷ ps) (c ∷ cs) (m ∷ ms) h (s ∷ ss) ts us e =
    let found = then_is (m s ts) (binds_each ms ss) us e in
    let one = h.0.keeps s ts found.first found.is in
    let rest = each_keeps ps cs ms h.1 ss found.first us found.gives in
    (one.0 ++ rest.0, rest.1 ∙ (ap (λ xs. xs ++ rest.0) one.1 ∙ append_assoc ts one.0 rest.0))

-- ---- each shape

record IsTupleValue (v : Value) (ss : List Ty) : Type 0 where
  parts : List Value
  there : tuple_values_step (out-Value v) ≡ Some parts
  typed : AreOfTypes ss parts

tuple_value : (t : Ty) (ss : List Ty) (v : Value) → parts_of_tuple t ≡ Some ss → IsOfType t v → IsTupleValue v ss
tuple_value t ss v e h =
    let f = tuple_of_type ss v (subst (λ u. IsOfType u v) (tuple_type t ss e) h) in
    record { parts = f.parts; there = ap (λ w. tuple_values_step (out-Value w)) f.is ∙ ap tuple_values_step (outs-Tuple f.parts); typed = f.each }

wild : IsPattern (shape_step Shape-F.Wild) (binds_step true Shape-F.Wild) (binds_step false Shape-F.Wild)
wild = record {
  always = λ t ts us v bound h own e. record { more = bound; is = refl; typed = same_bound ts us bound own e };
  fits = λ t ts us v bound h own e more is. subst (AreOfTypes us) (some_same bound more is) (same_bound ts us bound own e);
  keeps = λ t ts us e. nothing_more ts us e;
}

bound_one : IsPattern (shape_step Shape-F.Bound) (binds_step true Shape-F.Bound) (binds_step false Shape-F.Bound)
bound_one = record {
  always = λ t ts us v bound h own e. record { more = bound ++ v ∷ []; is = refl; typed = same_bound (ts ++ t ∷ []) us (bound ++ v ∷ []) (last_typed ts bound t v own h) e };
  fits = λ t ts us v bound h own e more is. subst (AreOfTypes us) (some_same (bound ++ v ∷ []) more is) (same_bound (ts ++ t ∷ []) us (bound ++ v ∷ []) (last_typed ts bound t v own h) e);
  keeps = λ t ts us e. (t ∷ [], sym (some_same (ts ++ t ∷ []) us e));
}

if_bound : (b : Bool) (bound more : Bindings) → (if b then Some bound else None) ≡ Some more → bound ≡ more
if_bound true bound more h = some_same bound more h
if_bound false bound more h = absurd (cc)

equal : (w : Value) → IsPattern (shape_step (Shape-F.Equal w)) (binds_step true (Shape-F.Equal w)) (binds_step false (Shape-F.Equal w))
equal w = record {
  always = λ t ts us v bound h own e. absurd (cc);
  fits = λ t ts us v bound h own e more is.
      let found = then_is (if_alike t (value_type w)) (λ s. Some ts) us e in
      subst (AreOfTypes us) (if_bound (is_like w v) bound more is) (same_bound ts us bound own found.gives);
  keeps = λ t ts us e. let found = then_is (if_alike t (value_type w)) (λ s. Some ts) us e in nothing_more ts us found.gives;
}

tuple : (ps : List TakesApart) (cs ms : List BindsTypes) → ArePatterns ps cs ms → IsPattern (shape_step (Shape-F.Tuple ps)) (binds_step true (Shape-F.Tuple cs)) (binds_step false (Shape-F.Tuple ms))
tuple ps cs ms each = record {
  always = λ t ts us v bound h own e.
      let found = then_is (parts_of_tuple t) (λ ss. binds_each cs ss ts) us e in
      let parts = tuple_value t found.first v found.is h in
      let all = each_always ps cs ms each found.first ts us parts.parts bound parts.typed own found.gives in
      record { more = all.more; is = ap (λ o. and_then o (λ vs. apart_each ps vs bound)) parts.there ∙ all.is; typed = all.typed };
  fits = λ t ts us v bound h own e more is.
      let found = then_is (parts_of_tuple t) (λ ss. binds_each ms ss ts) us e in
      let parts = tuple_value t found.first v found.is h in
      each_fits ps cs ms each found.first ts us parts.parts bound parts.typed own found.gives more
      (sym (ap (λ o. and_then o (λ vs. apart_each ps vs bound)) parts.there) ∙ is);
  keeps = λ t ts us e.
      let found = then_is (parts_of_tuple t) (λ ss. binds_each ms ss ts) us e in
      each_keeps ps cs ms each found.first ts us found.gives;
}

abbrev IsShape : Shape → Type 0
IsShape s = IsPattern (taken_apart s) (binds_types true s) (binds_types false s)

abbrev Held : Type 0
Held = (s : Shape) × IsShape s

abbrev shape_in : Held → Shape
shape_in k = k.0

all_patterns : (ks : List Held) → ArePatterns (map taken_apart (map shape_in ks)) (map (binds_types true) (map shape_in ks)) (map (binds_types false) (map shape_in ks))
all_patterns [] = tt
all_patterns (k ∷ ks) = (k.1, all_patterns ks)

layer : (x : Shape-F Held) → IsPattern (shape_step (map-Shape Shape TakesApart taken_apart (map-Shape Held Shape shape_in x))) (binds_step true (map-Shape Shape BindsTypes (binds_types true) (map-Shape Held Shape shape_in x))) (binds_step false (map-Shape Shape BindsTypes (binds_types false) (map-Shape Held Shape shape_in x)))
layer Shape-F.Wild = wild
layer Shape-F.Bound = bound_one
layer (Shape-F.Equal w) = equal w
layer (Shape-F.Tuple ks) = tuple (map taken_apart (map shape_in ks)) (map (binds_types true) (map shape_in ks)) (map (binds_types false) (map shape_in ks)) (all_patterns ks)

pub is_shape : (s : Shape) → IsShape s
is_shape = ind-Shape IsShape (λ x y is. subst (λ z. IsShape (roll-Shape z)) is (rolled y))
  where
    rolled : (y : Shape-F Held) → IsShape (roll-Shape (map-Shape Held Shape shape_in y))
    rolled y =
        let z = map-Shape Held Shape shape_in y in
        subst (λ p. IsPattern p (binds_types true (roll-Shape z)) (binds_types false (roll-Shape z))) (sym (fold-roll-Shape TakesApart shape_step z))
        (subst (λ c. IsPattern (shape_step (map-Shape Shape TakesApart taken_apart z)) c (binds_types false (roll-Shape z))) (sym (fold-roll-Shape BindsTypes (binds_step true) z))
        (subst (λ m. IsPattern (shape_step (map-Shape Shape TakesApart taken_apart z)) (binds_step true (map-Shape Shape BindsTypes (binds_types true) z)) m) (sym (fold-roll-Shape BindsTypes (binds_step false) z)) (layer y)))

-- ---- arms

pub same_length : (ts us : List Ty) → ((rest : List Ty) × (us ≡ ts ++ rest)) → length us ≡ length ts → us ≡ ts
same_length ts us ([], is) e = is ∙ append-nil ts
same_length ts us (t ∷ rest, is) e =
    let long : length us ≡ length ts + length (t ∷ rest) = ap length is ∙ length-append ts (t ∷ rest) in
    let some : length (t ∷ rest) ≡ suc (length rest) = refl in
    absurd (omega (arith, long, some, e))

-- what an alternative that binds nothing leaves
none_here : (p : Shape) (t : Ty) (ts : List Ty) → none_bound (length ts) (binds_types false p t ts) ≡ true → binds_types false p t ts ≡ Some ts
none_here p t ts h = by (binds_types false p t ts) refl h
  where
    by : (o : Option (List Ty)) → binds_types false p t ts ≡ o → none_bound (length ts) o ≡ true → binds_types false p t ts ≡ Some ts
    by None e k = absurd (cc)
    by (Some us) e k = e ∙ ap Some (same_length ts us ((is_shape p).keeps t ts us e) (same_number (length us) (length ts) k))

first_none : (ps : List Shape) (t : Ty) (ts : List Ty) (v : Value) (bound : Bindings) → IsOfType t v → AreOfTypes ts bound → each_binds_none ps t ts ≡ true → MayBind (first_apart ps v bound) ts
first_none [] t ts v bound h own e more is = absurd (cc)
first_none (p ∷ ps) t ts v bound h own e more is = by (taken_apart p v bound) refl is (first_none ps t ts v bound h own parts.1 more)
  where
    parts : (none_bound (length ts) (binds_types false p t ts) ≡ true) × (each_binds_none ps t ts ≡ true)
    parts = both (none_bound (length ts) (binds_types false p t ts)) (each_binds_none ps t ts) e

    by : (o : Option Bindings) → taken_apart p v bound ≡ o → or_else o (first_apart ps v bound) ≡ Some more → (first_apart ps v bound ≡ Some more → AreOfTypes ts more) → AreOfTypes ts more
    by None q k rest = rest k
    by (Some inner) q k rest = (is_shape p).fits t ts ts v bound h own (none_here p t ts parts.0) more (q ∙ ap Some (some_same inner more k))

-- what an arm binds has the types that it binds
pub arm_fits : (ps : List Shape) (t : Ty) (ts us : List Ty) (v : Value) (bound : Bindings) → IsOfType t v → AreOfTypes ts bound → arm_binds ps t ts ≡ Some us → MayBind (first_apart ps v bound) us
arm_fits [] t ts us v bound h own e more is = absurd (cc)
arm_fits (p ∷ []) t ts us v bound h own e more is = by (taken_apart p v bound) refl is
  where
    by : (o : Option Bindings) → taken_apart p v bound ≡ o → or_else o None ≡ Some more → AreOfTypes us more
    by None q k = absurd (cc)
    by (Some inner) q k = (is_shape p).fits t ts us v bound h own e more (q ∙ ap Some (some_same inner more k))
arm_fits (p ∷ q ∷ ps) t ts us v bound h own e more is =
    let found = where_is (each_binds_none (p ∷ q ∷ ps) t ts) (Some ts) us e in
    subst (λ xs. AreOfTypes xs more) (some_same ts us found.1) (first_none (p ∷ q ∷ ps) t ts v bound h own found.0 more is)

pub arm_keeps : (ps : List Shape) (t : Ty) (ts us : List Ty) → arm_binds ps t ts ≡ Some us → (rest : List Ty) × (us ≡ ts ++ rest)
arm_keeps [] t ts us e = nothing_more ts us e
arm_keeps (p ∷ []) t ts us e = (is_shape p).keeps t ts us e
arm_keeps (p ∷ q ∷ ps) t ts us e = nothing_more ts us (where_is (each_binds_none (p ∷ q ∷ ps) t ts) (Some ts) us e).1

-- where some alternative always fits, something is bound
pub certain_fits : (ps : List Shape) (t : Ty) (ts : List Ty) (v : Value) (bound : Bindings) → IsOfType t v → AreOfTypes ts bound → is_certain ps t ts ≡ true → (first_apart ps v bound ≡ None → ⊥)
certain_fits [] t ts v bound h own e none = absurd (cc)
certain_fits (p ∷ ps) t ts v bound h own e none = by (binds_types true p t ts) refl e (λ k n. certain_fits ps t ts v bound h own k n)
  where
    later : (o : Option Bindings) → or_else o (first_apart ps v bound) ≡ None → first_apart ps v bound ≡ None
    later None k = k
    later (Some more) k = absurd (cc)

    by : (o : Option (List Ty)) → binds_types true p t ts ≡ o → (is_some o || is_certain ps t ts) ≡ true → (is_certain ps t ts ≡ true → first_apart ps v bound ≡ None → ⊥) → ⊥
    by None q k rest = rest k (later (taken_apart p v bound) none)
    by (Some us) q k rest =
        let all = (is_shape p).always t ts us v bound h own q in
        let never : Some all.more ≡ None = sym (ap (λ o. or_else o (first_apart ps v bound)) all.is) ∙ none in
        cc
