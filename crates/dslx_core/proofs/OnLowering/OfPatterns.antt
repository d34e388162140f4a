-- A value fits a pattern and its shape, and binds the same, or it fits neither.
use Rattle.std.proofs.Common.{◌≡◌, ◌&&◌, ◌++◌, ℕ, Bool, true, false, if◌then◌else◌, List, [], ◌∷◌, map, Option, Some, None, refl, sym, ap, subst, ◌∙◌}
use mathlib.Core.Bool.{true≢false}
use Rattle.std.specs.List.{list_all}
use Rattle.xb_value.specs.declared.value.Value.{out-Value}
use Rattle.xb_value.specs.declared.value.Value.TheViews as plain_views
use Rattle.dslx_meaning.specs.Lists.{and_then, where_true}
use Rattle.dslx_meaning.specs.Values.{plain_value, same_value, type_of_value, tuple_step, elements_of}
use Rattle.dslx_meaning.specs.Environment.{Given, Env}
use Rattle.dslx_meaning.specs.Meaning.{PatternDen, MatchDen, all_names, fit_each, fit_value, fits_in_scope}
use Rattle.dslx_meaning.specs.Environment.{bind}
use Rattle.dslx_meaning.specs.declared.ty.DslxType.{DslxType, out-DslxType}
use Rattle.dslx_meaning.specs.declared.ty.DslxType as ty
use Rattle.dslx_meaning.specs.declared.ty.DslxType.TheOpen.{DslxType-F}
use Rattle.dslx_meaning.specs.declared.ty.DslxType.TheVariants as type_rolls
use Rattle.dslx_meaning.specs.declared.ty.DslxType.TheViews as type_views
use Rattle.dslx_meaning.specs.declared.value.DslxValue.{DslxValue}
use Rattle.dslx_meaning.specs.declared.value.DslxValue.TheOpen.{DslxValue-F}
use Rattle.dslx_core.proofs.Lemmas.Typing.Laws.{and_true}
use Rattle.dslx_core.specs.Typing.Typed.Kinds.{is_of, each_of}
use Rattle.dslx_core.proofs.Lemmas.Typing.Typed.{is_tuple_of, none_some, same_some}
use Rattle.dslx_core.specs.CoreValues.{Bindings, Functions, apart_each, is_like, taken_apart, tuple_values_step}
use Rattle.dslx_core.specs.declared.expr.Shape.{Shape}
use Rattle.dslx_core.specs.declared.expr.Shape as shape
use Rattle.dslx_core.specs.Lowering.CoreScopes.{CoreScope, with_local}
use Rattle.dslx_core.specs.Lowering.EqualTypes.{equal_type}
use Rattle.dslx_core.specs.Lowering.Patterns.{LoweredShape, LoweredShapes, PatternLowering, lower_in_scope, name_shape, names_of_all, parts_shaped, shaped, tuple_shape, value_shape}
use Rattle.dslx_core.specs.Lowering.Correspondence.{BothFit, FitLowerPreserves, IsOwn, NeitherFits, PatternLowerPreserves, SimulatesInScope, env_at}
use Rattle.dslx_core.proofs.OnLowering.Kept.{from_then, from_where}
use Rattle.dslx_core.proofs.OnLowering.Likes.{alike_by_type}
use Rattle.dslx_core.proofs.OnLowering.OneType.{one_by_test}
use Rattle.dslx_core.proofs.OnLowering.Openings.{plain_level, shape_bound, shape_equal, shape_tuple, shape_wild}
use Rattle.dslx_core.proofs.OnLowering.Slots.{named_simulates}

-- a value of a type against a shape: what a pattern does in its scope
abbrev pub ShapeFits : (CoreScope → DslxType → Option LoweredShape) → (DslxValue → Env → Option Env) → Type 0
ShapeFits lower fits = (scope : CoreScope) (t : DslxType) (s : LoweredShape) → lower scope t ≡ Some s
    → (calls : Functions) (given : List Given) (bound : Bindings) → SimulatesInScope scope calls given bound → (v : DslxValue) → is_of t v ≡ true
    → FitLowerPreserves s.scope calls (fits v (env_at scope given)) (taken_apart s.shape (plain_value v) bound)

-- and a part of a pattern behind what is bound so far
abbrev pub PartFits : (CoreScope → CoreScope → DslxType → Option LoweredShape) → MatchDen → Type 0
PartFits lower fits = (outer scope : CoreScope) (t : DslxType) (s : LoweredShape) → lower outer scope t ≡ Some s
    → (calls : Functions) (around : List Given) (others : Bindings) → SimulatesInScope outer calls around others
    → (given : List Given) (bound : Bindings) → SimulatesInScope scope calls given bound → (v : DslxValue) → is_of t v ≡ true
    → FitLowerPreserves s.scope calls (fits (env_at outer around) v (env_at scope given)) (taken_apart s.shape (plain_value v) bound)

-- a whole pattern
pub fits_there : (p : PatternLowering) (m : PatternDen) → PatternLowerPreserves p m → ShapeFits (lower_in_scope p) (fits_in_scope m)
fits_there p m h scope t s e calls given bound at v of = h.fits scope scope t s e calls given bound at given bound at v of

abbrev pub ShapeBare : (CoreScope → CoreScope → DslxType → Option LoweredShape) → List (List ℕ) → Type 0
ShapeBare lower names = (outer scope : CoreScope) (t : DslxType) (s : LoweredShape) → lower outer scope t ≡ Some s → list_all scope.known.items.is_constant names ≡ true → s.scope ≡ scope

-- ---- any value

pub wild_fits : ShapeFits (λ scope t. shaped shape.Wild scope) (λ v env. Some env)
wild_fits scope t s e calls given bound h v of =
    subst (λ (x : LoweredShape). FitLowerPreserves x.scope calls (Some (env_at scope given)) (taken_apart x.shape (plain_value v) bound)) (same_some (record { shape = shape.Wild; scope = scope }) s e)
    (BothFit given bound refl (ap (λ f. f (plain_value v) bound) shape_wild) h)

pub wild_bare : (names : List (List ℕ)) → ShapeBare (λ outer scope t. shaped shape.Wild scope) names
wild_bare names outer scope t s e h = ap (λ (x : LoweredShape). x.scope) (sym (same_some (record { shape = shape.Wild; scope = scope }) s e))

-- ---- one value

pub one_value_fits : (w : Option DslxValue) (scope : CoreScope) (t : DslxType) (s : LoweredShape) → value_shape w scope t ≡ Some s → ((x : DslxValue) → w ≡ Some x → IsOwn x)
    → (calls : Functions) (given : List Given) (bound : Bindings) → SimulatesInScope scope calls given bound → (v : DslxValue) → is_of t v ≡ true
    → FitLowerPreserves s.scope calls (fit_value w v (env_at scope given)) (taken_apart s.shape (plain_value v) bound)
one_value_fits w scope t s e own calls given bound h v of =
    let x = from_then w (λ v. where_true (equal_type t (type_of_value v)) (shaped (shape.Equal (plain_value v)) scope)) s e in
    let q = from_where (equal_type t (type_of_value x.0)) (shaped (shape.Equal (plain_value x.0)) scope) s x.2 in
    let one = one_by_test t (type_of_value x.0) q.0 in
    let like = alike_by_type t v x.0 of (ap (λ u. is_of u x.0) one ∙ own x.0 x.1) in
    subst (λ (y : LoweredShape). FitLowerPreserves y.scope calls (fit_value w v (env_at scope given)) (taken_apart y.shape (plain_value v) bound))
    (same_some (record { shape = shape.Equal (plain_value x.0); scope = scope }) s q.1)
    (by_test x.0 x.1 (same_value v x.0) refl like)
  where
    by_test : (x : DslxValue) → w ≡ Some x → (b : Bool) → same_value v x ≡ b → is_like (plain_value x) (plain_value v) ≡ same_value v x
        → FitLowerPreserves scope calls (fit_value w v (env_at scope given)) (taken_apart (shape.Equal (plain_value x)) (plain_value v) bound)
    by_test x k true q like =
        BothFit given bound (ap (λ o. fit_value o v (env_at scope given)) k ∙ ap (λ b. if b then Some (env_at scope given) else None) q)
        (ap (λ f. f (plain_value v) bound) (shape_equal (plain_value x)) ∙ ap (λ b. if b then Some bound else None) (like ∙ q)) h
    by_test x k false q like =
        NeitherFits (ap (λ o. fit_value o v (env_at scope given)) k ∙ ap (λ b. if b then Some (env_at scope given) else None) q)
        (ap (λ f. f (plain_value v) bound) (shape_equal (plain_value x)) ∙ ap (λ b. if b then Some bound else None) (like ∙ q))

pub one_value_bare : (w : Option DslxValue) (scope : CoreScope) (t : DslxType) (s : LoweredShape) → value_shape w scope t ≡ Some s → s.scope ≡ scope
one_value_bare w scope t s e =
    let x = from_then w (λ v. where_true (equal_type t (type_of_value v)) (shaped (shape.Equal (plain_value v)) scope)) s e in
    let q = from_where (equal_type t (type_of_value x.0)) (shaped (shape.Equal (plain_value x.0)) scope) s x.2 in
    ap (λ (y : LoweredShape). y.scope) (sym (same_some (record { shape = shape.Equal (plain_value x.0); scope = scope }) s q.1))

-- ---- names

pub name_fits : (name : List ℕ) → ShapeFits (name_shape name) (λ v env. if env.items.is_constant name then fit_value (env.items.constant name) v env else Some (bind name v env))
name_fits name scope t s e calls given bound h v of = by_kind (scope.known.items.is_constant name) refl e
  where
    by_kind : (b : Bool) → scope.known.items.is_constant name ≡ b
        → (if b then value_shape (scope.known.items.constant name) scope t else shaped shape.Bound (with_local name t scope)) ≡ Some s
        → FitLowerPreserves s.scope calls (if b then fit_value (scope.known.items.constant name) v (env_at scope given) else Some (bind name v (env_at scope given))) (taken_apart s.shape (plain_value v) bound)
    by_kind true q k = one_value_fits (scope.known.items.constant name) scope t s k (λ x r. h.known.constants name x r) calls given bound h v of
    by_kind false q k =
        subst (λ (x : LoweredShape). FitLowerPreserves x.scope calls (Some (bind name v (env_at scope given))) (taken_apart x.shape (plain_value v) bound))
        (same_some (record { shape = shape.Bound; scope = with_local name t scope }) s k)
        (BothFit (record { name = name; value = v } ∷ given) (bound ++ plain_value v ∷ []) refl (ap (λ f. f (plain_value v) bound) shape_bound) (named_simulates scope calls given bound name t v q of h))

pub name_bare : (name : List ℕ) → ShapeBare (λ outer scope t. name_shape name scope t) (name ∷ [])
name_bare name outer scope t s e h = by_kind (scope.known.items.is_constant name) h e
  where
    by_kind : (b : Bool) → (b && true) ≡ true → (if b then value_shape (scope.known.items.constant name) scope t else shaped shape.Bound (with_local name t scope)) ≡ Some s → s.scope ≡ scope
    by_kind true q k = one_value_bare (scope.known.items.constant name) scope t s k
    by_kind false q k = absurd (true≢false (sym q))

-- ---- tuples

abbrev pub EachPatternMeans : List PatternLowering → List PatternDen → Type 0
EachPatternMeans [] [] = Unit {0}
EachPatternMeans (p ∷ ps) (m ∷ ms) = PatternLowerPreserves p m × EachPatternMeans ps ms
EachPatternMeans [] (m ∷ ms) = ⊥
EachPatternMeans (p ∷ ps) [] = ⊥

pub each_name : (ps : List PatternLowering) (ms : List PatternDen) → EachPatternMeans ps ms → names_of_all ps ≡ all_names ms
each_name [] [] h = refl
each_name [] (m ∷ ms) h = absurd h
each_name (p ∷ ps) [] h = absurd h
each_name (p ∷ ps) (m ∷ ms) h = λ i. h.0.names i ++ each_name ps ms h.1 i

pub all_in_both : {A : Type 0} (f : A → Bool) (as' bs : List A) → list_all f (as' ++ bs) ≡ true → (list_all f as' ≡ true) × (list_all f bs ≡ true)
all_in_both f [] bs e = (refl, e)
all_in_both f (a ∷ as') bs e =
    let q = and_true (f a) (list_all f (as' ++ bs)) e in
    let r = all_in_both f as' bs q.1 in
    (ap (λ b. b && list_all f as') q.0 ∙ r.0, r.1)

parts_fit : (ps : List PatternLowering) (ms : List PatternDen) → EachPatternMeans ps ms → (ts : List DslxType) (vs : List DslxValue) (outer scope : CoreScope) (r : LoweredShapes)
    → parts_shaped ps ts outer scope ≡ Some r → (calls : Functions) (around : List Given) (others : Bindings) → SimulatesInScope outer calls around others → (given : List Given) (bound : Bindings) → SimulatesInScope scope calls given bound → each_of (map is_of ts) vs ≡ true
    → FitLowerPreserves r.scope calls (fit_each (env_at outer around) ms vs (env_at scope given)) (apart_each (map taken_apart r.shapes) (map plain_value vs) bound)
parts_fit [] (m ∷ ms) h ts vs outer scope r e calls around others out given bound at of = absurd h
parts_fit (p ∷ ps) [] h ts vs outer scope r e calls around others out given bound at of = absurd h
parts_fit [] [] h (t ∷ ts) vs outer scope r e calls around others out given bound at of = none_some r e
parts_fit [] [] h [] (v ∷ vs) outer scope r e calls around others out given bound at of = absurd (true≢false (sym of))
parts_fit [] [] h [] [] outer scope r e calls around others out given bound at of =
    subst (λ (x : LoweredShapes). FitLowerPreserves x.scope calls (Some (env_at scope given)) (apart_each (map taken_apart x.shapes) [] bound)) (same_some (record { shapes = []; scope = scope }) r e)
    (BothFit given bound refl refl at)
parts_fit (p ∷ ps) (m ∷ ms) h [] vs outer scope r e calls around others out given bound at of = none_some r e
parts_fit (p ∷ ps) (m ∷ ms) h (t ∷ ts) [] outer scope r e calls around others out given bound at of = absurd (true≢false (sym of))
parts_fit (p ∷ ps) (m ∷ ms) h (t ∷ ts) (v ∷ vs) outer scope r e calls around others out given bound at of =
    let s = from_then (p.lower outer scope t) (λ s. and_then (parts_shaped ps ts outer s.scope) (λ r. Some (record { shapes = s.shape ∷ r.shapes; scope = r.scope }))) r e in
    let k = from_then (parts_shaped ps ts outer s.0.scope) (λ (q : LoweredShapes). Some (record { shapes = s.0.shape ∷ q.shapes; scope = q.scope })) r s.2 in
    let q = and_true (is_of t v) (each_of (map is_of ts) vs) of in
    subst (λ (x : LoweredShapes). FitLowerPreserves x.scope calls (fit_each (env_at outer around) (m ∷ ms) (v ∷ vs) (env_at scope given)) (apart_each (map taken_apart x.shapes) (map plain_value (v ∷ vs)) bound))
    (same_some (record { shapes = s.0.shape ∷ k.0.shapes; scope = k.0.scope }) r k.2)
    (behind s.0 k.0 (h.0.fits outer scope t s.0 s.1 calls around others out given bound at v q.0)
    (λ more values stands. parts_fit ps ms h.1 ts vs outer s.0.scope k.0 k.1 calls around others out more values stands q.1))
  where
    behind : (s : LoweredShape) (k : LoweredShapes) → FitLowerPreserves s.scope calls (m.fits (env_at outer around) v (env_at scope given)) (taken_apart s.shape (plain_value v) bound)
        → ((more : List Given) (values : Bindings) → SimulatesInScope s.scope calls more values
        → FitLowerPreserves k.scope calls (fit_each (env_at outer around) ms vs (env_at s.scope more)) (apart_each (map taken_apart k.shapes) (map plain_value vs) values))
        → FitLowerPreserves k.scope calls (and_then (m.fits (env_at outer around) v (env_at scope given)) (fit_each (env_at outer around) ms vs)) (and_then (taken_apart s.shape (plain_value v) bound) (apart_each (map taken_apart k.shapes) (map plain_value vs)))
    behind s k (BothFit more values eo ep stands) rest = moved (rest more values stands)
      where
        moved : FitLowerPreserves k.scope calls (fit_each (env_at outer around) ms vs (env_at s.scope more)) (apart_each (map taken_apart k.shapes) (map plain_value vs) values)
            → FitLowerPreserves k.scope calls (and_then (m.fits (env_at outer around) v (env_at scope given)) (fit_each (env_at outer around) ms vs)) (and_then (taken_apart s.shape (plain_value v) bound) (apart_each (map taken_apart k.shapes) (map plain_value vs)))
        moved (BothFit a b x y z) = BothFit a b (ap (λ o. and_then o (fit_each (env_at outer around) ms vs)) eo ∙ x) (ap (λ o. and_then o (apart_each (map taken_apart k.shapes) (map plain_value vs))) ep ∙ y) z
        moved (NeitherFits x y) = NeitherFits (ap (λ o. and_then o (fit_each (env_at outer around) ms vs)) eo ∙ x) (ap (λ o. and_then o (apart_each (map taken_apart k.shapes) (map plain_value vs))) ep ∙ y)
    behind s k (NeitherFits eo ep) rest = NeitherFits (ap (λ o. and_then o (fit_each (env_at outer around) ms vs)) eo) (ap (λ o. and_then o (apart_each (map taken_apart k.shapes) (map plain_value vs))) ep)

parts_bare : (ps : List PatternLowering) (ms : List PatternDen) → EachPatternMeans ps ms → (ts : List DslxType) (outer scope : CoreScope) (r : LoweredShapes) → parts_shaped ps ts outer scope ≡ Some r
    → list_all scope.known.items.is_constant (names_of_all ps) ≡ true → r.scope ≡ scope
parts_bare [] (m ∷ ms) h ts outer scope r e all = absurd h
parts_bare (p ∷ ps) [] h ts outer scope r e all = absurd h
parts_bare [] [] h (t ∷ ts) outer scope r e all = none_some r e
parts_bare [] [] h [] outer scope r e all = ap (λ (x : LoweredShapes). x.scope) (sym (same_some (record { shapes = []; scope = scope }) r e))
parts_bare (p ∷ ps) (m ∷ ms) h [] outer scope r e all = none_some r e
parts_bare (p ∷ ps) (m ∷ ms) h (t ∷ ts) outer scope r e all =
    let s = from_then (p.lower outer scope t) (λ s. and_then (parts_shaped ps ts outer s.scope) (λ r. Some (record { shapes = s.shape ∷ r.shapes; scope = r.scope }))) r e in
    let k = from_then (parts_shaped ps ts outer s.0.scope) (λ (q : LoweredShapes). Some (record { shapes = s.0.shape ∷ q.shapes; scope = q.scope })) r s.2 in
    let q = all_in_both scope.known.items.is_constant p.names (names_of_all ps) all in
    let first = h.0.bare outer scope t s.0 s.1 q.0 in
    ap (λ (x : LoweredShapes). x.scope) (sym (same_some (record { shapes = s.0.shape ∷ k.0.shapes; scope = k.0.scope }) r k.2))
    ∙ parts_bare ps ms h.1 ts outer s.0.scope k.0 k.1 (ap (λ (x : CoreScope). list_all x.known.items.is_constant (names_of_all ps)) first ∙ q.1) ∙ first

tuple_type : (t : DslxType) (ts : List DslxType) → out-DslxType t ≡ DslxType-F.Tuple ts → t ≡ ty.Tuple ts
tuple_type t ts e = sym (type_views.roll-out-DslxType t) ∙ ap type_views.roll-DslxType e ∙ type_rolls.rolls-Tuple ts

pub tuple_fits : (ps : List PatternLowering) (ms : List PatternDen) → EachPatternMeans ps ms
    → PartFits (λ outer scope t. tuple_shape ps outer scope (out-DslxType t)) (λ outer v env. and_then (elements_of v) (λ vs. fit_each outer ms vs env))
tuple_fits ps ms h outer scope t s e calls around others out given bound at v of = by_level (out-DslxType t) refl e
  where
    by_level : (l : DslxType-F DslxType) → out-DslxType t ≡ l → tuple_shape ps outer scope l ≡ Some s
        → FitLowerPreserves s.scope calls (and_then (elements_of v) (λ vs. fit_each (env_at outer around) ms vs (env_at scope given))) (taken_apart s.shape (plain_value v) bound)
    by_level (DslxType-F.Tuple ts) q k =
        let r = from_then (parts_shaped ps ts outer scope) (λ r. shaped (shape.Tuple r.shapes) r.scope) s k in
        let vs = is_tuple_of ts v (ap (λ u. is_of u v) (sym (tuple_type t ts q)) ∙ of) in
        let source : and_then (elements_of v) (λ vs. fit_each (env_at outer around) ms vs (env_at scope given)) ≡ fit_each (env_at outer around) ms vs.0 (env_at scope given) = ap (λ l. and_then (tuple_step l) (λ vs. fit_each (env_at outer around) ms vs (env_at scope given))) vs.1 in
        let apart : taken_apart (shape.Tuple r.0.shapes) (plain_value v) bound ≡ apart_each (map taken_apart r.0.shapes) (map plain_value vs.0) bound =
        ap (λ f. f (plain_value v) bound) (shape_tuple r.0.shapes) ∙ ap (λ u. and_then (tuple_values_step (out-Value u)) (λ ws. apart_each (map taken_apart r.0.shapes) ws bound)) (plain_level v (DslxValue-F.Tuple vs.0) vs.1)
        ∙ ap (λ l. and_then (tuple_values_step l) (λ ws. apart_each (map taken_apart r.0.shapes) ws bound)) (plain_views.outs-Tuple (map plain_value vs.0)) in
        subst (λ (x : LoweredShape). FitLowerPreserves x.scope calls (and_then (elements_of v) (λ vs. fit_each (env_at outer around) ms vs (env_at scope given))) (taken_apart x.shape (plain_value v) bound))
        (same_some (record { shape = shape.Tuple r.0.shapes; scope = r.0.scope }) s r.2)
        (moved r.0 (and_then (elements_of v) (λ vs. fit_each (env_at outer around) ms vs (env_at scope given))) (taken_apart (shape.Tuple r.0.shapes) (plain_value v) bound)
        (fit_each (env_at outer around) ms vs.0 (env_at scope given)) (apart_each (map taken_apart r.0.shapes) (map plain_value vs.0) bound) source apart (parts_fit ps ms h ts vs.0 outer scope r.0 r.1 calls around others out given bound at vs.2))
      where
        moved : (r : LoweredShapes) (o : Option Env) (p : Option Bindings) (o' : Option Env) (p' : Option Bindings) → o ≡ o' → p ≡ p' → FitLowerPreserves r.scope calls o' p' → FitLowerPreserves r.scope calls o p
        moved r o p o' p' x y (BothFit a b c d z) = BothFit a b (x ∙ c) (y ∙ d) z
        moved r o p o' p' x y (NeitherFits c d) = NeitherFits (x ∙ c) (y ∙ d)
    by_level (DslxType-F.Bits a b) q k = none_some s k
    by_level (DslxType-F.Array a b) q k = none_some s k
    by_level (DslxType-F.Struct a b c) q k = none_some s k
    by_level (DslxType-F.Enum a b c) q k = none_some s k
    by_level DslxType-F.Token q k = none_some s k

pub tuple_bare : (ps : List PatternLowering) (ms : List PatternDen) → EachPatternMeans ps ms → ShapeBare (λ outer scope t. tuple_shape ps outer scope (out-DslxType t)) (names_of_all ps)
tuple_bare ps ms h outer scope t s e all = by_level (out-DslxType t) e
  where
    by_level : (l : DslxType-F DslxType) → tuple_shape ps outer scope l ≡ Some s → s.scope ≡ scope
    by_level (DslxType-F.Tuple ts) k =
        let r = from_then (parts_shaped ps ts outer scope) (λ r. shaped (shape.Tuple r.shapes) r.scope) s k in
        ap (λ (x : LoweredShape). x.scope) (sym (same_some (record { shape = shape.Tuple r.0.shapes; scope = r.0.scope }) s r.2)) ∙ parts_bare ps ms h ts outer scope r.0 r.1 all
    by_level (DslxType-F.Bits a b) k = none_some s k
    by_level (DslxType-F.Array a b) k = none_some s k
    by_level (DslxType-F.Struct a b c) k = none_some s k
    by_level (DslxType-F.Enum a b c) k = none_some s k
    by_level DslxType-F.Token k = none_some s k
