-- A value that fits a pattern fits what the pattern is lowered to.
use Rattle.std.proofs.Common.{◌≡◌, ◌++◌, ℕ, Bool, true, false, if◌then◌else◌, List, [], ◌∷◌, map, Option, Some, None, refl, sym, ap, subst, ◌∙◌}
use Rattle.xb_value.specs.declared.value.Value.{Value, out-Value}
use Rattle.xb_value.specs.declared.value.Value.TheViews as plain_views
use Rattle.dslx_tree.specs.declared.ident.Ident.{Ident}
use Rattle.dslx_meaning.specs.Environment.{Env, Meanings, bind}
use Rattle.dslx_meaning.specs.Lists.{and_then, where_true}
use Rattle.dslx_meaning.specs.Meaning.{ExprDen, PatternDen, fit_each, fit_value}
use Rattle.dslx_meaning.specs.Values.{elements_of, plain_value, same_value, tuple_step, type_of_value}
use Rattle.dslx_meaning.specs.declared.ty.DslxType.{DslxType, out-DslxType}
use Rattle.dslx_meaning.specs.declared.ty.DslxType as ty
use Rattle.dslx_meaning.specs.declared.ty.DslxType.TheOpen.{DslxType-F}
use Rattle.dslx_meaning.specs.declared.ty.DslxType.TheVariants as type_rolls
use Rattle.dslx_meaning.specs.declared.ty.DslxType.TheViews as type_views
use Rattle.dslx_meaning.specs.declared.value.DslxValue.{DslxValue}
use Rattle.dslx_meaning.specs.declared.value.DslxValue.TheOpen.{DslxValue-F}
use Rattle.dslx_core.proofs.Lemmas.Lowering.{from_then, from_where}
use Rattle.dslx_core.proofs.Lemmas.Typing.Laws.{and_true}
use Rattle.dslx_core.proofs.Lemmas.Typing.Typed.{is_tuple_of, none_some, same_some}
use Rattle.dslx_core.specs.CoreValues.{Bindings, TakesApart, apart_each, shape_step, taken_apart, tuple_values_step}
use Rattle.dslx_core.specs.declared.expr.Shape.{Shape, out-Shape}
use Rattle.dslx_core.specs.declared.expr.Shape as shape
use Rattle.dslx_core.specs.declared.expr.Shape.TheOpen.{Shape-F}
use Rattle.dslx_core.specs.declared.expr.Shape.TheViews as shape_views
use Rattle.dslx_core.specs.declared.expr.Shape.TheFolds.{fold_out-Shape, map-Shape}
use Rattle.dslx_core.specs.Lowering.CoreScopes.{CoreScope, with_local}
use Rattle.dslx_core.specs.Lowering.EqualTypes.{equal_type}
use Rattle.dslx_core.specs.Lowering.Patterns.{LoweredShape, LoweredShapes, PatternLowering, name_shape, parts_shaped, shaped, tuple_shape, value_shape}
use Rattle.dslx_core.specs.Typing.Typed.Kinds.{each_of, is_of}
use Rattle.dslx_core.proofs.Lemmas.Types.{like_itself}
use Rattle.dslx_total.proofs.OnTyped.OnOneType.{one_by_test}
use Rattle.dslx_total.proofs.OnTyped.OnSame.{plain_at_level, same_plain}

-- ---- shapes

shape_opened : (s : Shape) (x : Shape-F Shape) → out-Shape s ≡ x → taken_apart s ≡ shape_step (map-Shape Shape TakesApart taken_apart x)
shape_opened s x h = fold_out-Shape TakesApart shape_step s ∙ ap (λ y. shape_step (map-Shape Shape TakesApart taken_apart y)) h

apart_wild : taken_apart shape.Wild ≡ shape_step Shape-F.Wild
apart_wild = shape_opened shape.Wild Shape-F.Wild shape_views.outs-Wild

apart_bound : taken_apart shape.Bound ≡ shape_step Shape-F.Bound
apart_bound = shape_opened shape.Bound Shape-F.Bound shape_views.outs-Bound

apart_equal : (v : Value) → taken_apart (shape.Equal v) ≡ shape_step (Shape-F.Equal v)
apart_equal v = shape_opened (shape.Equal v) (Shape-F.Equal v) (shape_views.outs-Equal v)

apart_tuple : (ss : List Shape) → taken_apart (shape.Tuple ss) ≡ shape_step (Shape-F.Tuple (map taken_apart ss))
apart_tuple ss = shape_opened (shape.Tuple ss) (Shape-F.Tuple ss) (shape_views.outs-Tuple ss)

-- ---- values that fit

-- constants and members are values of their own types
pub record OwnItems (items : Meanings) : Type 0 where
  pub constants : (name : List ℕ) (v : DslxValue) → items.constant name ≡ Some v → is_of (type_of_value v) v ≡ true
  pub members : (name member : List ℕ) (v : DslxValue) → items.member name member ≡ Some v → is_of (type_of_value v) v ≡ true

-- behind it
pub record FitsToo (items : Meanings) (s : LoweredShape) (inner : Env) (v : DslxValue) : Type 0 where
  pub apart : (bound : Bindings) → (more : Bindings) × (taken_apart s.shape (plain_value v) bound ≡ Some more)
  pub known : s.scope.known.items ≡ items
  pub there : inner.items ≡ items

pub record FitsBeside (l : PatternLowering) (m : PatternDen) : Type 0 where
  pub fits : (items : Meanings) → OwnItems items → (outer scope : CoreScope) (t : DslxType) (s : LoweredShape) → scope.known.items ≡ items → l.lower outer scope t ≡ Some s
      → (place env inner : Env) → env.items ≡ items → (v : DslxValue) → is_of t v ≡ true → m.fits place v env ≡ Some inner → FitsToo items s inner v

-- a number is one value, whatever its type is where it is lowered
abbrev pub OneNumber : (CoreScope → Option DslxValue) → ExprDen → Type 0
OneNumber l x = (scope : CoreScope) (env : Env) (u w v : DslxValue) → l scope ≡ Some u → x.value env ≡ Some w → is_of (type_of_value u) v ≡ true → same_value v w ≡ true → plain_value u ≡ plain_value v

value_fits : (items : Meanings) (o p : Option DslxValue) (scope : CoreScope) (t : DslxType) (s : LoweredShape) → scope.known.items ≡ items → value_shape o scope t ≡ Some s → (env inner : Env) → env.items ≡ items
    → (v : DslxValue) → is_of t v ≡ true → fit_value p v env ≡ Some inner → ((u w : DslxValue) → o ≡ Some u → p ≡ Some w → is_of (type_of_value u) v ≡ true → same_value v w ≡ true → plain_value u ≡ plain_value v)
    → FitsToo items s inner v
value_fits items o None scope t s at e env inner there v of k same = none_some inner k
value_fits items o (Some w) scope t s at e env inner there v of k same =
    let x = from_then o (λ v. where_true (equal_type t (type_of_value v)) (shaped (shape.Equal (plain_value v)) scope)) s e in
    let q = from_where (equal_type t (type_of_value x.0)) (shaped (shape.Equal (plain_value x.0)) scope) s x.2 in
    let one = one_by_test t (type_of_value x.0) q.0 in
    subst (λ (s : LoweredShape). FitsToo items s inner v) (same_some (record { shape = shape.Equal (plain_value x.0); scope = scope }) s q.1)
    (by_test x.0 (same_value v w) refl k (same x.0 w x.1 refl (ap (λ u. is_of u v) (sym one) ∙ of)))
  where
    by_test : (x : DslxValue) (b : Bool) → same_value v w ≡ b → (if b then Some env else None) ≡ Some inner → (same_value v w ≡ true → plain_value x ≡ plain_value v)
        → FitsToo items (record { shape = shape.Equal (plain_value x); scope = scope }) inner v
    by_test x true r q plain = record {
      apart = λ bound. (
        bound,
        ap (λ f. f (plain_value v) bound) (apart_equal (plain_value x)) ∙ ap (λ y. shape_step (Shape-F.Equal y) (plain_value v) bound) (plain r) ∙ ap (λ b. if b then Some bound else None) (like_itself (plain_value v)),
      );
      known = at;
      there = ap (λ (x : Env). x.items) (sym (same_some env inner q)) ∙ there;
    }
    by_test x false r q plain = none_some inner q

-- one value in both
own_alike : (o : Option DslxValue) → ((v : DslxValue) → o ≡ Some v → is_of (type_of_value v) v ≡ true) → (u w v : DslxValue) → o ≡ Some u → o ≡ Some w → is_of (type_of_value u) v ≡ true → same_value v w ≡ true → plain_value u ≡ plain_value v
own_alike o own u w v e f of same =
    let one = same_some u w (sym e ∙ f) in
    sym (same_plain (type_of_value u) v u of (own u e) (ap (same_value v) one ∙ same))

pub wild_fits : (names : List (List ℕ)) → FitsBeside (record { names = names; lower = λ outer scope t. shaped shape.Wild scope }) (record { names = names; fits = λ place v env. Some env })
wild_fits names = record {
  fits = λ items own outer scope t s at e place env inner there v of k.
      subst (λ (s : LoweredShape). FitsToo items s inner v) (same_some (record { shape = shape.Wild; scope = scope }) s e)
      (record {
        apart = λ bound. (bound, ap (λ f. f (plain_value v) bound) apart_wild);
        known = at;
        there = ap (λ (x : Env). x.items) (sym (same_some env inner k)) ∙ there;
      });
}

pub one_value_fits : (names : List (List ℕ)) (v : DslxValue) → is_of (type_of_value v) v ≡ true
    → FitsBeside (record { names = names; lower = λ outer scope t. value_shape (Some v) scope t }) (record { names = names; fits = λ place w env. fit_value (Some v) w env })
one_value_fits names v own = record {
  fits = λ items mine outer scope t s at e place env inner there w of k.
      value_fits items (Some v) (Some v) scope t s at e env inner there w of k
      (λ u x. own_alike (Some v) (λ y q. ap (λ z. is_of (type_of_value z) z) (sym (same_some v y q)) ∙ own) u x w);
}

pub number_fits : (names : List (List ℕ)) (l : CoreScope → Option DslxValue) (x : ExprDen) → OneNumber l x
    → FitsBeside (record { names = names; lower = λ outer scope t. value_shape (l outer) scope t }) (record { names = names; fits = λ place v env. fit_value (x.value place) v env })
number_fits names l x one = record {
  fits = λ items own outer scope t s at e place env inner there v of k. value_fits items (l outer) (x.value place) scope t s at e env inner there v of k (λ u w a b. one outer place u w v a b);
}

pub member_fits : (names : List (List ℕ)) (e a : Ident)
    → FitsBeside (record { names = names; lower = λ outer scope t. value_shape (scope.known.items.member e.name a.name) scope t }) (record { names = names; fits = λ place v env. fit_value (env.items.member e.name a.name) v env })
member_fits names e a = record {
  fits = λ items own outer scope t s at q place env inner there v of k.
      value_fits items (items.member e.name a.name) (items.member e.name a.name) scope t s at (ap (λ (x : Meanings). value_shape (x.member e.name a.name) scope t) (sym at) ∙ q) env inner there v of
      (ap (λ (x : Meanings). fit_value (x.member e.name a.name) v env) (sym there) ∙ k) (λ u w. own_alike (items.member e.name a.name) (own.members e.name a.name) u w v);
}

pub name_fits : (names : List (List ℕ)) (name : List ℕ)
    → FitsBeside (record { names = names; lower = λ outer scope t. name_shape name scope t }) (record { names = names; fits = λ place v env. if env.items.is_constant name then fit_value (env.items.constant name) v env else Some (bind name v env) })
name_fits names name = record {
  fits = λ items own outer scope t s at e place env inner there v of k.
      by_kind items own scope t s at env inner there v of (items.is_constant name)
      (ap (λ (x : Meanings). if x.is_constant name then value_shape (x.constant name) scope t else shaped shape.Bound (with_local name t scope)) (sym at) ∙ e)
      (ap (λ (x : Meanings). if x.is_constant name then fit_value (x.constant name) v env else Some (bind name v env)) (sym there) ∙ k);
}
  where
    by_kind : (items : Meanings) → OwnItems items → (scope : CoreScope) (t : DslxType) (s : LoweredShape) → scope.known.items ≡ items → (env inner : Env) → env.items ≡ items → (v : DslxValue) → is_of t v ≡ true
        → (b : Bool) → (if b then value_shape (items.constant name) scope t else shaped shape.Bound (with_local name t scope)) ≡ Some s → (if b then fit_value (items.constant name) v env else Some (bind name v env)) ≡ Some inner
        → FitsToo items s inner v
    by_kind items own scope t s at env inner there v of true e k =
        value_fits items (items.constant name) (items.constant name) scope t s at e env inner there v of k (λ u w. own_alike (items.constant name) (own.constants name) u w v)
    by_kind items own scope t s at env inner there v of false e k =
        subst (λ (s : LoweredShape). FitsToo items s inner v) (same_some (record { shape = shape.Bound; scope = with_local name t scope }) s e)
        (record {
          apart = λ bound. (bound ++ plain_value v ∷ [], ap (λ f. f (plain_value v) bound) apart_bound);
          known = at;
          there = ap (λ (x : Env). x.items) (sym (same_some (bind name v env) inner k)) ∙ there;
        })

-- ---- tuples

abbrev pub EachFitsBeside : List PatternLowering → List PatternDen → Type 0
EachFitsBeside [] [] = Unit {0}
EachFitsBeside (l ∷ ls) (m ∷ ms) = FitsBeside l m × EachFitsBeside ls ms
EachFitsBeside [] (m ∷ ms) = ⊥
EachFitsBeside (l ∷ ls) [] = ⊥

record PartsFit (items : Meanings) (r : LoweredShapes) (inner : Env) (vs : List DslxValue) : Type 0 where
  apart : (bound : Bindings) → (more : Bindings) × (apart_each (map taken_apart r.shapes) (map plain_value vs) bound ≡ Some more)
  known : r.scope.known.items ≡ items
  there : inner.items ≡ items

parts_fit : (items : Meanings) → OwnItems items → (ls : List PatternLowering) (ms : List PatternDen) → EachFitsBeside ls ms → (outer scope : CoreScope) (ts : List DslxType) (r : LoweredShapes) → scope.known.items ≡ items
    → parts_shaped ls ts outer scope ≡ Some r → (place env inner : Env) → env.items ≡ items → (vs : List DslxValue) → each_of (map is_of ts) vs ≡ true → fit_each place ms vs env ≡ Some inner → PartsFit items r inner vs
parts_fit items own [] [] h outer scope [] r at e place env inner there [] of k =
    subst (λ (r : LoweredShapes). PartsFit items r inner []) (same_some (record { shapes = []; scope = scope }) r e)
    (record { apart = λ bound. (bound, refl); known = at; there = ap (λ (x : Env). x.items) (sym (same_some env inner k)) ∙ there })
parts_fit items own [] [] h outer scope [] r at e place env inner there (v ∷ vs) of k = none_some inner k
parts_fit items own [] [] h outer scope (t ∷ ts) r at e place env inner there vs of k = none_some r e
parts_fit items own [] (m ∷ ms) h outer scope ts r at e place env inner there vs of k = absurd h
parts_fit items own (l ∷ ls) [] h outer scope ts r at e place env inner there vs of k = absurd h
parts_fit items own (l ∷ ls) (m ∷ ms) h outer scope [] r at e place env inner there vs of k = none_some r e
parts_fit items own (l ∷ ls) (m ∷ ms) h outer scope (t ∷ ts) r at e place env inner there [] of k = none_some inner k
parts_fit items own (l ∷ ls) (m ∷ ms) h outer scope (t ∷ ts) r at e place env inner there (v ∷ vs) of k =
    let a = from_then (l.lower outer scope t) (λ s. and_then (parts_shaped ls ts outer s.scope) (λ r. Some (record { shapes = s.shape ∷ r.shapes; scope = r.scope }))) r e in
    let c = from_then (parts_shaped ls ts outer a.0.scope) (λ r. Some (record { shapes = a.0.shape ∷ r.shapes; scope = r.scope })) r a.2 in
    let f = from_then (m.fits place v env) (fit_each place ms vs) inner k in
    let q = and_true (is_of t v) (each_of (map is_of ts) vs) of in
    let one = h.0.fits items own outer scope t a.0 at a.1 place env f.0 there v q.0 f.1 in
    let more = parts_fit items own ls ms h.1 outer a.0.scope ts c.0 one.known c.1 place f.0 inner one.there vs q.1 f.2 in
    subst (λ (r : LoweredShapes). PartsFit items r inner (v ∷ vs)) (same_some (record { shapes = a.0.shape ∷ c.0.shapes; scope = c.0.scope }) r c.2)
    (record {
      apart = λ bound.
          let x = one.apart bound in
          let y = more.apart x.0 in
          (y.0, ap (λ o. and_then o (apart_each (map taken_apart c.0.shapes) (map plain_value vs))) x.1 ∙ y.1);
      known = more.known;
      there = more.there;
    })

tuple_type : (t : DslxType) (ts : List DslxType) → out-DslxType t ≡ DslxType-F.Tuple ts → t ≡ ty.Tuple ts
tuple_type t ts e = sym (type_views.roll-out-DslxType t) ∙ ap type_views.roll-DslxType e ∙ type_rolls.rolls-Tuple ts

pub tuple_fits : (names others : List (List ℕ)) (ls : List PatternLowering) (ms : List PatternDen) → EachFitsBeside ls ms
    → FitsBeside (record { names = names; lower = λ outer scope t. tuple_shape ls outer scope (out-DslxType t) }) (record { names = others; fits = λ place v env. and_then (elements_of v) (λ vs. fit_each place ms vs env) })
tuple_fits names others ls ms h = record {
  fits = λ items own outer scope t s at e place env inner there v of k. by_level items own outer scope t s at place env inner there v of (out-DslxType t) refl e k;
}
  where
    by_level : (items : Meanings) → OwnItems items → (outer scope : CoreScope) (t : DslxType) (s : LoweredShape) → scope.known.items ≡ items → (place env inner : Env) → env.items ≡ items → (v : DslxValue) → is_of t v ≡ true
        → (x : DslxType-F DslxType) → out-DslxType t ≡ x → tuple_shape ls outer scope x ≡ Some s → and_then (elements_of v) (λ vs. fit_each place ms vs env) ≡ Some inner → FitsToo items s inner v
    by_level items own outer scope t s at place env inner there v of (DslxType-F.Tuple ts) q e k =
        let r = from_then (parts_shaped ls ts outer scope) (λ r. shaped (shape.Tuple r.shapes) r.scope) s e in
        let vs = is_tuple_of ts v (ap (λ u. is_of u v) (sym (tuple_type t ts q)) ∙ of) in
        let f = ap (λ l. and_then (tuple_step l) (λ vs. fit_each place ms vs env)) (sym vs.1) ∙ k in
        let parts = parts_fit items own ls ms h outer scope ts r.0 at r.1 place env inner there vs.0 vs.2 f in
        subst (λ (s : LoweredShape). FitsToo items s inner v) (same_some (record { shape = shape.Tuple r.0.shapes; scope = r.0.scope }) s r.2)
        (record {
          apart = λ bound.
              let x = parts.apart bound in (
                x.0,
                ap (λ f. f (plain_value v) bound) (apart_tuple r.0.shapes)
                    ∙ ap (λ u. and_then (tuple_values_step (out-Value u)) (λ ws. apart_each (map taken_apart r.0.shapes) ws bound)) (plain_at_level v (DslxValue-F.Tuple vs.0) vs.1)
                    ∙ ap (λ l. and_then (tuple_values_step l) (λ ws. apart_each (map taken_apart r.0.shapes) ws bound)) (plain_views.outs-Tuple (map plain_value vs.0))
                    ∙ x.1,
              );
          known = parts.known;
          there = parts.there;
        })
    by_level items own outer scope t s at place env inner there v of (DslxType-F.Bits a b) q e k = none_some s e
    by_level items own outer scope t s at place env inner there v of (DslxType-F.Array a b) q e k = none_some s e
    by_level items own outer scope t s at place env inner there v of (DslxType-F.Struct a b c) q e k = none_some s e
    by_level items own outer scope t s at place env inner there v of (DslxType-F.Enum a b c) q e k = none_some s e
    by_level items own outer scope t s at place env inner there v of DslxType-F.Token q e k = none_some s e
