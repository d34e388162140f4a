-- What patterns become binds its types.
use Rattle.std.proofs.Common.{◌≡◌, ◌&&◌, ◌==◌, ◌++◌, ℕ, Bool, true, false, not, if◌then◌else◌, List, [], ◌∷◌, map, length, Option, Some, None, refl, sym, ap, subst, ◌∙◌, arith}
use mathlib.Core.Bool.{true≢false}
use Rattle.std.specs.Prelude.{◌||◌}
use Rattle.std.specs.List.{list_all}
use Rattle.std.proofs.lemmas.Bool.Decides.{nat_tests}
use Rattle.xb_span.specs.declared.span.Span.{Span}
use Rattle.xb_value.specs.declared.ty.Ty.{Ty}
use Rattle.dslx_tree.specs.declared.ident.Ident.{Ident}
use Rattle.dslx_meaning.specs.Environment.{Meanings}
use Rattle.dslx_meaning.specs.Lists.{and_then, where_true}
use Rattle.dslx_meaning.specs.Types.{bool_type, plain_type}
use Rattle.dslx_meaning.specs.Values.{bool_value, plain_value, type_of_value}
use Rattle.dslx_meaning.specs.declared.ty.DslxType.{DslxType, out-DslxType}
use Rattle.dslx_meaning.specs.declared.ty.DslxType.TheOpen.{DslxType-F}
use Rattle.dslx_meaning.specs.declared.value.DslxValue.{DslxValue}
use Rattle.dslx_meaning.specs.Rules.NameRules.{member_typing}
use Rattle.dslx_meaning.specs.Rules.PatternRules.{constant_pattern, first_part_type, is_there, name_pattern, nothing_bound, one_value, other_part_types, part_types, parts_typing, shape_faults, tuple_faults, tuple_pattern}
use Rattle.dslx_meaning.specs.Rules.TypeEnvs.{Judgement, TypeEnv, Typed, breaks, unlimited}
use Rattle.dslx_meaning.specs.Rules.Typings.{PatternPair, PatternSeen, PatternTyping, TypeExprTyping}
use Rattle.dslx_core.proofs.Lemmas.Lowering.{from_then, from_where}
use Rattle.dslx_core.proofs.Lemmas.Typing.Laws.{and_true}
use Rattle.dslx_core.proofs.Lemmas.Typing.Sound.{all_in, none_in, none_in_three, some_fault}
use Rattle.dslx_core.proofs.Lemmas.Typing.Typed.{bool_gives, none_some, one_type, same_some}
use Rattle.dslx_core.specs.declared.expr.Shape.{Shape}
use Rattle.dslx_core.specs.declared.expr.Shape as shape
use Rattle.dslx_core.specs.Lowering.CoreScopes.{BodyEnv, CoreScope, with_local}
use Rattle.dslx_core.specs.Lowering.EqualTypes.{equal_type}
use Rattle.dslx_core.specs.Lowering.Patterns.{LoweredShape, LoweredShapes, PatternLowering, name_shape, names_of_all, parts_shaped, shaped, tuple_shape, value_shape}
use Rattle.dslx_core.specs.Typing.Typed.Kinds.{is_of}
use Rattle.dslx_core.specs.Types.Typing.{FunctionTypes, binds_each, binds_types, if_alike, is_some, parts_of_tuple, value_type}
use Rattle.dslx_core.proofs.Lemmas.Types.{alike_itself, binds_bound, binds_equal, binds_tuple, binds_wild, parts_of}
use Rattle.dslx_total.specs.Typed.Scopes.{TypedScope, is_sound_type}
use Rattle.dslx_total.specs.Typed.Claims.{NumberIsTyped, PatternIsTyped, ShapeIsTyped, is_tuple_level}
use Rattle.dslx_total.proofs.OnTyped.OnOneType.{one_by_test}
use Rattle.dslx_total.proofs.OnTyped.OnLiterals.{sound_typed}
use Rattle.dslx_total.proofs.OnTyped.OnScopes.{local_typed}
use Rattle.dslx_total.proofs.OnTyped.OnTypes.{plain_level, sound_level}

pub same_length : (n : ℕ) → (n == n) ≡ true
same_length n = grind (arith, nat_tests)

-- ---- patterns that bind nothing

pub wild_typed : PatternIsTyped (λ may_fail context t names locals. record (nothing_bound names locals) { size = 1 }) (record { names = []; lower = λ outer scope t. shaped shape.Wild scope })
wild_typed = record {
  typed = λ context fs others bound outer scope t s items out at sound e.
      subst (ShapeIsTyped (λ may_fail context t names locals. record (nothing_bound names locals) { size = 1 }) (record { names = []; lower = λ outer scope t. shaped shape.Wild scope }) context fs bound t scope)
      (same_some (record { shape = shape.Wild; scope = scope }) s e)
      (record {
        more = bound;
        may = ap (λ q. q (plain_type t) bound) (binds_wild false);
        behind = at;
        known = refl;
        must = λ may_fail ty names locals f sure. ap (λ q. q (plain_type t) bound) (binds_wild true);
        bare = λ h. refl;
        flat = λ h. ap (λ q. is_some (q (plain_type t) bound) || length bound == length bound) (binds_wild true);
      });
}

-- a pattern that is one value is none where it has to fit, nor is it sure to
never_sure : {X : Type 0} (span : Span) (may_fail : Bool) (ty : Option DslxType) (names : List (List ℕ)) (locals : List Typed) (own : Judgement) (known : Bool) → (one_value span may_fail ty names locals own known).faults ≡ []
    → (not may_fail || (one_value span may_fail ty names locals own known).is_sure) ≡ true → X
never_sure span true ty names locals own known f e = absurd (true≢false (sym e))
never_sure span false ty names locals own known f e = some_fault (breaks 8 span) [] (none_in_three own.faults (shape_faults span ty own.ty) (breaks 8 span ∷ []) f).2

value_found : (o : Option DslxValue) (scope : CoreScope) (t : DslxType) (s : LoweredShape) → value_shape o scope t ≡ Some s → (v : DslxValue) × (o ≡ Some v) × (t ≡ type_of_value v) × (record { shape = shape.Equal (plain_value v); scope = scope } ≡ s)
value_found o scope t s e =
    let a = from_then o (λ v. where_true (equal_type t (type_of_value v)) (shaped (shape.Equal (plain_value v)) scope)) s e in
    let b = from_where (equal_type t (type_of_value a.0)) (shaped (shape.Equal (plain_value a.0)) scope) s a.2 in
    (a.0, a.1, one_by_test t (type_of_value a.0) b.0, same_some (record { shape = shape.Equal (plain_value a.0); scope = scope }) s b.1)

pub value_pattern : (p : PatternTyping) (l : PatternLowering) (context : TypeEnv) (fs : FunctionTypes) (bound : List Ty) (t : DslxType) (scope : CoreScope) (s : LoweredShape) (span : Span) (own : Judgement) (known : Bool)
    → ((may_fail : Bool) (ty : Option DslxType) (names : List (List ℕ)) (locals : List Typed) → p may_fail context ty names locals ≡ one_value span may_fail ty names locals own known)
    → (o : Option DslxValue) → ((v : DslxValue) → o ≡ Some v → is_of (type_of_value v) v ≡ true) → TypedScope fs bound scope → is_sound_type t ≡ true → value_shape o scope t ≡ Some s → ShapeIsTyped p l context fs bound t scope s
value_pattern p l context fs bound t scope s span own known is o owns at sound e =
    let v = value_found o scope t s e in
    let typed : value_type (plain_value v.0) ≡ Some (plain_type t) =
    sound_typed v.0 (record { own = owns v.0 v.1; sound = ap is_sound_type (sym v.2) ∙ sound }) ∙ ap (λ u. Some (plain_type u)) (sym v.2) in
    subst (ShapeIsTyped p l context fs bound t scope) v.3
    (record {
      more = bound;
      may = ap (λ q. q (plain_type t) bound) (binds_equal false (plain_value v.0))
          ∙ ap (λ x. and_then (if_alike (plain_type t) x) (λ s. Some bound)) typed
          ∙ ap (λ x. and_then x (λ s. Some bound)) (alike_itself (plain_type t));
      behind = at;
      known = refl;
      must = λ may_fail ty names locals f sure.
          never_sure span may_fail ty names locals own known (ap (λ (q : PatternSeen). q.faults) (sym (is may_fail ty names locals)) ∙ f) (ap (λ (q : PatternSeen). not may_fail || q.is_sure) (sym (is may_fail ty names locals)) ∙ sure);
      bare = λ h. refl;
      flat = λ h. ap (λ q. is_some (q (plain_type t) bound) || length bound == length bound) (binds_equal true (plain_value v.0)) ∙ same_length (length bound);
    })

-- a value of a type is of its own
pub owns_of : (t : DslxType) (v : DslxValue) → is_of t v ≡ true → is_of (type_of_value v) v ≡ true
owns_of t v e = ap (λ u. is_of u v) (one_type t v e) ∙ e

bool_of : (b : Bool) → is_of bool_type (bool_value b) ≡ true
bool_of b =
    let g = bool_gives (λ name. None) (record { from = 0; to = 0 }) b bool_type refl in
    subst (λ v. is_of bool_type v ≡ true) (same_some g.value (bool_value b) (sym g.is)) g.of

pub bool_is : (b : Bool) → type_of_value (bool_value b) ≡ bool_type
bool_is b = one_type bool_type (bool_value b) (bool_of b)

pub bool_owns : (b : Bool) → is_of (type_of_value (bool_value b)) (bool_value b) ≡ true
bool_owns b = owns_of bool_type (bool_value b) (bool_of b)

pub bool_pattern : (span : Span) (b : Bool) → PatternIsTyped (λ may_fail context t names locals. one_value span may_fail t names locals (unlimited (Some bool_type) [] [] (Some 1)) true)
    (record { names = []; lower = λ outer scope t. value_shape (Some (bool_value b)) scope t })
bool_pattern span b = record {
  typed = λ context fs others bound outer scope t s items out at sound e.
      value_pattern (λ may_fail context t names locals. one_value span may_fail t names locals (unlimited (Some bool_type) [] [] (Some 1)) true) (record { names = []; lower = λ outer scope t. value_shape (Some (bool_value b)) scope t })
      context fs bound t scope s span (unlimited (Some bool_type) [] [] (Some 1)) true (λ may_fail ty names locals. refl) (Some (bool_value b))
      (λ v q. subst (λ u. is_of (type_of_value u) u ≡ true) (same_some (bool_value b) v q) (bool_owns b)) at sound e;
}

pub number_pattern : (span : Span) (j : TypeExprTyping) (l : CoreScope → Option DslxValue) → NumberIsTyped l
    → PatternIsTyped (λ may_fail context t names locals. one_value span may_fail t names locals (j context) (is_there (j context).ty)) (record { names = []; lower = λ outer scope t. value_shape (l outer) scope t })
number_pattern span j l owns = record {
  typed = λ context fs others bound outer scope t s items out at sound e.
      value_pattern (λ may_fail context t names locals. one_value span may_fail t names locals (j context) (is_there (j context).ty)) (record { names = []; lower = λ outer scope t. value_shape (l outer) scope t })
      context fs bound t scope s span (j context) (is_there (j context).ty) (λ may_fail ty names locals. refl) (l outer) (owns outer) at sound e;
}

pub member_pattern : (span : Span) (e a : Ident)
    → PatternIsTyped (λ may_fail context t names locals. one_value span may_fail t names locals (member_typing context e a) (is_there (context.known.items.member e.name a.name)))
    (record { names = []; lower = λ outer scope t. value_shape (scope.known.items.member e.name a.name) scope t })
member_pattern span e a = record {
  typed = λ context fs others bound outer scope t s items out at sound q.
      value_pattern (λ may_fail context t names locals. one_value span may_fail t names locals (member_typing context e a) (is_there (context.known.items.member e.name a.name)))
      (record { names = []; lower = λ outer scope t. value_shape (scope.known.items.member e.name a.name) scope t })
      context fs bound t scope s span (member_typing context e a) (is_there (context.known.items.member e.name a.name)) (λ may_fail ty names locals. refl) (scope.known.items.member e.name a.name)
      (λ v r. (at.known.members e.name a.name v r).own) at sound q;
}

-- ---- names

pub name_pattern_typed : (span : Span) (name : List ℕ)
    → PatternIsTyped (λ may_fail context t names locals. name_pattern span may_fail context t names locals name (context.known.items.is_constant name)) (record { names = name ∷ []; lower = λ outer scope t. name_shape name scope t })
name_pattern_typed span name = record {
  typed = λ context fs others bound outer scope t s items out at sound e.
      by_kind context fs bound scope t s at sound (scope.known.items.is_constant name) refl (ap (λ (items : Meanings). items.is_constant name) (sym items)) e;
}
  where
    p : PatternTyping
    p may_fail context t names locals = name_pattern span may_fail context t names locals name (context.known.items.is_constant name)

    l : PatternLowering
    l = record { names = name ∷ []; lower = λ outer scope t. name_shape name scope t }

    by_kind : (context : TypeEnv) (fs : FunctionTypes) (bound : List Ty) (scope : CoreScope) (t : DslxType) (s : LoweredShape) → TypedScope fs bound scope → is_sound_type t ≡ true
        → (b : Bool) → scope.known.items.is_constant name ≡ b → context.known.items.is_constant name ≡ scope.known.items.is_constant name
        → name_shape name scope t ≡ Some s → ShapeIsTyped p l context fs bound t scope s
    by_kind context fs bound scope t s at sound true q r e =
        let own = constant_pattern span context name (context.known.items.constant name) in
        value_pattern p l context fs bound t scope s span own (is_there (context.known.items.constant name)) (λ may_fail ty names locals. ap (name_pattern span may_fail context ty names locals name) (r ∙ q)) (scope.known.items.constant name)
        (λ v k. (at.known.constants name v k).own) at sound
        (ap (λ b. if b then value_shape (scope.known.items.constant name) scope t else shaped shape.Bound (with_local name t scope)) (sym q) ∙ e)
    by_kind context fs bound scope t s at sound false q r e =
        subst (ShapeIsTyped p l context fs bound t scope)
        (same_some (record { shape = shape.Bound; scope = with_local name t scope }) s (ap (λ b. if b then value_shape (scope.known.items.constant name) scope t else shaped shape.Bound (with_local name t scope)) (sym q) ∙ e))
        (record {
          more = bound ++ plain_type t ∷ [];
          may = ap (λ q. q (plain_type t) bound) (binds_bound false);
          behind = local_typed fs bound scope name t at sound;
          known = refl;
          must = λ may_fail ty names locals f sure. ap (λ q. q (plain_type t) bound) (binds_bound true);
          bare = λ h. absurd (true≢false (sym h ∙ ap (λ b. b && true) q));
          flat = λ h. ap (λ f. is_some (f (plain_type t) bound) || length (bound ++ plain_type t ∷ []) == length bound) (binds_bound true);
        })

-- ---- tuples

abbrev pub EachPatternTyped : List PatternPair → List PatternLowering → Type 0
EachPatternTyped [] [] = Unit {0}
EachPatternTyped (p ∷ ps) (l ∷ ls) = PatternIsTyped p.1 l × EachPatternTyped ps ls
EachPatternTyped [] (l ∷ ls) = ⊥
EachPatternTyped (p ∷ ps) [] = ⊥

record PartsTyped (ps : List PatternPair) (ls : List PatternLowering) (context : TypeEnv) (fs : FunctionTypes) (bound : List Ty) (us : List DslxType) (scope : CoreScope) (r : LoweredShapes) : Type 0 where
  more : List Ty
  may : binds_each (map (binds_types false) r.shapes) (map plain_type us) bound ≡ Some more
  behind : TypedScope fs more r.scope
  known : r.scope.known ≡ scope.known
  must : (may_fail : Bool) (tys : Option (List DslxType)) (names : List (List ℕ)) (locals : List Typed) → (parts_typing may_fail context ps tys names locals).faults ≡ []
      → (not may_fail || (parts_typing may_fail context ps tys names locals).is_sure) ≡ true → binds_each (map (binds_types true) r.shapes) (map plain_type us) bound ≡ Some more
  bare : list_all scope.known.items.is_constant (names_of_all ls) ≡ true → more ≡ bound

both_sure : (m a b : Bool) → (m || (a && b)) ≡ true → ((m || a) ≡ true) × ((m || b) ≡ true)
both_sure true a b e = (refl, refl)
both_sure false a b e = and_true a b e

parts_are_typed : (ps : List PatternPair) (ls : List PatternLowering) → EachPatternTyped ps ls → (context : TypeEnv) (fs : FunctionTypes) (others bound : List Ty) (outer scope : CoreScope) (us : List DslxType) (r : LoweredShapes)
    → scope.known.items ≡ context.known.items → TypedScope fs others outer → TypedScope fs bound scope → list_all (λ b. b) (map is_sound_type us) ≡ true → parts_shaped ls us outer scope ≡ Some r
    → PartsTyped ps ls context fs bound us scope r
parts_are_typed [] [] k context fs others bound outer scope [] r items out at sound e =
    subst (PartsTyped [] [] context fs bound [] scope) (same_some (record { shapes = []; scope = scope }) r e)
    (record { more = bound; may = refl; behind = at; known = refl; must = λ may_fail tys names locals f sure. refl; bare = λ h. refl })
parts_are_typed [] [] k context fs others bound outer scope (u ∷ us) r items out at sound e = none_some r e
parts_are_typed [] (l ∷ ls) k context fs others bound outer scope us r items out at sound e = absurd k
parts_are_typed (p ∷ ps) [] k context fs others bound outer scope us r items out at sound e = absurd k
parts_are_typed (p ∷ ps) (l ∷ ls) k context fs others bound outer scope [] r items out at sound e = none_some r e
parts_are_typed (p ∷ ps) (l ∷ ls) k context fs others bound outer scope (u ∷ us) r items out at sound e =
    let a = from_then (l.lower outer scope u) (λ s. and_then (parts_shaped ls us outer s.scope) (λ r. Some (record { shapes = s.shape ∷ r.shapes; scope = r.scope }))) r e in
    let c = from_then (parts_shaped ls us outer a.0.scope) (λ r. Some (record { shapes = a.0.shape ∷ r.shapes; scope = r.scope })) r a.2 in
    let q = and_true (is_sound_type u) (list_all (λ b. b) (map is_sound_type us)) sound in
    let one = k.0.typed context fs others bound outer scope u a.0 items out at q.0 a.1 in
    let rest = parts_are_typed ps ls k.1 context fs others one.more outer a.0.scope us c.0 (ap (λ (known : BodyEnv). known.items) one.known ∙ items) out one.behind q.1 c.1 in
    subst (PartsTyped (p ∷ ps) (l ∷ ls) context fs bound (u ∷ us) scope) (same_some (record { shapes = a.0.shape ∷ c.0.shapes; scope = c.0.scope }) r c.2)
    (record {
      more = rest.more;
      may = ap (λ o. and_then o (binds_each (map (binds_types false) c.0.shapes) (map plain_type us))) one.may ∙ rest.may;
      behind = rest.behind;
      known = rest.known ∙ one.known;
      must = λ may_fail tys names locals f sure.
          let first = p.1 may_fail context (first_part_type tys) names locals in
          let later = parts_typing may_fail context ps (other_part_types tys) first.names first.locals in
          let w = none_in first.faults later.faults f in
          let z = both_sure (not may_fail) first.is_sure later.is_sure sure in
          ap (λ o. and_then o (binds_each (map (binds_types true) c.0.shapes) (map plain_type us))) (one.must may_fail (first_part_type tys) names locals w.0 z.0)
          ∙ rest.must may_fail (other_part_types tys) first.names first.locals w.1 z.1;
      bare = λ h.
          let w = all_in scope.known.items.is_constant l.names (names_of_all ls) h in
          rest.bare (ap (λ (known : BodyEnv). list_all known.items.is_constant (names_of_all ls)) one.known ∙ w.1) ∙ one.bare w.0;
    })

pub tuple_pattern_typed : (span : Span) (ps : List PatternPair) (ls : List PatternLowering) → EachPatternTyped ps ls
    → PatternIsTyped (λ may_fail context t names locals. tuple_pattern span t (part_types (length ps) t) (parts_typing may_fail context ps (part_types (length ps) t) names locals))
    (record { names = names_of_all ls; lower = λ outer scope t. tuple_shape ls outer scope (out-DslxType t) })
tuple_pattern_typed span ps ls k = record {
  typed = λ context fs others bound outer scope t s items out at sound e. by_level context fs others bound outer scope t s items out at sound (out-DslxType t) refl e;
}
  where
    p : PatternTyping
    p may_fail context t names locals = tuple_pattern span t (part_types (length ps) t) (parts_typing may_fail context ps (part_types (length ps) t) names locals)

    l : PatternLowering
    l = record { names = names_of_all ls; lower = λ outer scope t. tuple_shape ls outer scope (out-DslxType t) }

    by_level : (context : TypeEnv) (fs : FunctionTypes) (others bound : List Ty) (outer scope : CoreScope) (t : DslxType) (s : LoweredShape) → scope.known.items ≡ context.known.items → TypedScope fs others outer → TypedScope fs bound scope
        → is_sound_type t ≡ true → (x : DslxType-F DslxType) → out-DslxType t ≡ x → tuple_shape ls outer scope x ≡ Some s → ShapeIsTyped p l context fs bound t scope s
    by_level context fs others bound outer scope t s items out at sound (DslxType-F.Tuple us) q e =
        let a = from_then (parts_shaped ls us outer scope) (λ r. shaped (shape.Tuple r.shapes) r.scope) s e in
        let plain_is = plain_level t (DslxType-F.Tuple us) q in
        let parts = parts_are_typed ps ls k context fs others bound outer scope us a.0 items out at (sym (sound_level t (DslxType-F.Tuple us) q) ∙ sound) a.1 in
        subst (ShapeIsTyped p l context fs bound t scope) (same_some (record { shape = shape.Tuple a.0.shapes; scope = a.0.scope }) s a.2)
        (record {
          more = parts.more;
          may = ap (λ f. f (plain_type t) bound) (binds_tuple false a.0.shapes)
              ∙ ap (λ o. and_then o (λ ts. binds_each (map (binds_types false) a.0.shapes) ts bound)) (ap parts_of_tuple plain_is ∙ parts_of (map plain_type us)) ∙ parts.may;
          behind = parts.behind;
          known = parts.known;
          must = λ may_fail ty names locals f sure.
              let seen = parts_typing may_fail context ps (part_types (length ps) ty) names locals in
              ap (λ f. f (plain_type t) bound) (binds_tuple true a.0.shapes)
              ∙ ap (λ o. and_then o (λ ts. binds_each (map (binds_types true) a.0.shapes) ts bound)) (ap parts_of_tuple plain_is ∙ parts_of (map plain_type us))
              ∙ parts.must may_fail (part_types (length ps) ty) names locals (none_in (tuple_faults span ty (part_types (length ps) ty)) seen.faults f).1 sure;
          bare = parts.bare;
          flat = λ h. absurd (true≢false (sym (ap is_tuple_level q) ∙ h));
        })
    by_level context fs others bound outer scope t s items out at sound (DslxType-F.Bits w n) q e = none_some s e
    by_level context fs others bound outer scope t s items out at sound (DslxType-F.Array v n) q e = none_some s e
    by_level context fs others bound outer scope t s items out at sound (DslxType-F.Struct name fields us) q e = none_some s e
    by_level context fs others bound outer scope t s items out at sound (DslxType-F.Enum name w n) q e = none_some s e
    by_level context fs others bound outer scope t s items out at sound DslxType-F.Token q e = none_some s e
