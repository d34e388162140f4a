-- Patterns that break no rule, against values of their type.
use Rattle.std.proofs.Common.{◌≡◌, ◌&&◌, ◌==◌, ℕ, suc, length, Bool, true, false, not, if◌then◌else◌, List, [], ◌∷◌, map, Option, Some, None, arith, refl, sym, ap, subst, ◌∙◌}
use mathlib.Core.Bool.{true≢false}
use Rattle.std.specs.Str.{bytes_eq}
use Rattle.std.proofs.lemmas.Bool.Decides.{Decides-eqb}
use Rattle.xb_span.specs.declared.span.Span.{Span}
use Rattle.dslx_meaning.specs.Lists.{and_then, or_else}
use Rattle.dslx_meaning.specs.Values.{same_value, elements_of, tuple_step}
use Rattle.dslx_meaning.specs.Environment.{Env, given_in, value_of_name, bind}
use Rattle.dslx_meaning.specs.Meaning.{PatternDen, fit_value, fit_each}
use Rattle.dslx_meaning.specs.declared.ty.DslxType.{DslxType, out-DslxType}
use Rattle.dslx_meaning.specs.declared.ty.DslxType as ty
use Rattle.dslx_meaning.specs.declared.ty.DslxType.TheOpen.{DslxType-F}
use Rattle.dslx_meaning.specs.declared.ty.DslxType.TheViews as type_views
use Rattle.dslx_meaning.specs.declared.value.DslxValue.{DslxValue}
use Rattle.dslx_meaning.specs.Rules.TypeEnvs.{TypeEnv, Typed, Judgement, breaks_if, has_broken, typed_in, with_typed}
use Rattle.dslx_meaning.specs.Rules.Typings.{PatternSeen, PatternPair}
use Rattle.dslx_meaning.specs.Rules.PatternRules.{one_value, shape_faults, part_types, part_types_in, tuple_pattern, parts_typing, name_pattern, constant_pattern, is_there}
use Rattle.dslx_core.proofs.Lemmas.Typing.Laws.{and_true}
use Rattle.dslx_core.specs.Typing.Typed.Kinds.{is_of, each_of}
use Rattle.dslx_core.specs.Typing.Typed.Declared.{IsDeclared, AllDeclared}
use Rattle.dslx_core.specs.Typing.Typed.Given.{GivesOf}
use Rattle.dslx_core.specs.Typing.Typed.WellTyped.{types_at, IsKnownValue, IsWellTypedEnv, FitsOrFails, Fits, Fails, PatternKeeps, EachKeeps}
use Rattle.dslx_core.proofs.OnTyping.OnTyped.TypingRelations.{none_some, same_some, unbroken_parts, three_unbroken, test_holds}
use Rattle.dslx_core.proofs.OnTyping.OnTyped.OfConstants.{bound_in_type_env}
use Rattle.dslx_core.proofs.OnTyping.OnTyped.OfTypes.{is_tuple_of}
use Rattle.dslx_core.proofs.OnTyping.OnTyped.OneName.{parts_declared}

-- ---- binding

-- one more name, with a value of its type
pub bound_keeps : (context : TypeEnv) (locals : List Typed) (env : Env) (name : List ℕ) (t : DslxType) (v : DslxValue) → IsWellTypedEnv (with_typed context locals) env → GivesOf (types_at context) t (Some v)
    → context.known.items.is_constant name ≡ false → IsWellTypedEnv (with_typed context (record { name = name; ty = Some t } ∷ locals)) (bind name v env)
bound_keeps context locals env name t v h g plain = record {
  locals = λ n u q. local n u (bytes_eq n name) (h.locals n u) q;
  parametric_args = λ n w q r. number n w (bytes_eq n name) (λ k. h.parametric_args n w k r) q;
  constants = λ n w q r c. constant n w (bytes_eq n name) (λ k. h.constants n w k r c) q;
  members = h.members;
  kinds = h.kinds;
  typed = λ n q. has_type n (bytes_eq n name) (h.typed n) q;
  valued = h.valued;
  place = bound_in_type_env context locals env.bound name (Some t) v plain h.place;
  items = h.items;
  known = h.known;
}
  where
    has_type : (n : List ℕ) (b : Bool) → (typed_in n locals ≡ Some None → ⊥) → (if b then Some (Some t) else typed_in n locals) ≡ Some None → ⊥
    has_type n true before q = none_some t (sym (same_some (Some t) None q))
    has_type n false before q = before q

    local : (n : List ℕ) (u : DslxType) (b : Bool) → (typed_in n locals ≡ Some (Some u) → GivesOf (types_at context) u (given_in n env.bound)) → (if b then Some (Some t) else typed_in n locals) ≡ Some (Some u)
        → GivesOf (types_at context) u (if b then Some v else given_in n env.bound)
    local n u true before q = subst (λ x. GivesOf (types_at context) x (Some v)) (same_some t u (same_some (Some t) (Some u) q)) g
    local n u false before q = before q

    number : (n : List ℕ) (w : DslxValue) (b : Bool) → (typed_in n locals ≡ None → IsKnownValue (types_at context) w (given_in n env.bound)) → (if b then Some (Some t) else typed_in n locals) ≡ None
        → IsKnownValue (types_at context) w (if b then Some v else given_in n env.bound)
    number n w true before q = none_some_option (sym q)
      where
        none_some_option : {X A : Type 0} {a : A} → None ≡ Some a → X
        none_some_option e = absurd (true≢false (sym (ap there e)))
          where
            there : {A : Type 0} → Option A → Bool
            there None = false
            there (Some a) = true
    number n w false before q = before q

    constant : (n : List ℕ) (w : DslxValue) (b : Bool) → (typed_in n locals ≡ None → IsKnownValue (types_at context) w (value_of_name n env)) → (if b then Some (Some t) else typed_in n locals) ≡ None
        → IsKnownValue (types_at context) w (or_else (if b then Some v else given_in n env.bound) (env.items.constant n))
    constant n w true before q = none_some_option (sym q)
      where
        none_some_option : {X A : Type 0} {a : A} → None ≡ Some a → X
        none_some_option e = absurd (true≢false (sym (ap there e)))
          where
            there : {A : Type 0} → Option A → Bool
            there None = false
            there (Some a) = true
    constant n w false before q = before q

-- ---- patterns that are one value

pub one_value_keeps : (span : Span) (may_fail : Bool) (context : TypeEnv) (t : Option DslxType) (names : List (List ℕ)) (locals : List Typed) (own : Judgement) (known : Bool) (env : Env) (w : Option DslxValue) (v : DslxValue)
    → IsWellTypedEnv (with_typed context locals) env → has_broken (one_value span may_fail t names locals own known).faults ≡ false
    → FitsOrFails may_fail context (one_value span may_fail t names locals own known) (fit_value w v env)
one_value_keeps span may_fail context t names locals own known env w v h f = by_value w
  where
    may : may_fail ≡ true
    may = test_holds may_fail 8 span (three_unbroken own.faults (shape_faults span t own.ty) (breaks_if (not may_fail) 8 span) f).2

    by_test : (u : DslxValue) (b : Bool) → same_value v u ≡ b → FitsOrFails may_fail context (one_value span may_fail t names locals own known) (fit_value (Some u) v env)
    by_test u true q = Fits env (ap (λ b. if b then Some env else None) q) h
    by_test u false q = Fails (ap (λ b. if b then Some env else None) q) may refl

    by_value : (w : Option DslxValue) → FitsOrFails may_fail context (one_value span may_fail t names locals own known) (fit_value w v env)
    by_value None = Fails refl may refl
    by_value (Some u) = by_test u (same_value v u) refl

-- ---- names

pub name_pattern_keeps : (span : Span) (name : List ℕ) → PatternKeeps (λ may_fail context t names locals. name_pattern span may_fail context t names locals name (context.known.items.is_constant name))
    (λ place v env. if env.items.is_constant name then fit_value (env.items.constant name) v env else Some (bind name v env))
name_pattern_keeps span name may_fail context t names locals place env v at h g f = by_kind (context.known.items.is_constant name) (h.kinds name) refl f
  where
    by_kind : (b : Bool) → env.items.is_constant name ≡ b → context.known.items.is_constant name ≡ b → has_broken (name_pattern span may_fail context (Some t) names locals name b).faults ≡ false
        → FitsOrFails may_fail context (name_pattern span may_fail context (Some t) names locals name b) (if env.items.is_constant name then fit_value (env.items.constant name) v env else Some (bind name v env))
    by_kind true q r k =
        subst (λ o. FitsOrFails may_fail context (name_pattern span may_fail context (Some t) names locals name true) o) (ap (λ b. if b then fit_value (env.items.constant name) v env else Some (bind name v env)) (sym q))
        (one_value_keeps span may_fail context (Some t) names locals (constant_pattern span context name (context.known.items.constant name)) (is_there (context.known.items.constant name)) env (env.items.constant name) v h k)
    by_kind false q r k =
        subst (λ o. FitsOrFails may_fail context (name_pattern span may_fail context (Some t) names locals name false) o) (ap (λ b. if b then fit_value (env.items.constant name) v env else Some (bind name v env)) (sym q))
        (Fits (bind name v env) refl (bound_keeps context locals env name t v h g r))

-- ---- tuples

each_keeps : (ps : List PatternPair) (ms : List PatternDen) → EachKeeps ps ms → (may_fail : Bool) (context : TypeEnv) (ts : List DslxType) (names : List (List ℕ)) (locals : List Typed) (place env : Env) (vs : List DslxValue)
    → length ts ≡ length ps → IsWellTypedEnv context place → IsWellTypedEnv (with_typed context locals) env → each_of (map is_of ts) vs ≡ true → AllDeclared (types_at context) ts → has_broken (parts_typing may_fail context ps (Some ts) names locals).faults ≡ false
    → FitsOrFails may_fail context (parts_typing may_fail context ps (Some ts) names locals) (fit_each place ms vs env)
each_keeps [] [] k may_fail context [] names locals place env [] n at h e d f = Fits env refl h
each_keeps [] [] k may_fail context [] names locals place env (v ∷ vs) n at h e d f = absurd (true≢false (sym e))
each_keeps [] [] k may_fail context (t ∷ ts) names locals place env vs n at h e d f = absurd (some_types n)
  where
    some_types : suc (length ts) ≡ 0 → ⊥
    some_types q = omega (arith, q)
each_keeps [] (m ∷ ms) k may_fail context ts names locals place env vs n at h e d f = absurd k
each_keeps (p ∷ ps) [] k may_fail context ts names locals place env vs n at h e d f = absurd k
each_keeps (p ∷ ps) (m ∷ ms) k may_fail context [] names locals place env vs n at h e d f = absurd (no_types n)
  where
    no_types : 0 ≡ suc (length ps) → ⊥
    no_types q = omega (arith, q)
each_keeps (p ∷ ps) (m ∷ ms) k may_fail context (t ∷ ts) names locals place env [] n at h e d f = absurd (true≢false (sym e))
each_keeps (p ∷ ps) (m ∷ ms) k may_fail context (t ∷ ts) names locals place env (v ∷ vs) n at h e d f =
    let first = p.1 may_fail context (Some t) names locals in
    let rest = parts_typing may_fail context ps (Some ts) first.names first.locals in
    let q = unbroken_parts first.faults rest.faults f in
    let r = and_true (is_of t v) (each_of (map is_of ts) vs) e in
    let fewer : length ts ≡ length ps = omega (arith, n) in
    behind (λ inner typed. each_keeps ps ms k.1 may_fail context ts first.names first.locals place inner vs fewer at typed r.1 d.1 q.1)
    (k.0 may_fail context t names locals place env v at h (record { value = v; is = refl; of = r.0; declared = d.0 }) q.0)
  where
    first_seen : PatternSeen
    first_seen = p.1 may_fail context (Some t) names locals

    rest_seen : PatternSeen
    rest_seen = parts_typing may_fail context ps (Some ts) first_seen.names first_seen.locals

    and_not : (b : Bool) → rest_seen.is_sure ≡ false → (b && rest_seen.is_sure) ≡ false
    and_not true x = x
    and_not false x = refl

    both_fit : (o : Option Env) → FitsOrFails may_fail context rest_seen o → FitsOrFails may_fail context (parts_typing may_fail context (p ∷ ps) (Some (t ∷ ts)) names locals) o
    both_fit o (Fits further is typed) = Fits further is typed
    both_fit o (Fails is may sure) = Fails is may (and_not first_seen.is_sure sure)

    behind : ((inner : Env) → IsWellTypedEnv (with_typed context first_seen.locals) inner → FitsOrFails may_fail context rest_seen (fit_each place ms vs inner)) → FitsOrFails may_fail context first_seen (m.fits place v env)
        → FitsOrFails may_fail context (parts_typing may_fail context (p ∷ ps) (Some (t ∷ ts)) names locals) (and_then (m.fits place v env) (fit_each place ms vs))
    behind go (Fits inner is typed) =
        subst (λ o. FitsOrFails may_fail context (parts_typing may_fail context (p ∷ ps) (Some (t ∷ ts)) names locals) o) (ap (λ o. and_then o (fit_each place ms vs)) (sym is)) (both_fit (fit_each place ms vs inner) (go inner typed))
    behind go (Fails is may sure) =
        Fails (ap (λ o. and_then o (fit_each place ms vs)) is) may (ap (λ b. b && rest_seen.is_sure) sure)

-- a type that has as many parts is a tuple
pub parts_of_type : (n : ℕ) (t : DslxType) (ts : List DslxType) → part_types n (Some t) ≡ Some ts → (t ≡ ty.Tuple ts) × (length ts ≡ n)
parts_of_type n t ts e = by_level (out-DslxType t) refl e
  where
    no_parts : {X : Type 0} → None ≡ Some ts → X
    no_parts q = absurd (true≢false (sym (ap is_there q)))

    by_count : (us : List DslxType) (b : Bool) → (length us == n) ≡ b → out-DslxType t ≡ DslxType-F.Tuple us → (if b then Some us else None) ≡ Some ts → (t ≡ ty.Tuple ts) × (length ts ≡ n)
    by_count us false c q h = no_parts h
    by_count us true c q h =
        let same = same_some us ts h in
        (sym (type_views.roll-out-DslxType t) ∙ ap type_views.roll-DslxType q ∙ type_views.rolls-Tuple us ∙ ap ty.Tuple same, sym (ap length same) ∙ (Decides-eqb (length us) n).0 c)

    by_level : (l : DslxType-F DslxType) → out-DslxType t ≡ l → part_types_in n l ≡ Some ts → (t ≡ ty.Tuple ts) × (length ts ≡ n)
    by_level (DslxType-F.Tuple us) q h = by_count us (length us == n) refl q h
    by_level (DslxType-F.Bits s w) q h = no_parts h
    by_level (DslxType-F.Array u k) q h = no_parts h
    by_level (DslxType-F.Struct name fields us) q h = no_parts h
    by_level (DslxType-F.Enum name s w) q h = no_parts h
    by_level DslxType-F.Token q h = no_parts h

pub tuple_pattern_keeps : (span : Span) (ps : List PatternPair) (ms : List PatternDen) → EachKeeps ps ms
    → PatternKeeps (λ may_fail context t names locals. tuple_pattern span t (part_types (length ps) t) (parts_typing may_fail context ps (part_types (length ps) t) names locals))
    (λ place v env. and_then (elements_of v) (λ vs. fit_each place ms vs env))
tuple_pattern_keeps span ps ms k may_fail context t names locals place env v at h g f = by_types (part_types (length ps) (Some t)) refl f
  where
    whole : Option (List DslxType) → PatternSeen
    whole o = tuple_pattern span (Some t) o (parts_typing may_fail context ps o names locals)

    same_fit : (ts : List DslxType) (o : Option Env) → FitsOrFails may_fail context (parts_typing may_fail context ps (Some ts) names locals) o → FitsOrFails may_fail context (whole (Some ts)) o
    same_fit ts o (Fits inner is typed) = Fits inner is typed
    same_fit ts o (Fails is may sure) = Fails is may sure

    by_types : (o : Option (List DslxType)) → part_types (length ps) (Some t) ≡ o → has_broken (whole o).faults ≡ false → FitsOrFails may_fail context (whole o) (and_then (elements_of v) (λ vs. fit_each place ms vs env))
    by_types None q e = absurd (true≢false e)
    by_types (Some ts) q e =
        let own = parts_of_type (length ps) t ts q in
        let value_is = same_some v g.value g.is in
        let parts = is_tuple_of ts v ((λ i. is_of (sym own.0 i) (value_is i)) ∙ g.of) in
        subst (λ o. FitsOrFails may_fail context (whole (Some ts)) o) (ap (λ l. and_then (tuple_step l) (λ vs. fit_each place ms vs env)) (sym parts.1))
        (same_fit ts (fit_each place ms parts.0 env)
        (each_keeps ps ms k may_fail context ts names locals place env parts.0 own.1 at h parts.2 (parts_declared (types_at context) ts (subst (IsDeclared (types_at context)) own.0 g.declared)) e))
