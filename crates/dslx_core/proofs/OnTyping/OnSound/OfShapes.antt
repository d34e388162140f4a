-- Patterns, where nothing is wrong with them: the type environment behind them, whether they fit or not.
use Rattle.std.proofs.Common.{◌≡◌, ◌&&◌, ◌||◌, ℕ, suc, length, Bool, true, false, not, if◌then◌else◌, List, [], ◌∷◌, map, Option, Some, None, arith, refl, sym, ap, subst, ◌∙◌}
use mathlib.Core.Bool.{true≢false}
use Rattle.std.specs.List.{list_all}
use Rattle.xb_span.specs.declared.span.Span.{Span}
use Rattle.dslx_tree.specs.declared.ident.Ident.{Ident}
use Rattle.dslx_meaning.specs.Lists.{and_then}
use Rattle.dslx_meaning.specs.Types.{bool_type}
use Rattle.dslx_meaning.specs.Values.{bool_value, elements_of}
use Rattle.dslx_meaning.specs.Environment.{Env, bind}
use Rattle.dslx_meaning.specs.Meaning.{ValueDen, PatternDen, all_names, fit_each, fit_value}
use Rattle.dslx_meaning.specs.declared.ty.DslxType.{DslxType, out-DslxType}
use Rattle.dslx_meaning.specs.declared.ty.DslxType.TheOpen.{DslxType-F}
use Rattle.dslx_meaning.specs.declared.value.DslxValue.{DslxValue}
use Rattle.dslx_meaning.specs.Rules.AggregateRules.{is_some_tuple}
use Rattle.dslx_meaning.specs.Rules.ConstantRules.{is_empty}
use Rattle.dslx_meaning.specs.Rules.TypeEnvs.{Judgement, TypeEnv, Typed, breaks_if, has_broken, unlimited, with_typed}
use Rattle.dslx_meaning.specs.Rules.Typings.{PatternPair, PatternSeen, TypeExprTyping}
use Rattle.dslx_meaning.specs.Rules.NameRules.{member_typing}
use Rattle.dslx_meaning.specs.Rules.PatternRules.{first_part_type, is_there, name_pattern, nothing_bound, one_value, other_part_types, part_types, part_types_in, parts_typing, shape_faults, tuple_faults, tuple_pattern}
use Rattle.dslx_core.specs.Typing.Typed.Complete.{IsWellTypedPart}
use Rattle.dslx_core.specs.Typing.Typed.Declared.{AllDeclared, IsDeclared}
use Rattle.dslx_core.specs.Typing.Typed.Given.{GivesOf}
use Rattle.dslx_core.specs.Typing.Typed.Kinds.{each_of, is_of}
use Rattle.dslx_core.specs.Typing.Typed.WellTyped.{EachKeeps, Fits, IsWellTypedEnv, types_at}
use Rattle.dslx_core.proofs.Lemmas.Typing.Typed.{bound_keeps, is_tuple_of, name_pattern_keeps, one_value_keeps, parts_declared, parts_of_type, same_some, tuple_pattern_keeps, unbroken_parts}
use Rattle.dslx_core.specs.Typing.Sound.Scopes.{IsWellTypedPattern}
use Rattle.dslx_core.specs.Typing.Sound.Sound.{EachPatternGives, PartGives, PatternGives}
use Rattle.dslx_core.proofs.OnTyping.OnSound.OfNames.{member_has}
use Rattle.dslx_core.proofs.OnTyping.OnSound.WellTypedParts.{all_in, none_in, none_in_three}

there_is : {A : Type 0} (o : Option A) (a : A) → o ≡ Some a → is_there o ≡ true
there_is o a e = ap is_there e

or_true : (b : Bool) → (b || true) ≡ true
or_true true = refl
or_true false = refl

both_true : (p q : Bool) → (p && q) ≡ true → (p ≡ true) × (q ≡ true)
both_true true q e = (refl, e)
both_true false q e = absurd (true≢false (sym e))

-- ---- patterns without names

pub wild_gives : PatternGives (λ may_fail context t names locals. record (nothing_bound names locals) { size = 1 }) (record { names = []; fits = λ place v env. Some env })
wild_gives = record {
  keeps = λ may_fail context t names locals place env v at h g f. Fits env refl h;
  behind = λ may_fail context t names locals env v h g f. (env, h);
  known = λ may_fail context t names locals env h well_typed. refl;
  plain = λ may_fail context t names locals e. refl;
  unbound = λ may_fail context t names locals e. (refl, e);
  whole = λ may_fail context t names locals place env v other h f. refl;
}

-- a pattern that is one value, of which this judgement is known
pub value_gives : (span : Span) (own : TypeEnv → Judgement) (known : TypeEnv → Bool) (value : Env → ValueDen)
    → ((context : TypeEnv) (env : Env) → IsWellTypedEnv context env → IsWellTypedPart context.known (own context) → known context ≡ true)
    → PatternGives (λ may_fail context t names locals. one_value span may_fail t names locals (own context) (known context)) (record { names = []; fits = λ place v env. fit_value (value place env) v env })
value_gives span own known value is = record {
  keeps = λ may_fail context t names locals place env v at h g f. one_value_keeps span may_fail context (Some t) names locals (own context) (known context) env (value place env) v h f;
  behind = λ may_fail context t names locals env v h g f. (env, h);
  known = λ may_fail context t names locals env h well_typed.
      is context env h (record { faults = (none_in_three (own context).faults (shape_faults span t (own context).ty) (breaks_if (not may_fail) 8 span) well_typed.faults).0; reached = well_typed.reached });
  plain = λ may_fail context t names locals e. refl;
  unbound = λ may_fail context t names locals e. (refl, e);
  whole = λ may_fail context t names locals place env v other h f. refl;
}

pub bool_pattern_gives : (span : Span) (b : Bool)
    → PatternGives (λ may_fail context t names locals. one_value span may_fail t names locals (unlimited (Some bool_type) [] [] (Some 1)) true) (record { names = []; fits = λ place v env. fit_value (Some (bool_value b)) v env })
bool_pattern_gives span b = value_gives span (λ context. unlimited (Some bool_type) [] [] (Some 1)) (λ context. true) (λ place env. Some (bool_value b)) (λ context env h well_typed. refl)

pub number_pattern_gives : (span : Span) (j : TypeExprTyping) (value : ValueDen) → PartGives j value
    → PatternGives (λ may_fail context t names locals. one_value span may_fail t names locals (j context) (is_there (j context).ty)) (record { names = []; fits = λ place v env. fit_value (value place) v env })
number_pattern_gives span j value g = value_gives span j (λ context. is_there (j context).ty) (λ place env. value place) (λ context env h well_typed. let k = g context env h well_typed in there_is (j context).ty k.0 k.1)

pub member_pattern_gives : (span : Span) (e a : Ident)
    → PatternGives (λ may_fail context t names locals. one_value span may_fail t names locals (member_typing context e a) (is_there (context.known.items.member e.name a.name)))
    (record { names = []; fits = λ place v env. fit_value (env.items.member e.name a.name) v env })
member_pattern_gives span e a = value_gives span (λ context. member_typing context e a) (λ context. is_there (context.known.items.member e.name a.name)) (λ place env. env.items.member e.name a.name)
    (λ context env h well_typed. let k = member_has context e a env h well_typed in there_is (context.known.items.member e.name a.name) k.2.value (sym (λ i. (h.items i).member e.name a.name) ∙ k.2.is))

-- ---- names

pub name_pattern_gives : (span : Span) (name : List ℕ)
    → PatternGives (λ may_fail context t names locals. name_pattern span may_fail context t names locals name (context.known.items.is_constant name))
    (record { names = name ∷ []; fits = λ place v env. if env.items.is_constant name then fit_value (env.items.constant name) v env else Some (bind name v env) })
name_pattern_gives span name = record {
  keeps = name_pattern_keeps span name;
  behind = λ may_fail context t names locals env v h g f. behind may_fail context t names locals env v h g (context.known.items.is_constant name) refl;
  known = λ may_fail context t names locals env h well_typed. known may_fail context t names locals env h (context.known.items.is_constant name) refl;
  plain = λ may_fail context t names locals e. plain may_fail context t names locals (context.known.items.is_constant name) e;
  unbound = λ may_fail context t names locals e. unbound may_fail context t names locals (context.known.items.is_constant name) e;
  whole = λ may_fail context t names locals place env v other h f. fits_or_constant context env v (context.known.items.is_constant name) (h.kinds name);
}
  where
    behind : (may_fail : Bool) (context : TypeEnv) (t : DslxType) (names : List (List ℕ)) (locals : List Typed) (env : Env) (v : DslxValue) → IsWellTypedEnv (with_typed context locals) env → GivesOf (types_at context) t (Some v)
        → (b : Bool) → context.known.items.is_constant name ≡ b → (inner : Env) × IsWellTypedEnv (with_typed context (name_pattern span may_fail context (Some t) names locals name b).locals) inner
    behind may_fail context t names locals env v h g true q = (env, h)
    behind may_fail context t names locals env v h g false q = (bind name v env, bound_keeps context locals env name t v h g q)

    known : (may_fail : Bool) (context : TypeEnv) (t : Option DslxType) (names : List (List ℕ)) (locals : List Typed) (env : Env) → IsWellTypedEnv context env → (b : Bool) → context.known.items.is_constant name ≡ b
        → (name_pattern span may_fail context t names locals name b).is_known ≡ true
    known may_fail context t names locals env h true q = let v = h.known.constants name q in there_is (context.known.items.constant name) v.0 v.1
    known may_fail context t names locals env h false q = refl

    plain : (may_fail : Bool) (context : TypeEnv) (t : Option DslxType) (names : List (List ℕ)) (locals : List Typed) (b : Bool) → (b && true) ≡ true → (name_pattern span may_fail context t names locals name b).locals ≡ locals
    plain may_fail context t names locals true e = refl
    plain may_fail context t names locals false e = absurd (true≢false (sym e))

    unbound : (may_fail : Bool) (context : TypeEnv) (t : Option DslxType) (names : List (List ℕ)) (locals : List Typed) (b : Bool) → is_empty (name_pattern span may_fail context t names locals name b).names ≡ true
        → ((name_pattern span may_fail context t names locals name b).locals ≡ locals) × (is_empty names ≡ true)
    unbound may_fail context t names locals true e = (refl, e)
    unbound may_fail context t names locals false e = absurd (true≢false (sym e))

    fits_or_constant : (context : TypeEnv) (env : Env) (v : DslxValue) (b : Bool) → env.items.is_constant name ≡ b
        → ((b && true) || is_there (if env.items.is_constant name then fit_value (env.items.constant name) v env else Some (bind name v env))) ≡ true
    fits_or_constant context env v true q = refl
    fits_or_constant context env v false q = ap (λ b. is_there (if b then fit_value (env.items.constant name) v env else Some (bind name v env))) q

-- ---- tuples

all_keeps : (ps : List PatternPair) (ms : List PatternDen) → EachPatternGives ps ms → EachKeeps ps ms
all_keeps [] [] k = tt
all_keeps [] (m ∷ ms) k = absurd k
all_keeps (p ∷ ps) [] k = absurd k
all_keeps (p ∷ ps) (m ∷ ms) k = (k.0.keeps, all_keeps ps ms k.1)

each_behind : (ps : List PatternPair) (ms : List PatternDen) → EachPatternGives ps ms → (may_fail : Bool) (context : TypeEnv) (ts : List DslxType) (names : List (List ℕ)) (locals : List Typed) (env : Env) (vs : List DslxValue)
    → length ts ≡ length ps → IsWellTypedEnv (with_typed context locals) env → each_of (map is_of ts) vs ≡ true → AllDeclared (types_at context) ts → has_broken (parts_typing may_fail context ps (Some ts) names locals).faults ≡ false
    → (inner : Env) × IsWellTypedEnv (with_typed context (parts_typing may_fail context ps (Some ts) names locals).locals) inner
each_behind [] ms k may_fail context ts names locals env vs n h e d f = (env, h)
each_behind (p ∷ ps) [] k may_fail context ts names locals env vs n h e d f = absurd k
each_behind (p ∷ ps) (m ∷ ms) k may_fail context [] names locals env vs n h e d f = absurd (no_types n)
  where
    no_types : 0 ≡ suc (length ps) → ⊥
    no_types q = omega (arith, q)
each_behind (p ∷ ps) (m ∷ ms) k may_fail context (t ∷ ts) names locals env [] n h e d f = absurd (true≢false (sym e))
each_behind (p ∷ ps) (m ∷ ms) k may_fail context (t ∷ ts) names locals env (v ∷ vs) n h e d f =
    let first = p.1 may_fail context (Some t) names locals in
    let rest = parts_typing may_fail context ps (Some ts) first.names first.locals in
    let q = unbroken_parts first.faults rest.faults f in
    let r = both_true (is_of t v) (each_of (map is_of ts) vs) e in
    let fewer : length ts ≡ length ps = omega (arith, n) in
    let one = k.0.behind may_fail context t names locals env v h (record { value = v; is = refl; of = r.0; declared = d.0 }) q.0 in
    each_behind ps ms k.1 may_fail context ts first.names first.locals one.0 vs fewer one.1 r.1 d.1 q.1

each_plain : (ps : List PatternPair) (ms : List PatternDen) → EachPatternGives ps ms → (may_fail : Bool) (context : TypeEnv) (ts : Option (List DslxType)) (names : List (List ℕ)) (locals : List Typed)
    → list_all context.known.items.is_constant (all_names ms) ≡ true → (parts_typing may_fail context ps ts names locals).locals ≡ locals
each_plain [] ms k may_fail context ts names locals e = refl
each_plain (p ∷ ps) [] k may_fail context ts names locals e = absurd k
each_plain (p ∷ ps) (m ∷ ms) k may_fail context ts names locals e =
    let first = p.1 may_fail context (first_part_type ts) names locals in
    let q = all_in context.known.items.is_constant m.names (all_names ms) e in
    each_plain ps ms k.1 may_fail context (other_part_types ts) first.names first.locals q.1 ∙ k.0.plain may_fail context (first_part_type ts) names locals q.0

each_unbound : (ps : List PatternPair) (ms : List PatternDen) → EachPatternGives ps ms → (may_fail : Bool) (context : TypeEnv) (ts : Option (List DslxType)) (names : List (List ℕ)) (locals : List Typed)
    → is_empty (parts_typing may_fail context ps ts names locals).names ≡ true → ((parts_typing may_fail context ps ts names locals).locals ≡ locals) × (is_empty names ≡ true)
each_unbound [] ms k may_fail context ts names locals e = (refl, e)
each_unbound (p ∷ ps) [] k may_fail context ts names locals e = absurd k
each_unbound (p ∷ ps) (m ∷ ms) k may_fail context ts names locals e =
    let first = p.1 may_fail context (first_part_type ts) names locals in
    let rest = each_unbound ps ms k.1 may_fail context (other_part_types ts) first.names first.locals e in
    let one = k.0.unbound may_fail context (first_part_type ts) names locals rest.1 in
    (rest.0 ∙ one.0, one.1)

each_known : (ps : List PatternPair) (ms : List PatternDen) → EachPatternGives ps ms → (may_fail : Bool) (context : TypeEnv) (ts : Option (List DslxType)) (names : List (List ℕ)) (locals : List Typed) (env : Env) → IsWellTypedEnv context env
    → IsWellTypedPattern context (parts_typing may_fail context ps ts names locals) → (parts_typing may_fail context ps ts names locals).is_known ≡ true
each_known [] ms k may_fail context ts names locals env h well_typed = refl
each_known (p ∷ ps) [] k may_fail context ts names locals env h well_typed = absurd k
each_known (p ∷ ps) (m ∷ ms) k may_fail context ts names locals env h well_typed =
    let first = p.1 may_fail context (first_part_type ts) names locals in
    let rest = parts_typing may_fail context ps (other_part_types ts) first.names first.locals in
    let q = none_in first.faults rest.faults well_typed.faults in
    let r = all_in context.known.is_sound first.reached rest.reached well_typed.reached in
    λ i. k.0.known may_fail context (first_part_type ts) names locals env h (record { faults = q.0; reached = r.0 }) i
    && each_known ps ms k.1 may_fail context (other_part_types ts) first.names first.locals env h (record { faults = q.1; reached = r.1 }) i

pub tuple_pattern_gives : (span : Span) (ps : List PatternPair) (ms : List PatternDen) → EachPatternGives ps ms
    → PatternGives (λ may_fail context t names locals. tuple_pattern span t (part_types (length ps) t) (parts_typing may_fail context ps (part_types (length ps) t) names locals))
    (record { names = all_names ms; fits = λ place v env. and_then (elements_of v) (λ vs. fit_each place ms vs env) })
tuple_pattern_gives span ps ms k = record {
  keeps = tuple_pattern_keeps span ps ms (all_keeps ps ms k);
  behind = λ may_fail context t names locals env v h g f. behind may_fail context t names locals env v h g (part_types (length ps) (Some t)) refl f;
  known = λ may_fail context t names locals env h well_typed.
      let parts = parts_typing may_fail context ps (part_types (length ps) t) names locals in
      each_known ps ms k may_fail context (part_types (length ps) t) names locals env h (record { faults = (none_in (tuple_faults span t (part_types (length ps) t)) parts.faults well_typed.faults).1; reached = well_typed.reached });
  plain = λ may_fail context t names locals e. each_plain ps ms k may_fail context (part_types (length ps) t) names locals e;
  unbound = λ may_fail context t names locals e. each_unbound ps ms k may_fail context (part_types (length ps) t) names locals e;
  whole = λ may_fail context t names locals place env v other h f. no_tuple may_fail context t names locals place env v (out-DslxType t) other f;
}
  where
    abbrev_whole : Bool → TypeEnv → DslxType → List (List ℕ) → List Typed → Option (List DslxType) → PatternSeen
    abbrev_whole may_fail context t names locals o = tuple_pattern span (Some t) o (parts_typing may_fail context ps o names locals)

    behind : (may_fail : Bool) (context : TypeEnv) (t : DslxType) (names : List (List ℕ)) (locals : List Typed) (env : Env) (v : DslxValue) → IsWellTypedEnv (with_typed context locals) env → GivesOf (types_at context) t (Some v)
        → (o : Option (List DslxType)) → part_types (length ps) (Some t) ≡ o → has_broken (abbrev_whole may_fail context t names locals o).faults ≡ false
        → (inner : Env) × IsWellTypedEnv (with_typed context (abbrev_whole may_fail context t names locals o).locals) inner
    behind may_fail context t names locals env v h g None q f = absurd (true≢false f)
    behind may_fail context t names locals env v h g (Some ts) q f =
        let own = parts_of_type (length ps) t ts q in
        let value_is = same_some v g.value g.is in
        let parts = is_tuple_of ts v ((λ i. is_of (sym own.0 i) (value_is i)) ∙ g.of) in
        each_behind ps ms k may_fail context ts names locals env parts.0 own.1 h parts.2 (parts_declared (types_at context) ts (subst (IsDeclared (types_at context)) own.0 g.declared)) f

    no_tuple : (may_fail : Bool) (context : TypeEnv) (t : DslxType) (names : List (List ℕ)) (locals : List Typed) (place env : Env) (v : DslxValue) (l : DslxType-F DslxType) → is_some_tuple l ≡ false
        → has_broken (abbrev_whole may_fail context t names locals (part_types_in (length ps) l)).faults ≡ false
        → (list_all context.known.items.is_constant (all_names ms) || is_there (and_then (elements_of v) (λ vs. fit_each place ms vs env))) ≡ true
    no_tuple may_fail context t names locals place env v (DslxType-F.Tuple ts) other f = absurd (true≢false other)
    no_tuple may_fail context t names locals place env v (DslxType-F.Bits s w) other f = absurd (true≢false f)
    no_tuple may_fail context t names locals place env v (DslxType-F.Array u n) other f = absurd (true≢false f)
    no_tuple may_fail context t names locals place env v (DslxType-F.Struct name fields ts) other f = absurd (true≢false f)
    no_tuple may_fail context t names locals place env v (DslxType-F.Enum name s w) other f = absurd (true≢false f)
    no_tuple may_fail context t names locals place env v DslxType-F.Token other f = absurd (true≢false f)
