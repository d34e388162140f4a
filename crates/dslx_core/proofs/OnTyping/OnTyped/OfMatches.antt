-- What a `match` gives.
use Rattle.std.proofs.Common.{◌≡◌, ◌&&◌, ◌||◌, ◌++◌, Bool, true, false, if◌then◌else◌, List, [], ◌∷◌, map, Option, Some, None, refl, sym, ap, subst, ◌∙◌}
use mathlib.Core.Bool.{true≢false}
use Rattle.std.specs.List.{list_all}
use Rattle.xb_span.specs.declared.span.Span.{Span}
use Rattle.dslx_meaning.specs.Lists.{all_some, and_then, where_true}
use Rattle.dslx_meaning.specs.Types.{same_type}
use Rattle.dslx_meaning.specs.Environment.{Env}
use Rattle.dslx_meaning.specs.Meaning.{ArmDen, all_names, first_fit, take_arm, value_without, match_arms}
use Rattle.dslx_meaning.specs.declared.ty.DslxType.{DslxType}
use Rattle.dslx_meaning.specs.declared.value.DslxValue.{DslxValue}
use Rattle.dslx_meaning.specs.Rules.TypeEnvs.{TypeEnv, ExprPair, alone, types_of}
use Rattle.dslx_meaning.specs.Rules.Typings.{ArmSeen}
use Rattle.dslx_meaning.specs.Rules.ConstantRules.{is_empty}
use Rattle.dslx_meaning.specs.Rules.PatternRules.{is_there}
use Rattle.dslx_meaning.specs.Rules.ControlRules.{arm_typing, arm_values, all_known, all_like, differ, some_binds, not_exhaustive, first_of_types, match_faults, arms_faults, match_typing}
use Rattle.dslx_core.proofs.Lemmas.Typing.Laws.{and_true}
use Rattle.dslx_core.specs.Typing.Typed.Kinds.{is_of}
use Rattle.dslx_core.specs.Typing.Typed.Declared.{IsDeclared}
use Rattle.dslx_core.specs.Typing.Typed.Given.{GivesOf, GivesItsType}
use Rattle.dslx_core.specs.Typing.Typed.WellTyped.{types_at, comes_to_an_arm, EachArmGives}
use Rattle.dslx_core.proofs.OnTyping.OnTyped.TypingRelations.{none_some, same_some, or_false, not_false, unbroken_parts, rule_holds, settled_type}
use Rattle.dslx_core.proofs.OnTyping.OnTyped.OneName.{list_parts, one_of_text, like_itself}
use Rattle.dslx_core.proofs.Lemmas.Typing.Typed.OfLists.{all_there}
use Rattle.dslx_core.proofs.OnTyping.OnTyped.OfAggregates.{and_then_type}

-- ---- the arm that is taken

-- an arm whose type is this one, by the test
abbrev Alike : TypeEnv → Option DslxType → DslxType → List ArmSeen → Type 0
Alike context t u [] = Unit {0}
Alike context t u (a ∷ as') = ((w : DslxType) × ((arm_typing context t a).value.ty ≡ Some w) × (same_type u w ≡ true)) × Alike context t u as'

one_arm : (context : TypeEnv) (t : Option DslxType) (u : DslxType) (a : ArmSeen) (o : Option DslxValue) → IsDeclared (types_at context) u
    → ((w : DslxType) × ((arm_typing context t a).value.ty ≡ Some w) × (same_type u w ≡ true)) → GivesItsType (types_at context) (arm_typing context t a).value o → GivesOf (types_at context) u o
one_arm context t u a o d w gives =
    let g = gives w.0 w.1 in
    subst (λ x. GivesOf (types_at context) x o) (sym (one_of_text (types_at context) u w.0 w.2 d g.declared)) g

taken : (context : TypeEnv) (t : Option DslxType) (u : DslxType) (as' : List ArmSeen) (ms : List ArmDen) (v : DslxValue) (env : Env) → IsDeclared (types_at context) u → Alike context t u as'
    → EachArmGives context t as' ms v env → comes_to_an_arm ms v env ≡ true → GivesOf (types_at context) u (match_arms ms v env)
taken context t u [] [] v env d k h c = absurd (true≢false (sym c))
taken context t u [] (m ∷ ms) v env d k h c = absurd h
taken context t u (a ∷ as') [] v env d k h c = absurd h
taken context t u (a ∷ []) (m ∷ []) v env d k h c = by_fit (first_fit m.patterns v env) refl c
  where
    by_fit : (o : Option Env) → first_fit m.patterns v env ≡ o → (is_there o || list_all env.items.is_constant (all_names m.patterns)) ≡ true
        → GivesOf (types_at context) u (take_arm m o (value_without m env))
    by_fit (Some inner) q e = one_arm context t u a (m.value inner) d k.0 (h.0.behind inner q)
    by_fit None q e = subst (λ b. GivesOf (types_at context) u (if b then m.value env else None)) (sym e) (one_arm context t u a (m.value env) d k.0 (h.0.here e))
taken context t u (a ∷ []) (m ∷ n ∷ ms) v env d k h c = absurd h.1
taken context t u (a ∷ b ∷ as') (m ∷ []) v env d k h c = absurd h.1
taken context t u (a ∷ b ∷ as') (m ∷ n ∷ ms) v env d k h c = by_fit (first_fit m.patterns v env) refl c (taken context t u (b ∷ as') (n ∷ ms) v env d k.1 h.1)
  where
    by_fit : (o : Option Env) → first_fit m.patterns v env ≡ o → (is_there o || comes_to_an_arm (n ∷ ms) v env) ≡ true
        → (comes_to_an_arm (n ∷ ms) v env ≡ true → GivesOf (types_at context) u (match_arms (n ∷ ms) v env)) → GivesOf (types_at context) u (take_arm m o (match_arms (n ∷ ms) v env))
    by_fit (Some inner) q e rest = one_arm context t u a (m.value inner) d k.0 (h.0.behind inner q)
    by_fit None q e rest = rest e

-- ---- the types of the arms

alike_all : (context : TypeEnv) (t : Option DslxType) (u : DslxType) (as' : List ArmSeen) (us : List DslxType) → types_of (arm_values (map (arm_typing context t) as')) ≡ map Some us → all_like u us ≡ true → Alike context t u as'
alike_all context t u [] us e h = tt
alike_all context t u (a ∷ as') [] e h = absurd (true≢false (ap some e))
  where
    some : List (Option DslxType) → Bool
    some [] = false
    some (x ∷ xs) = true
alike_all context t u (a ∷ as') (w ∷ us) e h =
    let q = list_parts (arm_typing context t a).value.ty (Some w) (types_of (arm_values (map (arm_typing context t) as'))) (map Some us) e in
    let r = and_true (same_type u w) (all_like u us) h in
    ((w, q.0, r.0), alike_all context t u as' us q.1 r.1)

-- the type of the first arm is declared
first_declared : (context : TypeEnv) (t : Option DslxType) (u : DslxType) (as' : List ArmSeen) (ms : List ArmDen) (us : List DslxType) (v : DslxValue) (env : Env) → EachArmGives context t as' ms v env
    → types_of (arm_values (map (arm_typing context t) as')) ≡ map Some (u ∷ us) → IsDeclared (types_at context) u
first_declared context t u [] ms us v env h e = absurd (true≢false (sym (ap some e)))
  where
    some : List (Option DslxType) → Bool
    some [] = false
    some (x ∷ xs) = true
first_declared context t u (a ∷ as') [] us v env h e = absurd h
first_declared context t u (a ∷ as') (m ∷ ms) us v env h e =
    h.0.declared u (list_parts (arm_typing context t a).value.ty (Some u) (types_of (arm_values (map (arm_typing context t) as'))) (map Some us) e).0

-- a type is like itself, so the first arm is like the first one
first_alike : (context : TypeEnv) (t : Option DslxType) (u : DslxType) (as' : List ArmSeen) (us : List DslxType) → types_of (arm_values (map (arm_typing context t) as')) ≡ map Some (u ∷ us) → all_like u us ≡ true → same_type u u ≡ true
    → Alike context t u as'
first_alike context t u as' us e h itself = alike_all context t u as' (u ∷ us) e (λ i. itself i && h i)

pub match_gives : (span : Span) (context : TypeEnv) (e : ExprPair) (arms : List ArmSeen) (ms : List ArmDen) (x : Option DslxValue) (env : Env) → GivesItsType (types_at context) (alone context e) x
    → ((v : DslxValue) → x ≡ Some v → EachArmGives context (alone context e).ty arms ms v env × (comes_to_an_arm ms v env ≡ true))
    → GivesItsType (types_at context) (match_typing span context e arms) (and_then x (λ v. match_arms ms v env))
match_gives span context e arms ms x env gives each t h =
    let value = alone context e in
    let js = map (arm_typing context value.ty) arms in
    let s = settled_type (and_then value.ty (λ t. where_true (all_known js) (first_of_types (all_some (types_of (arm_values js)))))) ((value.faults ++ arms_faults js) ++ match_faults span context value.ty js) t h in
    let f = unbroken_parts (value.faults ++ arms_faults js) (match_faults span context value.ty js) s.0 in
    let q = and_then_type value.ty (λ t. where_true (all_known js) (first_of_types (all_some (types_of (arm_values js))))) t s.1 in
    let wrong = rule_holds (((is_empty js || some_binds js) || differ (all_some (types_of (arm_values js)))) || not_exhaustive context js value.ty) 24 span f.1 in
    let alike = (or_false (is_empty js || some_binds js) (differ (all_some (types_of (arm_values js)))) (or_false ((is_empty js || some_binds js) || differ (all_some (types_of (arm_values js)))) (not_exhaustive context js value.ty) wrong).0).1 in
    let g = gives q.0 q.1 in
    let arm = each g.value g.is in
    by_types (all_some (types_of (arm_values js))) refl (known (all_known js) (first_of_types (all_some (types_of (arm_values js)))) q.2) alike g arm.0 arm.1
  where
    known : (b : Bool) (o : Option DslxType) → where_true b o ≡ Some t → o ≡ Some t
    known true o k = k
    known false o k = none_some t k

    by_types : (o : Option (List DslxType)) → all_some (types_of (arm_values (map (arm_typing context (alone context e).ty) arms))) ≡ o → first_of_types o ≡ Some t → differ o ≡ false → {k : DslxType} → (g : GivesOf (types_at context) k x)
        → EachArmGives context (alone context e).ty arms ms g.value env → comes_to_an_arm ms g.value env ≡ true → GivesOf (types_at context) t (and_then x (λ v. match_arms ms v env))
    by_types None q k d g h c = none_some t k
    by_types (Some []) q k d g h c = none_some t k
    by_types (Some (u ∷ us)) q k d g h c =
        let there = all_there (types_of (arm_values (map (arm_typing context (alone context e).ty) arms))) (u ∷ us) q in
        let own = first_declared context (alone context e).ty u arms ms us g.value env h there in
        let m = taken context (alone context e).ty u arms ms g.value env own (first_alike context (alone context e).ty u arms us there (not_false (all_like u us) d) (like_itself u)) h c in
        let same = same_some u t k in
        record {
          value = m.value;
          is = ap (λ o. and_then o (λ v. match_arms ms v env)) g.is ∙ m.is;
          of = ap (λ z. is_of z m.value) (sym same) ∙ m.of;
          declared = subst (IsDeclared (types_at context)) same m.declared;
        }
