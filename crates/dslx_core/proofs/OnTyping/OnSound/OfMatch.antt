-- `match`, where nothing is wrong with it: each value comes to an arm, and all arms have values of one type.
use Rattle.std.proofs.Common.{◌≡◌, ◌&&◌, ◌||◌, ◌++◌, Bool, true, false, not, if◌then◌else◌, List, [], ◌∷◌, map, Option, Some, None, refl, sym, ap, subst, ◌∙◌}
use mathlib.Core.Bool.{true≢false}
use Rattle.std.specs.Prelude.{nat_le, ◌^◌}
use Rattle.std.specs.List.{list_all}
use Rattle.xb_span.specs.declared.fault.Fault.{Fault}
use Rattle.xb_span.specs.declared.span.Span.{Span}
use Rattle.dslx_meaning.specs.Lists.{all_some, and_then, last_of, or_else, where_true}
use Rattle.dslx_meaning.specs.Types.{flat_bits}
use Rattle.dslx_meaning.specs.Environment.{Env}
use Rattle.dslx_meaning.specs.Meaning.{ArmDen, ExprDen, PatternDen, all_names, first_fit, fits_in_scope, match_arms}
use Rattle.dslx_meaning.specs.declared.ty.DslxType.{DslxType, out-DslxType}
use Rattle.dslx_meaning.specs.declared.ty.DslxType.TheOpen.{DslxType-F}
use Rattle.dslx_meaning.specs.declared.value.DslxValue.{DslxValue}
use Rattle.dslx_meaning.specs.Rules.AggregateRules.{is_some_tuple}
use Rattle.dslx_meaning.specs.Rules.ConstantRules.{is_empty}
use Rattle.dslx_meaning.specs.Rules.ControlRules.{AlternativesSeen, ArmTyping, all_known, all_words_match, alternatives_seen, arm_typing, arm_values, arms_faults, arms_reached, arms_size, differ, first_of_types, has_several, is_exhaustive, is_exhaustive_in, last_is_sure, match_faults, match_typing, no_alternative, not_exhaustive, one_alternative, some_binds, values_match}
use Rattle.dslx_meaning.specs.Rules.TypeEnvs.{ExprPair, Judgement, TypeEnv, alone, has_broken, one_and, plus_size, types_of, with_typed}
use Rattle.dslx_meaning.specs.Rules.Typings.{ArmSeen, PatternPair, PatternSeen}
use Rattle.dslx_meaning.specs.Rules.PatternRules.{is_there}
use Rattle.dslx_core.specs.Typing.Typed.Complete.{IsWellTypedPart}
use Rattle.dslx_core.specs.Typing.Typed.Given.{GivesItsType, GivesOf, IsSized}
use Rattle.dslx_core.specs.Typing.Typed.WellTyped.{ArmGives, EachArmGives, Fails, Fits, FitsOrFails, IsWellTypedEnv, comes_to_an_arm, types_at}
use Rattle.dslx_core.proofs.Lemmas.Typing.Typed.{all_are, match_gives, none_some, not_false, or_false, same_some}
use Rattle.dslx_core.specs.Typing.Sound.Scopes.{IsWellTypedPattern}
use Rattle.dslx_core.specs.Typing.Sound.Sound.{ArmHasValue, EachArmHasValue, EachPatternGives, ExprGives, HasTypedValue, NarrowComes}
use Rattle.dslx_core.proofs.OnTyping.OnSound.WellTypedParts.{IsSettled, all_in, all_in_three, alone_has, given, none_in, none_in_three, not_broken, one_sized, plus_sized, settled_well_typed, sized_if, some_fault, whole}

-- ---- the alternatives of an arm

-- nothing that they break or pass, and nothing that they reach does
pub record AreWellTyped (context : TypeEnv) (seen : AlternativesSeen) : Type 0 where
  pub faults : seen.faults ≡ []
  pub reached : list_all context.known.is_sound seen.reached ≡ true

pub first_well_typed : (context : TypeEnv) (t : Option DslxType) (p : PatternPair) (ps : List PatternPair) → AreWellTyped context (alternatives_seen context t (p ∷ ps))
    → IsWellTypedPattern context (one_alternative context t p (alternatives_seen context t ps)) × AreWellTyped context (alternatives_seen context t ps)
first_well_typed context t p ps well_typed =
    let rest = alternatives_seen context t ps in
    let first = one_alternative context t p rest in
    let q = none_in first.faults rest.faults well_typed.faults in
    let r = all_in context.known.is_sound first.reached rest.reached well_typed.reached in
    (record { faults = q.0; reached = r.0 }, record { faults = q.1; reached = r.1 })

-- all that they need is known
known_alternatives : (context : TypeEnv) (env : Env) → IsWellTypedEnv context env → (t : Option DslxType) (ps : List PatternPair) (ms : List PatternDen) → EachPatternGives ps ms → AreWellTyped context (alternatives_seen context t ps)
    → (alternatives_seen context t ps).is_known ≡ true
known_alternatives context env h t [] ms k well_typed = refl
known_alternatives context env h t (p ∷ ps) [] k well_typed = absurd k
known_alternatives context env h t (p ∷ ps) (m ∷ ms) k well_typed =
    let q = first_well_typed context t p ps well_typed in
    λ i. k.0.known true context t [] (alternatives_seen context t ps).locals env h q.0 i && known_alternatives context env h t ps ms k.1 q.1 i

-- there is a place behind them where the type environment is well typed
behind_alternatives : (context : TypeEnv) (env : Env) → IsWellTypedEnv context env → (t : DslxType) (v : DslxValue) → GivesOf (types_at context) t (Some v) → (ps : List PatternPair) (ms : List PatternDen) → EachPatternGives ps ms
    → AreWellTyped context (alternatives_seen context (Some t) ps) → (inner : Env) × IsWellTypedEnv (with_typed context (alternatives_seen context (Some t) ps).locals) inner
behind_alternatives context env h t v g [] ms k well_typed = (env, h)
behind_alternatives context env h t v g (p ∷ ps) [] k well_typed = absurd k
behind_alternatives context env h t v g (p ∷ ps) (m ∷ ms) k well_typed =
    let q = first_well_typed context (Some t) p ps well_typed in
    let rest = behind_alternatives context env h t v g ps ms k.1 q.1 in
    k.0.behind true context t [] (alternatives_seen context (Some t) ps).locals rest.0 v rest.1 g (ap has_broken q.0.faults)

no_some : {X A : Type 0} (a : A) (o : Option A) → o ≡ None → o ≡ Some a → X
no_some a o e q = none_some a (sym e ∙ q)

-- where none of them binds a name, they leave the names in sight as they are
unbound_locals : (context : TypeEnv) (t : Option DslxType) (ps : List PatternPair) (ms : List PatternDen) → EachPatternGives ps ms → (alternatives_seen context t ps).binds ≡ false
    → (alternatives_seen context t ps).locals ≡ context.locals
unbound_locals context t [] ms k b = refl
unbound_locals context t (p ∷ ps) [] k b = absurd k
unbound_locals context t (p ∷ ps) (m ∷ ms) k b =
    let rest = alternatives_seen context t ps in
    let names = (one_alternative context t p rest).names in
    let q = or_false (not (is_empty names)) rest.binds b in
    (k.0.unbound true context t [] rest.locals (not_false (is_empty names) q.0)).0 ∙ unbound_locals context t ps ms k.1 q.1

-- what the others leave in sight is well typed where none of several binds a name
record AreOthersTyped (context : TypeEnv) (t : DslxType) (ps : List PatternPair) (env : Env) : Type 0 where
  typed : IsWellTypedEnv (with_typed context (alternatives_seen context (Some t) ps).locals) env
  binds : (has_several ps && (alternatives_seen context (Some t) ps).binds) ≡ false

others_typed : (context : TypeEnv) (env : Env) → IsWellTypedEnv context env → (t : DslxType) (p : PatternPair) (ps : List PatternPair) (ms : List PatternDen) → EachPatternGives ps ms
    → (has_several (p ∷ ps) && (alternatives_seen context (Some t) (p ∷ ps)).binds) ≡ false → AreOthersTyped context t ps env
others_typed context env h t p [] ms k b = record { typed = h; binds = refl }
others_typed context env h t p (q ∷ ps) ms k b =
    let rest = alternatives_seen context (Some t) (q ∷ ps) in
    let none = (or_false (not (is_empty (one_alternative context (Some t) p rest).names)) rest.binds b).1 in
    record {
      typed = subst (λ ls. IsWellTypedEnv (with_typed context ls) env) (sym (unbound_locals context (Some t) (q ∷ ps) ms k none)) h;
      binds = ap (λ c. has_several (q ∷ ps) && c) none ∙ and_none (has_several (q ∷ ps));
    }
  where
    and_none : (c : Bool) → (c && false) ≡ false
    and_none true = refl
    and_none false = refl

-- where none of them binds a name, each that fits leaves the type environment as it is
unbound_fit : (context : TypeEnv) (env : Env) → IsWellTypedEnv context env → (t : DslxType) (v : DslxValue) → GivesOf (types_at context) t (Some v) → (ps : List PatternPair) (ms : List PatternDen) → EachPatternGives ps ms
    → AreWellTyped context (alternatives_seen context (Some t) ps) → (alternatives_seen context (Some t) ps).binds ≡ false → (inner : Env) → first_fit ms v env ≡ Some inner → IsWellTypedEnv context inner
unbound_fit context env h t v g [] [] k well_typed b inner e = none_some inner e
unbound_fit context env h t v g [] (m ∷ ms) k well_typed b inner e = absurd k
unbound_fit context env h t v g (p ∷ ps) [] k well_typed b inner e = absurd k
unbound_fit context env h t v g (p ∷ ps) (m ∷ ms) k well_typed b inner e =
    by_fit (fits_in_scope m v env) (k.0.keeps true context t [] rest.locals env env v h typed_there g (ap has_broken q.0.faults)) (λ r. unbound_fit context env h t v g ps ms k.1 q.1 none inner r) e
  where
    rest : AlternativesSeen
    rest = alternatives_seen context (Some t) ps

    q : IsWellTypedPattern context (one_alternative context (Some t) p rest) × AreWellTyped context rest
    q = first_well_typed context (Some t) p ps well_typed

    none : rest.binds ≡ false
    none = (or_false (not (is_empty (one_alternative context (Some t) p rest).names)) rest.binds b).1

    typed_there : IsWellTypedEnv (with_typed context rest.locals) env
    typed_there = subst (λ ls. IsWellTypedEnv (with_typed context ls) env) (sym (unbound_locals context (Some t) ps ms k.1 none)) h

    by_fit : (o : Option Env) → FitsOrFails true context (one_alternative context (Some t) p rest) o → (first_fit ms v env ≡ Some inner → IsWellTypedEnv context inner) → or_else o (first_fit ms v env) ≡ Some inner → IsWellTypedEnv context inner
    by_fit o (Fits place is typed) others r =
        let same : place ≡ inner = same_some place inner (sym (ap (λ x. or_else x (first_fit ms v env)) is) ∙ r) in
        subst (IsWellTypedEnv context) same (subst (λ ls. IsWellTypedEnv (with_typed context ls) place) (unbound_locals context (Some t) (p ∷ ps) (m ∷ ms) k b) typed)
    by_fit o (Fails is may sure) others r = others (sym (ap (λ x. or_else x (first_fit ms v env)) is) ∙ r)

-- behind the alternative that fits the type environment is well typed
fit_typed : (context : TypeEnv) (env : Env) → IsWellTypedEnv context env → (t : DslxType) (v : DslxValue) → GivesOf (types_at context) t (Some v) → (ps : List PatternPair) (ms : List PatternDen) → EachPatternGives ps ms
    → AreWellTyped context (alternatives_seen context (Some t) ps) → (has_several ps && (alternatives_seen context (Some t) ps).binds) ≡ false → (inner : Env) → first_fit ms v env ≡ Some inner
    → IsWellTypedEnv (with_typed context (alternatives_seen context (Some t) ps).locals) inner
fit_typed context env h t v g [] [] k well_typed b inner e = none_some inner e
fit_typed context env h t v g [] (m ∷ ms) k well_typed b inner e = absurd k
fit_typed context env h t v g (p ∷ ps) [] k well_typed b inner e = absurd k
fit_typed context env h t v g (p ∷ []) (m ∷ n ∷ ms) k well_typed b inner e = absurd k.1
fit_typed context env h t v g (p ∷ []) (m ∷ []) k well_typed b inner e = by_fit (fits_in_scope m v env) (k.0.keeps true context t [] context.locals env env v h h g (ap has_broken (first_well_typed context (Some t) p [] well_typed).0.faults)) e
  where
    only : PatternSeen
    only = one_alternative context (Some t) p (no_alternative context)

    by_fit : (o : Option Env) → FitsOrFails true context only o → or_else o None ≡ Some inner → IsWellTypedEnv (with_typed context only.locals) inner
    by_fit o (Fits place is typed) r = subst (IsWellTypedEnv (with_typed context only.locals)) (same_some place inner (sym (ap (λ x. or_else x None) is) ∙ r)) typed
    by_fit o (Fails is may sure) r = none_some inner (sym (ap (λ x. or_else x None) is) ∙ r)
fit_typed context env h t v g (p ∷ q ∷ ps) ms k well_typed b inner e =
    let unbound = unbound_fit context env h t v g (p ∷ q ∷ ps) ms k well_typed b inner e in
    subst (λ ls. IsWellTypedEnv (with_typed context ls) inner) (sym (unbound_locals context (Some t) (p ∷ q ∷ ps) ms k b)) unbound

-- an arm whose names are all constants' binds nothing
plain_alternatives : (context : TypeEnv) (t : Option DslxType) (ps : List PatternPair) (ms : List PatternDen) → EachPatternGives ps ms → list_all context.known.items.is_constant (all_names ms) ≡ true
    → (alternatives_seen context t ps).locals ≡ context.locals
plain_alternatives context t [] ms k e = refl
plain_alternatives context t (p ∷ ps) [] k e = absurd k
plain_alternatives context t (p ∷ ps) (m ∷ ms) k e =
    let q = all_in context.known.items.is_constant m.names (all_names ms) e in
    k.0.plain true context t [] (alternatives_seen context t ps).locals q.0 ∙ plain_alternatives context t ps ms k.1 q.1

-- ---- an arm

-- what is known of an arm: its type, and that it gives values of it
record ArmTyped (context : TypeEnv) (t : DslxType) (a : ArmSeen) (m : ArmDen) (v : DslxValue) (env : Env) : Type 0 where
  own : DslxType
  typed : (arm_typing context (Some t) a).value.ty ≡ Some own
  gives : ArmGives context (Some t) a m v env
  sized : IsSized (arm_typing context (Some t) a).value.size

arm_has : (context : TypeEnv) (env : Env) → IsWellTypedEnv context env → (t : DslxType) (v : DslxValue) → GivesOf (types_at context) t (Some v) → (a : ArmSeen) (m : ArmDen) → ArmHasValue a m
    → AreWellTyped context (arm_typing context (Some t) a).seen → (has_several a.patterns && (arm_typing context (Some t) a).seen.binds) ≡ false → IsWellTypedPart context.known (arm_typing context (Some t) a).value → ArmTyped context t a m v env
arm_has context env h t v g a m k well_typed b value =
    let seen = alternatives_seen context (Some t) a.patterns in
    let inner = with_typed context seen.locals in
    let place = behind_alternatives context env h t v g a.patterns m.patterns k.patterns well_typed in
    let own = alone_has inner place.0 a.value k.meaning k.value place.1 value.faults value.reached in
    let at = λ (e : Env) (w : IsWellTypedEnv inner e). alone_has inner e a.value k.meaning k.value w value.faults value.reached in
    record {
      own = own.0;
      typed = own.1;
      gives = record {
        behind = λ e fits. subst (GivesItsType (types_at context) (arm_typing context (Some t) a).value) (sym (λ i. k.is i e))
            (given (types_at context) (arm_typing context (Some t) a).value (k.meaning.value e) (at e (fit_typed context env h t v g a.patterns m.patterns k.patterns well_typed b e fits)));
        here = λ all. subst (GivesItsType (types_at context) (arm_typing context (Some t) a).value) (sym (λ i. k.is i env))
            (given (types_at context) (arm_typing context (Some t) a).value (k.meaning.value env)
            (at env (subst (λ ls. IsWellTypedEnv (with_typed context ls) env)
            (sym (plain_alternatives context (Some t) a.patterns m.patterns k.patterns ((λ i. list_all (sym h.items i).is_constant (all_names m.patterns)) ∙ all))) h)));
        declared = λ u e. (given (types_at context) (arm_typing context (Some t) a).value (k.meaning.value place.0) own u e).declared;
      };
      sized = own.3;
    }

-- ---- all arms

record ArmsTyped (context : TypeEnv) (t : DslxType) (arms : List ArmSeen) (ms : List ArmDen) (v : DslxValue) (env : Env) : Type 0 where
  types : List DslxType
  typed : types_of (arm_values (map (arm_typing context (Some t)) arms)) ≡ map Some types
  each : EachArmGives context (Some t) arms ms v env
  known : all_known (map (arm_typing context (Some t)) arms) ≡ true
  sized : IsSized (arms_size (map (arm_typing context (Some t)) arms))
  clean : list_all (λ (a : ArmTyping). a.seen.is_known && is_empty a.seen.faults) (map (arm_typing context (Some t)) arms) ≡ true

arms_have : (context : TypeEnv) (env : Env) → IsWellTypedEnv context env → (t : DslxType) (v : DslxValue) → GivesOf (types_at context) t (Some v) → (arms : List ArmSeen) (ms : List ArmDen) → EachArmHasValue arms ms
    → arms_faults (map (arm_typing context (Some t)) arms) ≡ [] → list_all context.known.is_sound (arms_reached (map (arm_typing context (Some t)) arms)) ≡ true → some_binds (map (arm_typing context (Some t)) arms) ≡ false
    → ArmsTyped context t arms ms v env
arms_have context env h t v g [] [] k f r b = record { types = []; typed = refl; each = tt; known = refl; sized = (0, refl); clean = refl }
arms_have context env h t v g [] (m ∷ ms) k f r b = absurd k
arms_have context env h t v g (a ∷ as') [] k f r b = absurd k
arms_have context env h t v g (a ∷ as') (m ∷ ms) k f r b =
    let j = arm_typing context (Some t) a in
    let js = map (arm_typing context (Some t)) as' in
    let p = none_in_three j.seen.faults j.value.faults (arms_faults js) f in
    let q = all_in_three context.known.is_sound j.seen.reached j.value.reached (arms_reached js) r in
    let c = or_false (has_several a.patterns && j.seen.binds) (some_binds js) b in
    let well_typed : AreWellTyped context j.seen = record { faults = p.0; reached = q.0 } in
    let one = arm_has context env h t v g a m k.0 well_typed c.0 (record { faults = p.1; reached = q.1 }) in
    let more = arms_have context env h t v g as' ms k.1 p.2 q.2 c.1 in
    let is = known_alternatives context env h (Some t) a.patterns m.patterns k.0.patterns well_typed in
    record {
      types = one.own ∷ more.types;
      typed = λ i. one.typed i ∷ more.typed i;
      each = (one.gives, more.each);
      known = λ i. is i && more.known i;
      sized = plus_sized (Some j.seen.size) (plus_size j.value.size (arms_size js)) (j.seen.size, refl) (plus_sized j.value.size (arms_size js) one.sized more.sized);
      clean = λ i. (is i && is_empty (p.0 i)) && more.clean i;
    }

-- ---- the arm that a value comes to

all_joined : {A : Type 0} (p : A → Bool) (xs ys : List A) → list_all p xs ≡ true → list_all p ys ≡ true → list_all p (xs ++ ys) ≡ true
all_joined p [] ys e f = f
all_joined p (x ∷ xs) ys e f = let q = first_true (p x) (list_all p xs) e in λ i. q.0 i && all_joined p xs ys q.1 f i
  where
    first_true : (a b : Bool) → (a && b) ≡ true → (a ≡ true) × (b ≡ true)
    first_true true b z = (refl, z)
    first_true false b z = absurd (true≢false (sym z))

-- of a value that is no tuple: a pattern that doesn't fit binds nothing
other_fits : (context : TypeEnv) (env : Env) → IsWellTypedEnv context env → (t : DslxType) (v : DslxValue) → is_some_tuple (out-DslxType t) ≡ false → (ps : List PatternPair) (ms : List PatternDen) → EachPatternGives ps ms
    → AreWellTyped context (alternatives_seen context (Some t) ps) → (has_several ps && (alternatives_seen context (Some t) ps).binds) ≡ false
    → (is_there (first_fit ms v env) || list_all context.known.items.is_constant (all_names ms)) ≡ true
other_fits context env h t v other [] [] k well_typed b = refl
other_fits context env h t v other [] (m ∷ ms) k well_typed b = absurd k
other_fits context env h t v other (p ∷ ps) [] k well_typed b = absurd k
other_fits context env h t v other (p ∷ ps) (m ∷ ms) k well_typed b =
    let q = first_well_typed context (Some t) p ps well_typed in
    let others = others_typed context env h t p ps ms k.1 b in
    by_fit (fits_in_scope m v env) (k.0.whole true context t [] (alternatives_seen context (Some t) ps).locals env env v other others.typed (ap has_broken q.0.faults)) (is_there (first_fit ms v env)) refl
    (other_fits context env h t v other ps ms k.1 q.1 others.binds)
  where
    left : (b : Bool) → (b || false) ≡ true → b ≡ true
    left true e = refl
    left false e = absurd (true≢false (sym e))

    by_fit : (o : Option Env) → (list_all context.known.items.is_constant m.names || is_there o) ≡ true → (b : Bool) → is_there (first_fit ms v env) ≡ b → (b || list_all context.known.items.is_constant (all_names ms)) ≡ true
        → (is_there (or_else o (first_fit ms v env)) || list_all context.known.items.is_constant (m.names ++ all_names ms)) ≡ true
    by_fit (Some x) e b q r = refl
    by_fit None e true q r = ap (λ z. z || list_all context.known.items.is_constant (m.names ++ all_names ms)) q
    by_fit None e false q r =
        ap (λ z. z || list_all context.known.items.is_constant (m.names ++ all_names ms)) q ∙ all_joined context.known.items.is_constant m.names (all_names ms) (left (list_all context.known.items.is_constant m.names) e) r

-- a pattern that fits each value of its type
sure_fits : (context : TypeEnv) (env : Env) → IsWellTypedEnv context env → (t : DslxType) (v : DslxValue) → GivesOf (types_at context) t (Some v) → (ps : List PatternPair) (ms : List PatternDen) → EachPatternGives ps ms
    → AreWellTyped context (alternatives_seen context (Some t) ps) → (has_several ps && (alternatives_seen context (Some t) ps).binds) ≡ false → (alternatives_seen context (Some t) ps).is_sure ≡ true
    → is_there (first_fit ms v env) ≡ true
sure_fits context env h t v g [] ms k well_typed b e = absurd (true≢false (sym e))
sure_fits context env h t v g (p ∷ ps) [] k well_typed b e = absurd k
sure_fits context env h t v g (p ∷ ps) (m ∷ ms) k well_typed b e =
    let q = first_well_typed context (Some t) p ps well_typed in
    let others = others_typed context env h t p ps ms k.1 b in
    by_fit (fits_in_scope m v env) (k.0.keeps true context t [] (alternatives_seen context (Some t) ps).locals env env v h others.typed g (ap has_broken q.0.faults)) (sure_fits context env h t v g ps ms k.1 q.1 others.binds)
  where
    by_fit : (o : Option Env) → FitsOrFails true context (one_alternative context (Some t) p (alternatives_seen context (Some t) ps)) o → ((alternatives_seen context (Some t) ps).is_sure ≡ true → is_there (first_fit ms v env) ≡ true)
        → is_there (or_else o (first_fit ms v env)) ≡ true
    by_fit o (Fits place is typed) rest = ap (λ x. is_there (or_else x (first_fit ms v env))) is
    by_fit o (Fails is may sure) rest = ap (λ x. is_there (or_else x (first_fit ms v env))) is ∙ rest (sym (ap (λ b. b || (alternatives_seen context (Some t) ps).is_sure) sure) ∙ e)

or_right : (a b : Bool) → b ≡ true → (a || b) ≡ true
or_right true b e = refl
or_right false b e = e

-- where the last arm is taken in any case
comes_last : (context : TypeEnv) (env : Env) → IsWellTypedEnv context env → (t : DslxType) (v : DslxValue) → (arms : List ArmSeen) (ms : List ArmDen) → EachArmHasValue arms ms → arms_faults (map (arm_typing context (Some t)) arms) ≡ []
    → list_all context.known.is_sound (arms_reached (map (arm_typing context (Some t)) arms)) ≡ true → is_empty arms ≡ false → some_binds (map (arm_typing context (Some t)) arms) ≡ false
    → ((a : ArmSeen) (m : ArmDen) → last_of arms ≡ Some a → ArmHasValue a m → AreWellTyped context (arm_typing context (Some t) a).seen → (has_several a.patterns && (arm_typing context (Some t) a).seen.binds) ≡ false
    → (is_there (first_fit m.patterns v env) || list_all env.items.is_constant (all_names m.patterns)) ≡ true)
    → comes_to_an_arm ms v env ≡ true
comes_last context env h t v [] ms k f r some binds last = absurd (true≢false some)
comes_last context env h t v (a ∷ as') [] k f r some binds last = absurd k
comes_last context env h t v (a ∷ []) (m ∷ n ∷ ms) k f r some binds last = absurd k.1
comes_last context env h t v (a ∷ b ∷ as') (m ∷ []) k f r some binds last = absurd k.1
comes_last context env h t v (a ∷ []) (m ∷ []) k f r some binds last =
    let j = arm_typing context (Some t) a in
    last a m refl k.0 (record { faults = (none_in_three j.seen.faults j.value.faults [] f).0; reached = (all_in_three context.known.is_sound j.seen.reached j.value.reached [] r).0 })
    (or_false (has_several a.patterns && j.seen.binds) false binds).0
comes_last context env h t v (a ∷ b ∷ as') (m ∷ n ∷ ms) k f r some binds last =
    let j = arm_typing context (Some t) a in
    let js = map (arm_typing context (Some t)) (b ∷ as') in
    or_right (is_there (first_fit m.patterns v env)) (comes_to_an_arm (n ∷ ms) v env)
    (comes_last context env h t v (b ∷ as') (n ∷ ms) k.1 (none_in_three j.seen.faults j.value.faults (arms_faults js) f).2 (all_in_three context.known.is_sound j.seen.reached j.value.reached (arms_reached js) r).2 refl
    (or_false (has_several a.patterns && j.seen.binds) (some_binds js) binds).1 last)

last_typing_is : (context : TypeEnv) (t : Option DslxType) (arms : List ArmSeen) (a : ArmSeen) → last_of arms ≡ Some a → last_of (map (arm_typing context t) arms) ≡ Some (arm_typing context t a)
last_typing_is context t [] a e = none_some a e
last_typing_is context t (b ∷ []) a e = ap (λ (x : ArmSeen). Some (arm_typing context t x)) (same_some b a e)
last_typing_is context t (b ∷ c ∷ as') a e = last_typing_is context t (c ∷ as') a e

-- ---- the whole

-- a value comes to an arm
comes : (context : TypeEnv) (env : Env) → IsWellTypedEnv context env → (t : DslxType) (v : DslxValue) → GivesOf (types_at context) t (Some v) → (arms : List ArmSeen) (ms : List ArmDen) → EachArmHasValue arms ms
    → arms_faults (map (arm_typing context (Some t)) arms) ≡ [] → list_all context.known.is_sound (arms_reached (map (arm_typing context (Some t)) arms)) ≡ true → is_empty arms ≡ false → some_binds (map (arm_typing context (Some t)) arms) ≡ false
    → is_exhaustive context (map (arm_typing context (Some t)) arms) t ≡ true → NarrowComes context env t arms ms v → comes_to_an_arm ms v env ≡ true
comes context env h t v g arms ms k f r some binds exhaustive narrow = by_level (out-DslxType t) refl exhaustive
  where
    js : List ArmTyping
    js = map (arm_typing context (Some t)) arms

    plain : (b : Bool) → is_some_tuple (out-DslxType t) ≡ b → b ≡ false → comes_to_an_arm ms v env ≡ true
    plain b q e =
        comes_last context env h t v arms ms k f r some binds
        (λ a m last w well_typed none. (λ i. is_there (first_fit m.patterns v env) || list_all ((h.items i).is_constant) (all_names m.patterns)) ∙ other_fits context env h t v (q ∙ e) a.patterns m.patterns w.patterns well_typed none)

    sure : last_is_sure (last_of js) ≡ true → comes_to_an_arm ms v env ≡ true
    sure e =
        comes_last context env h t v arms ms k f r some binds
        (λ a m last w well_typed none. ap (λ b. b || list_all env.items.is_constant (all_names m.patterns))
        (sure_fits context env h t v g a.patterns m.patterns w.patterns well_typed none (ap last_is_sure (sym (last_typing_is context (Some t) arms a last)) ∙ e)))

    by_width : (b : Bool) → nat_le (flat_bits t) 8 ≡ b → is_some_tuple (out-DslxType t) ≡ true → values_match context js t ≡ true → is_exhaustive context js t ≡ true → comes_to_an_arm ms v env ≡ true
    by_width true q tuple e whole = narrow tuple q whole
    by_width false q tuple e whole = sure (ap (λ b. if b then all_words_match context js t (flat_bits t) (2 ^ flat_bits t) else last_is_sure (last_of js)) (sym q) ∙ e)

    by_level : (l : DslxType-F DslxType) → out-DslxType t ≡ l → is_exhaustive_in context js t l ≡ true → comes_to_an_arm ms v env ≡ true
    by_level (DslxType-F.Tuple ts) q e = by_width (nat_le (flat_bits t) 8) refl (ap is_some_tuple q) e exhaustive
    by_level (DslxType-F.Bits s w) q e = plain false (ap is_some_tuple q) refl
    by_level (DslxType-F.Array u n) q e = plain false (ap is_some_tuple q) refl
    by_level (DslxType-F.Struct name fields ts) q e = plain false (ap is_some_tuple q) refl
    by_level (DslxType-F.Enum name s w) q e = plain false (ap is_some_tuple q) refl
    by_level DslxType-F.Token q e = plain false (ap is_some_tuple q) refl

-- where rule 24 isn't broken
record IsMatching (context : TypeEnv) (t : DslxType) (arms : List ArmSeen) : Type 0 where
  some : is_empty (map (arm_typing context (Some t)) arms) ≡ false
  binds : some_binds (map (arm_typing context (Some t)) arms) ≡ false
  complete : not_exhaustive context (map (arm_typing context (Some t)) arms) (Some t) ≡ false

rule_kept : (span : Span) (context : TypeEnv) (t : DslxType) (arms : List ArmSeen) → match_faults span context (Some t) (map (arm_typing context (Some t)) arms) ≡ [] → IsMatching context t arms
rule_kept span context t arms e =
    let js = map (arm_typing context (Some t)) arms in
    let wrong = not_broken (((is_empty js || some_binds js) || differ (all_some (types_of (arm_values js)))) || not_exhaustive context js (Some t)) 24 span e in
    let p = or_false ((is_empty js || some_binds js) || differ (all_some (types_of (arm_values js)))) (not_exhaustive context js (Some t)) wrong in
    let q = or_false (is_empty js || some_binds js) (differ (all_some (types_of (arm_values js)))) p.0 in
    let r = or_false (is_empty js) (some_binds js) q.0 in
    record { some = r.0; binds = r.1; complete = p.1 }

some_arms : (context : TypeEnv) (t : Option DslxType) (arms : List ArmSeen) → is_empty (map (arm_typing context t) arms) ≡ false → is_empty arms ≡ false
some_arms context t [] e = absurd (true≢false e)
some_arms context t (a ∷ as') e = refl

exhausted : (p q : Bool) → p ≡ true → (p && not q) ≡ false → q ≡ true
exhausted true true e f = refl
exhausted true false e f = absurd (true≢false f)
exhausted false q e f = absurd (true≢false (sym e))

pub match_has : (span : Span) (context : TypeEnv) (env : Env) (e : ExprPair) (x : ExprDen) (arms : List ArmSeen) (ms : List ArmDen) → ExprGives e x → EachArmHasValue arms ms → IsWellTypedEnv context env
    → ((t : DslxType) (v : DslxValue) → arms_faults (map (arm_typing context (Some t)) arms) ≡ [] → list_all context.known.is_sound (arms_reached (map (arm_typing context (Some t)) arms)) ≡ true → GivesOf (types_at context) t (Some v)
    → NarrowComes context env t arms ms v)
    → IsWellTypedPart context.known (match_typing span context e arms) → HasTypedValue (types_at context) (match_typing span context e arms) (and_then (x.value env) (λ v. match_arms ms v env))
match_has span context env e x arms ms se k h narrow well_typed = (own.0, own.1, match_gives span context e arms ms (x.value env) env (given (types_at context) value (x.value env) g) each own.0 own.1, sized)
  where
    value : Judgement
    value = alone context e

    at : Option DslxType → List ArmTyping
    at o = map (arm_typing context o) arms

    faults : Option DslxType → List Fault
    faults o = (value.faults ++ arms_faults (at o)) ++ match_faults span context o (at o)

    typed : Option DslxType → Option DslxType
    typed o = and_then o (λ t. where_true (all_known (at o)) (first_of_types (all_some (types_of (arm_values (at o))))))

    s : IsSettled context.known span (typed value.ty) (faults value.ty) (value.reached ++ arms_reached (at value.ty)) (one_and (plus_size value.size (arms_size (at value.ty))))
    s = settled_well_typed context.known span (typed value.ty) (faults value.ty) (value.reached ++ arms_reached (at value.ty)) (one_and (plus_size value.size (arms_size (at value.ty)))) well_typed

    p : (value.faults ≡ []) × (arms_faults (at value.ty) ≡ []) × (match_faults span context value.ty (at value.ty) ≡ [])
    p = none_in_three value.faults (arms_faults (at value.ty)) (match_faults span context value.ty (at value.ty)) s.faults

    r : (list_all context.known.is_sound value.reached ≡ true) × (list_all context.known.is_sound (arms_reached (at value.ty)) ≡ true)
    r = all_in context.known.is_sound value.reached (arms_reached (at value.ty)) s.reached

    g : HasTypedValue (types_at context) value (x.value env)
    g = alone_has context env e x se h p.0 r.0

    f : arms_faults (at (Some g.0)) ≡ []
    f = ap (λ o. arms_faults (at o)) (sym g.1) ∙ p.1

    q : list_all context.known.is_sound (arms_reached (at (Some g.0))) ≡ true
    q = ap (λ o. list_all context.known.is_sound (arms_reached (at o))) (sym g.1) ∙ r.1

    kept : IsMatching context g.0 arms
    kept = rule_kept span context g.0 arms (ap (λ o. match_faults span context o (at o)) (sym g.1) ∙ p.2)

    armed : (v : DslxValue) → GivesOf (types_at context) g.0 (Some v) → ArmsTyped context g.0 arms ms v env
    armed v w = arms_have context env h g.0 v w arms ms k f q kept.binds

    of_value : (v : DslxValue) → x.value env ≡ Some v → GivesOf (types_at context) g.0 (Some v)
    of_value v is = subst (GivesOf (types_at context) g.0) is g.2

    each : (v : DslxValue) → x.value env ≡ Some v → EachArmGives context value.ty arms ms v env × (comes_to_an_arm ms v env ≡ true)
    each v is =
        let w = of_value v is in
        let a = armed v w in (
          subst (λ o. EachArmGives context o arms ms v env) (sym g.1) a.each,
          comes context env h g.0 v w arms ms k f q (some_arms context (Some g.0) arms kept.some) kept.binds
              (exhausted (list_all (λ (a : ArmTyping). a.seen.is_known && is_empty a.seen.faults) (at (Some g.0))) (is_exhaustive context (at (Some g.0)) g.0) a.clean kept.complete) (narrow g.0 v f q w),
        )

    first_typed : (ts : List DslxType) → types_of (arm_values (at (Some g.0))) ≡ map Some ts → is_empty arms ≡ false → (u : DslxType) × (first_of_types (all_some (types_of (arm_values (at (Some g.0))))) ≡ Some u)
    first_typed [] typed_is some = no_arms arms typed_is some
      where
        no_arms : {X : Type 0} (as' : List ArmSeen) → types_of (arm_values (map (arm_typing context (Some g.0)) as')) ≡ [] → is_empty as' ≡ false → X
        no_arms [] z w = absurd (true≢false w)
        no_arms (a ∷ as') z w = some_fault (arm_typing context (Some g.0) a).value.ty (types_of (arm_values (map (arm_typing context (Some g.0)) as'))) z
    first_typed (t ∷ ts) typed_is some = (t, ap (λ os. first_of_types (all_some os)) typed_is ∙ ap first_of_types (all_are (t ∷ ts)))

    own : (t : DslxType) × ((match_typing span context e arms).ty ≡ Some t)
    own =
        let a = armed g.2.value (of_value g.2.value g.2.is) in
        let u = first_typed a.types a.typed (some_arms context (Some g.0) arms kept.some) in
        (u.0, s.ty ∙ ap typed g.1 ∙ ap (λ b. where_true b (first_of_types (all_some (types_of (arm_values (at (Some g.0))))))) a.known ∙ u.1)

    sized : IsSized (match_typing span context e arms).size
    sized =
        let a = armed g.2.value (of_value g.2.value g.2.is) in
        let arms_sized : IsSized (arms_size (at value.ty)) = (a.sized.0, ap (λ o. arms_size (at o)) g.1 ∙ a.sized.1) in
        sized_if _ own.0 (one_and (plus_size value.size (arms_size (at value.ty)))) own.1 (one_sized (plus_size value.size (arms_size (at value.ty))) (plus_sized value.size (arms_size (at value.ty)) g.3 arms_sized))
