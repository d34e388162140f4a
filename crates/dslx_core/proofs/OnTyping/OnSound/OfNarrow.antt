-- Each value of a tuple of at most 8 bits comes to an arm of a `match` that breaks no rule.
use Rattle.std.proofs.Common.{◌≡◌, ◌&&◌, ◌||◌, ◌^◌, ◌<◌, ◌≤◌, ℕ, zero, suc, Bool, true, false, if◌then◌else◌, List, [], ◌∷◌, map, Option, Some, None, ltb-false, arith, refl, sym, ap, ◌∙◌}
use mathlib.Core.Bool.{true≢false}
use Rattle.std.specs.Prelude.{nat_lt}
use Rattle.std.specs.List.{list_all, list_any}
use Rattle.std.proofs.lemmas.Bool.Decides.{Decides-ltb}
use Rattle.xb_bits.specs.Word.{word}
use Rattle.dslx_meaning.specs.Lists.{last_of, or_else}
use Rattle.dslx_meaning.specs.Types.{flat_bits}
use Rattle.dslx_meaning.specs.Values.{from_word}
use Rattle.dslx_meaning.specs.Environment.{Env}
use Rattle.dslx_meaning.specs.Meaning.{ArmDen, PatternDen, all_names, first_fit, fits_in_scope, fitted}
use Rattle.dslx_meaning.specs.declared.ty.DslxType.{DslxType, out-DslxType}
use Rattle.dslx_meaning.specs.declared.ty.DslxType.TheOpen.{DslxType-F}
use Rattle.dslx_meaning.specs.declared.value.DslxValue.{DslxValue}
use Rattle.dslx_meaning.specs.Rules.AggregateRules.{is_some_tuple}
use Rattle.dslx_meaning.specs.Rules.ControlRules.{ArmTyping, all_words_match, alternatives_seen, arm_typing, arms_faults, arms_reached, is_exhaustive_in, is_matched, last_is_sure}
use Rattle.dslx_meaning.specs.Rules.TypeEnvs.{TypeEnv, constant_env}
use Rattle.dslx_meaning.specs.Rules.Typings.{ArmSeen, PatternPair}
use Rattle.dslx_meaning.specs.Rules.PatternRules.{is_there}
use Rattle.dslx_core.specs.Typing.Typed.Kinds.{is_of}
use Rattle.dslx_core.specs.Typing.Typed.WellTyped.{IsWellTypedEnv, comes_to_an_arm}
use Rattle.dslx_core.proofs.Lemmas.Typing.Typed.{same_some, shown}
use Rattle.dslx_core.specs.Typing.Sound.Scopes.{EachPatternSeesAlike, FitsAlike, SeeAlike}
use Rattle.dslx_core.specs.Typing.Sound.Sound.{EachArmHasValue, NarrowMatchesCome}
use Rattle.dslx_core.proofs.OnTyping.OnSound.WellTypedParts.{all_in_three, none_in_three}
use Rattle.dslx_core.proofs.OnTyping.OnSound.OfFlat.{word_holds}
use Rattle.dslx_core.proofs.OnTyping.OnSound.OfMatch.{AreWellTyped, first_well_typed}

-- ---- what is matched where constants are seen, fits at the place

see_alike : (context : TypeEnv) (env : Env) → IsWellTypedEnv context env → SeeAlike context (constant_env context) env
see_alike context env h = record {
  items = refl;
  others = h.items;
  outside = λ name e. shown context.locals context.parametric_args name e ∙ sym (h.place.others name e);
  constants = λ name c. shown context.locals context.parametric_args name (h.place.hides name c) ∙ sym (h.place.others name (h.place.hides name c));
}

there_alike : (context : TypeEnv) (o p : Option Env) → FitsAlike context o p → is_there o ≡ true → is_there p ≡ true
there_alike context None None e t = t
there_alike context (Some a) (Some b) e t = refl
there_alike context None (Some b) e t = refl
there_alike context (Some a) None e t = absurd e

first_there : (o p : Option Env) → is_there o ≡ true → is_there (or_else o p) ≡ true
first_there None p e = absurd (true≢false (sym e))
first_there (Some a) p e = refl

other_there : (o p : Option Env) → is_there p ≡ true → is_there (or_else o p) ≡ true
other_there None p e = e
other_there (Some a) p e = refl

any_fits : (context : TypeEnv) (env : Env) → IsWellTypedEnv context env → (t : DslxType) (v : DslxValue) (ps : List PatternPair) (ms : List PatternDen) → EachPatternSeesAlike ps ms → AreWellTyped context (alternatives_seen context (Some t) ps)
    → list_any (λ (p : PatternPair). is_there (fitted p.0 v (constant_env context))) ps ≡ true → is_there (first_fit ms v env) ≡ true
any_fits context env h t v [] ms k well_typed e = absurd (true≢false (sym e))
any_fits context env h t v (p ∷ ps) [] k well_typed e = absurd k
any_fits context env h t v (p ∷ ps) (m ∷ ms) k well_typed e =
    let q = first_well_typed context (Some t) p ps well_typed in
    by_first (is_there (fitted p.0 v (constant_env context))) refl e
    (λ fits. there_alike context (fits_in_scope m v (constant_env context)) (fits_in_scope m v env)
    (k.0.1 true context (Some t) [] (alternatives_seen context (Some t) ps).locals (constant_env context) env (constant_env context) env v (see_alike context env h) (see_alike context env h) q.0)
    (sym (ap (λ (x : PatternDen). is_there (fits_in_scope x v (constant_env context))) k.0.0) ∙ fits))
    (any_fits context env h t v ps ms k.1 q.1)
  where
    by_first : (b : Bool) → is_there (fitted p.0 v (constant_env context)) ≡ b → (b || list_any (λ (p : PatternPair). is_there (fitted p.0 v (constant_env context))) ps) ≡ true
        → (is_there (fitted p.0 v (constant_env context)) ≡ true → is_there (fits_in_scope m v env) ≡ true) → (list_any (λ (p : PatternPair). is_there (fitted p.0 v (constant_env context))) ps ≡ true → is_there (first_fit ms v env) ≡ true)
        → is_there (or_else (fits_in_scope m v env) (first_fit ms v env)) ≡ true
    by_first true q e own rest = first_there (fits_in_scope m v env) (first_fit ms v env) (own q)
    by_first false q e own rest = other_there (fits_in_scope m v env) (first_fit ms v env) (rest e)

or_left : (a b : Bool) → a ≡ true → (a || b) ≡ true
or_left a b e = ap (λ x. x || b) e

or_right : (a b : Bool) → b ≡ true → (a || b) ≡ true
or_right true b e = refl
or_right false b e = e

matched_comes : (context : TypeEnv) (env : Env) → IsWellTypedEnv context env → (t : DslxType) (v : DslxValue) (arms : List ArmSeen) (ms : List ArmDen) → EachArmHasValue arms ms → arms_faults (map (arm_typing context (Some t)) arms) ≡ []
    → list_all context.known.is_sound (arms_reached (map (arm_typing context (Some t)) arms)) ≡ true → is_matched context (map (arm_typing context (Some t)) arms) v ≡ true → comes_to_an_arm ms v env ≡ true
matched_comes context env h t v [] ms k f r e = absurd (true≢false (sym e))
matched_comes context env h t v (a ∷ as') [] k f r e = absurd k
matched_comes context env h t v (a ∷ []) (m ∷ n ∷ ms) k f r e = absurd k.1
matched_comes context env h t v (a ∷ b ∷ as') (m ∷ []) k f r e = absurd k.1
matched_comes context env h t v (a ∷ []) (m ∷ []) k f r e =
    let j = arm_typing context (Some t) a in
    or_left (is_there (first_fit m.patterns v env)) (list_all env.items.is_constant (all_names m.patterns))
    (any_fits context env h t v a.patterns m.patterns k.0.alike (record { faults = (none_in_three j.seen.faults j.value.faults [] f).0; reached = (all_in_three context.known.is_sound j.seen.reached j.value.reached [] r).0 })
    (only (list_any (λ (p : PatternPair). is_there (fitted p.0 v (constant_env context))) a.patterns) e))
  where
    only : (b : Bool) → (b || false) ≡ true → b ≡ true
    only true q = refl
    only false q = absurd (true≢false (sym q))
matched_comes context env h t v (a ∷ b ∷ as') (m ∷ n ∷ ms) k f r e =
    let j = arm_typing context (Some t) a in
    let js = map (arm_typing context (Some t)) (b ∷ as') in
    let p = none_in_three j.seen.faults j.value.faults (arms_faults js) f in
    let q = all_in_three context.known.is_sound j.seen.reached j.value.reached (arms_reached js) r in
    by_first (list_any (λ (p : PatternPair). is_there (fitted p.0 v (constant_env context))) a.patterns) refl e
    (any_fits context env h t v a.patterns m.patterns k.0.alike (record { faults = p.0; reached = q.0 }))
    (matched_comes context env h t v (b ∷ as') (n ∷ ms) k.1 p.2 q.2)
  where
    by_first : (c : Bool) → list_any (λ (p : PatternPair). is_there (fitted p.0 v (constant_env context))) a.patterns ≡ c → (c || is_matched context (map (arm_typing context (Some t)) (b ∷ as')) v) ≡ true
        → (list_any (λ (p : PatternPair). is_there (fitted p.0 v (constant_env context))) a.patterns ≡ true → is_there (first_fit m.patterns v env) ≡ true)
        → (is_matched context (map (arm_typing context (Some t)) (b ∷ as')) v ≡ true → comes_to_an_arm (n ∷ ms) v env ≡ true)
        → (is_there (first_fit m.patterns v env) || comes_to_an_arm (n ∷ ms) v env) ≡ true
    by_first true q e own rest = or_left (is_there (first_fit m.patterns v env)) (comes_to_an_arm (n ∷ ms) v env) (own q)
    by_first false q e own rest = or_right (is_there (first_fit m.patterns v env)) (comes_to_an_arm (n ∷ ms) v env) (rest e)

-- ---- all words of a type

and_both : (p q : Bool) → (p && q) ≡ true → (p ≡ true) × (q ≡ true)
and_both true q e = (refl, e)
and_both false q e = absurd (true≢false (sym e))

word_matched : (context : TypeEnv) (js : List ArmTyping) (t : DslxType) (w n count : ℕ) → n < count → all_words_match context js t w count ≡ true → is_matched context js (from_word t (word w n)) ≡ true
word_matched context js t w n zero l e = absurd (nothing l)
  where
    nothing : n < 0 → ⊥
    nothing l = omega (arith, l)
word_matched context js t w n (suc count) l e =
    let q = and_both (is_matched context js (from_word t (word w count))) (all_words_match context js t w count) e in
    by_place (nat_lt n count) refl q.0 (λ less. word_matched context js t w n count less q.1)
  where
    by_place : (b : Bool) → nat_lt n count ≡ b → is_matched context js (from_word t (word w count)) ≡ true → (n < count → is_matched context js (from_word t (word w n)) ≡ true) → is_matched context js (from_word t (word w n)) ≡ true
    by_place true c here rest = rest ((Decides-ltb n count).0 c)
    by_place false c here rest =
        let past : count ≤ n = ltb-false n count c in
        let same : n ≡ count = omega (arith, l, past) in
        ap (λ k. is_matched context js (from_word t (word w k))) same ∙ here

pub narrow_come : NarrowMatchesCome
narrow_come context env t arms ms v h k f r g tuple narrow exhaustive = by_level (out-DslxType t) tuple exhaustive
  where
    js : List ArmTyping
    js = map (arm_typing context (Some t)) arms

    of : is_of t v ≡ true
    of = ap (is_of t) (same_some v g.value g.is) ∙ g.of

    words : all_words_match context js t (flat_bits t) (2 ^ flat_bits t) ≡ true → comes_to_an_arm ms v env ≡ true
    words e =
        let w = word_holds t v of in
        matched_comes context env h t v arms ms k f r (ap (is_matched context js) (sym w.2) ∙ word_matched context js t (flat_bits t) w.0 (2 ^ flat_bits t) w.1 e)

    by_level : (l : DslxType-F DslxType) → is_some_tuple l ≡ true → is_exhaustive_in context js t l ≡ true → comes_to_an_arm ms v env ≡ true
    by_level (DslxType-F.Tuple ts) q e = words (ap (λ b. if b then all_words_match context js t (flat_bits t) (2 ^ flat_bits t) else last_is_sure (last_of js)) (sym narrow) ∙ e)
    by_level (DslxType-F.Bits s w) q e = absurd (true≢false (sym q))
    by_level (DslxType-F.Array u n) q e = absurd (true≢false (sym q))
    by_level (DslxType-F.Struct name fields ts) q e = absurd (true≢false (sym q))
    by_level (DslxType-F.Enum name s w) q e = absurd (true≢false (sym q))
    by_level DslxType-F.Token q e = absurd (true≢false (sym q))
