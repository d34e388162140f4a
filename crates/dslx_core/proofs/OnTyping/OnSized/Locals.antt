-- A constant that has a value names no local: rule 5.
use Rattle.std.proofs.Common.{◌≡◌, ◌&&◌, ◌||◌, ◌++◌, ℕ, Bool, true, false, not, if◌then◌else◌, List, [], ◌∷◌, map, Option, Some, None, refl, sym}
use mathlib.Core.Bool.{true≢false}
use Rattle.std.specs.List.{list_any, list_all}
use Rattle.xb_span.specs.declared.span.Span.{Span}
use Rattle.xb_span.specs.declared.fault.Fault.{Fault}
use Rattle.dslx_meaning.specs.Lists.{and_then, is_in}
use Rattle.dslx_meaning.specs.Meaning.{value_of}
use Rattle.dslx_meaning.specs.declared.ty.DslxType.{DslxType}
use Rattle.dslx_meaning.specs.declared.value.DslxValue.{DslxValue}
use Rattle.dslx_meaning.specs.Rules.ConstantRules.{constant_of, constant_typing, is_empty, is_member, names_a_bound, names_a_local, names_a_member, size_faults, value_if_whole}
use Rattle.dslx_meaning.specs.Rules.Mentions.{Use, AsValue, AsPattern, AsType, AsFunction, AsProc, AsEnum, AsStruct, Mention, mentioned, value_names}
use Rattle.dslx_meaning.specs.Rules.PatternRules.{is_there}
use Rattle.dslx_meaning.specs.Rules.TypeEnvs.{ExprPair, Judgement, TypeEnv, Typed, alone, breaks_if, constant_env, span_of}
use Rattle.dslx_core.specs.Typing.TypingRelations.Cycles.{AllUsed}
use Rattle.dslx_core.proofs.OnTyping.OnDepends.Rebound.{expression_rebinds, met_used, used_meet, Passes}
use Rattle.dslx_core.proofs.OnTyping.OnSized.Parts.{nothing_there, unlocal}
use Rattle.dslx_core.proofs.OnTyping.OnTyped.TypingRelations.{or_false}

abbrev is_local : TypeEnv → List ℕ → Bool
is_local context name = is_in name (map (λ (l : Typed). l.name) context.locals)

-- names that aren't those of locals and members
values_unlocal : (context : TypeEnv) (ms : List Mention) → list_any (is_local context) (value_names ms) ≡ false → list_any (is_member context) (value_names ms) ≡ false → AllUsed (unlocal context) ms
values_unlocal context [] h k = tt
values_unlocal context (m ∷ ms) h k = let r = by_use m.use_as m.name h k in (r.0, values_unlocal context ms r.1 r.2)
  where
    Unlocal : Use → List ℕ → Type 0
    Unlocal u name = (unlocal context u name ≡ true) × (list_any (is_local context) (value_names ms) ≡ false) × (list_any (is_member context) (value_names ms) ≡ false)

    by_use : (u : Use) (name : List ℕ) → list_any (is_local context) (value_names (record { use_as = u; name = name } ∷ ms)) ≡ false → list_any (is_member context) (value_names (record { use_as = u; name = name } ∷ ms)) ≡ false → Unlocal u name
    by_use AsValue name g l =
        let r = or_false (is_local context name) (list_any (is_local context) (value_names ms)) g in
        let q = or_false (is_member context name) (list_any (is_member context) (value_names ms)) l in
        ((λ i. not (r.0 i || q.0 i)), r.1, q.1)
    by_use AsPattern name g l = (refl, g, l)
    by_use AsType name g l = (refl, g, l)
    by_use AsFunction name g l = (refl, g, l)
    by_use AsProc name g l = (refl, g, l)
    by_use AsEnum name g l = (refl, g, l)
    by_use AsStruct name g l = (refl, g, l)

-- where rule 5 isn't broken, a constant names no local
pub free_unlocal : (context : TypeEnv) (e : ExprPair) (bound : List (List ℕ)) → names_a_local context e ≡ false → AllUsed (unlocal context) (mentioned e.0 bound)
free_unlocal context e bound h =
    let r = or_false (names_a_bound context e) (names_a_member context e) h in
    met_used (unlocal context) (mentioned e.0 bound)
    (expression_rebinds (Passes (unlocal context)) e.0 [] bound (λ n q k. absurd (true≢false (sym q)))
    (used_meet (unlocal context) (mentioned e.0 []) (values_unlocal context (mentioned e.0 []) r.0 r.1)))

-- ---- what breaks no rule

pub empty_parts : (fs gs : List Fault) → is_empty (fs ++ gs) ≡ true → (is_empty fs ≡ true) × (is_empty gs ≡ true)
empty_parts [] gs h = (refl, h)
empty_parts (f ∷ fs) gs h = nothing_there h

pub rule_kept : (b : Bool) (rule : ℕ) (span : Span) → is_empty (breaks_if b rule span) ≡ true → b ≡ false
rule_kept true rule span h = nothing_there h
rule_kept false rule span h = refl

-- what a constant with a value is: it breaks no rule, names no local, and has a type and a size
pub record IsWhole (context : TypeEnv) (e : ExprPair) : Type 0 where
  pub faults : is_empty (alone context e).faults ≡ true
  pub free : names_a_local context e ≡ false
  pub sized : is_there (alone context e).size ≡ true

pub valued_whole : (context : TypeEnv) (e : ExprPair) → is_there (constant_of context e).value ≡ true → IsWhole context e
valued_whole context e h = by_test (is_empty j.faults) (list_all context.known.is_sound j.reached) refl h
  where
    j : Judgement
    j = constant_typing context e

    v : Option DslxValue
    v = value_of e.0 (constant_env context)

    sized : (t : Option DslxType) (n : Option ℕ) → is_there (and_then t (λ t. and_then n (λ n. v))) ≡ true → is_there n ≡ true
    sized None n g = nothing_there g
    sized (Some t) None g = nothing_there g
    sized (Some t) (Some n) g = refl

    by_test : (p q : Bool) → is_empty j.faults ≡ p → is_there (if p && q then value_if_whole j v else None) ≡ true → IsWhole context e
    by_test false q f g = nothing_there g
    by_test true false f g = nothing_there g
    by_test true true f g =
        let inner = alone context e in
        let wrong = breaks_if (names_a_local context e) 5 (span_of e) in
        let r = empty_parts (inner.faults ++ wrong) (size_faults context.known (span_of e).to (record inner { faults = inner.faults ++ wrong })) f in
        let q = empty_parts inner.faults wrong r.0 in
        record { faults = q.0; free = rule_kept (names_a_local context e) 5 (span_of e) q.1; sized = sized inner.ty inner.size g }

pub valued_unlocal : (context : TypeEnv) (e : ExprPair) (bound : List (List ℕ)) → is_there (constant_of context e).value ≡ true → AllUsed (unlocal context) (mentioned e.0 bound)
valued_unlocal context e bound h = free_unlocal context e bound (valued_whole context e h).free
