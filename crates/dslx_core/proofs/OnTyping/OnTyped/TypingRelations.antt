-- What judgements say where a type is there.
use Rattle.std.proofs.Common.{◌≡◌, ◌||◌, ◌++◌, ℕ, Bool, true, false, not, if◌then◌else◌, List, [], ◌∷◌, Option, Some, None, refl, sym, ap, ◌∙◌}
use mathlib.Core.Bool.{true≢false}
use Rattle.std.specs.Prelude.{unwrap_or}
use Rattle.std.specs.Option.{option_map}
use Rattle.xb_span.specs.declared.span.Span.{Span}
use Rattle.xb_span.specs.declared.fault.Fault.{Fault}
use Rattle.dslx_meaning.specs.Types.{holds_token}
use Rattle.dslx_meaning.specs.declared.ty.DslxType.{DslxType}
use Rattle.dslx_meaning.specs.Rules.TypeEnvs.{Judgement, Instance, breaks, breaks_if, is_rule, has_broken, unless_broken, no_token}

-- ---- options

pub none_some : {X A : Type 0} (a : A) → None ≡ Some a → X
none_some a e = absurd (true≢false (sym (ap there e)))
  where
    there : {A : Type 0} → Option A → Bool
    there None = false
    there (Some a) = true

pub same_some : {A : Type 0} (a b : A) → Some a ≡ Some b → a ≡ b
same_some a b e = ap (λ o. unwrap_or o a) e

-- what a function of a value that is there comes from
pub mapped_from : {A B : Type 0} (f : A → B) (o : Option A) (b : B) → option_map f o ≡ Some b → (a : A) × (o ≡ Some a) × (f a ≡ b)
mapped_from f None b e = none_some b e
mapped_from f (Some a) b e = (a, refl, same_some (f a) b e)

-- ---- faults

pub or_false : (p q : Bool) → (p || q) ≡ false → (p ≡ false) × (q ≡ false)
or_false true q e = absurd (true≢false e)
or_false false q e = (refl, e)

-- no rule is broken in either of two lists
pub unbroken_parts : (fs gs : List Fault) → has_broken (fs ++ gs) ≡ false → (has_broken fs ≡ false) × (has_broken gs ≡ false)
unbroken_parts [] gs e = (refl, e)
unbroken_parts (f ∷ fs) gs e =
    let q = or_false (is_rule f) (has_broken (fs ++ gs)) e in
    let r = unbroken_parts fs gs q.1 in
    (ap (λ b. b || has_broken fs) q.0 ∙ r.0, r.1)

-- a rule is broken in the first of two lists, or behind it
pub broken_first : (fs gs : List Fault) → has_broken fs ≡ true → has_broken (fs ++ gs) ≡ true
broken_first [] gs e = absurd (true≢false (sym e))
broken_first (f ∷ fs) gs e = by_first (is_rule f) e (broken_first fs gs)
  where
    by_first : (p : Bool) → (p || has_broken fs) ≡ true → (has_broken fs ≡ true → has_broken (fs ++ gs) ≡ true) → (p || has_broken (fs ++ gs)) ≡ true
    by_first true q rest = refl
    by_first false q rest = rest q

pub broken_there : (fs gs : List Fault) (rule : ℕ) (span : Span) → has_broken (fs ++ breaks rule span ∷ gs) ≡ true
broken_there [] gs rule span = refl
broken_there (f ∷ fs) gs rule span = by_first (is_rule f) (broken_there fs gs rule span)
  where
    by_first : (p : Bool) → has_broken (fs ++ breaks rule span ∷ gs) ≡ true → (p || has_broken (fs ++ breaks rule span ∷ gs)) ≡ true
    by_first true q = refl
    by_first false q = q

pub three_unbroken : (fs gs hs : List Fault) → has_broken ((fs ++ gs) ++ hs) ≡ false → (has_broken fs ≡ false) × (has_broken gs ≡ false) × (has_broken hs ≡ false)
three_unbroken fs gs hs e =
    let r = unbroken_parts (fs ++ gs) hs e in
    let q = unbroken_parts fs gs r.0 in
    (q.0, q.1, r.1)

-- a rule that isn't broken is no fault
pub rule_holds : (p : Bool) (rule : ℕ) (span : Span) → has_broken (breaks_if p rule span) ≡ false → p ≡ false
rule_holds true rule span e = absurd (true≢false e)
rule_holds false rule span e = refl

pub no_fault : (p : Bool) (rule : ℕ) (span : Span) → has_broken (breaks_if p rule span) ≡ false → breaks_if p rule span ≡ []
no_fault p rule span e = ap (λ b. breaks_if b rule span) (rule_holds p rule span e)

pub no_two_faults : (p q : Bool) (rule other : ℕ) (span beside : Span) → has_broken (breaks_if p rule span ++ breaks_if q other beside) ≡ false → (breaks_if p rule span ++ breaks_if q other beside) ≡ []
no_two_faults p q rule other span beside e =
    let r = unbroken_parts (breaks_if p rule span) (breaks_if q other beside) e in
    λ i. no_fault p rule span r.0 i ++ no_fault q other beside r.1 i

pub not_false : (p : Bool) → not p ≡ false → p ≡ true
not_false true e = refl
not_false false e = absurd (true≢false e)

-- the test holds
pub test_holds : (p : Bool) (rule : ℕ) (span : Span) → has_broken (breaks_if (not p) rule span) ≡ false → p ≡ true
test_holds p rule span e = not_false p (rule_holds (not p) rule span e)

-- ---- types

-- a part that has a type breaks no rule, nor does a part of it
pub settled_type : (ty : Option DslxType) (faults : List Fault) (t : DslxType) → unless_broken faults ty ≡ Some t → (has_broken faults ≡ false) × (ty ≡ Some t)
settled_type ty faults t e = by_test (has_broken faults) refl e
  where
    by_test : (b : Bool) → has_broken faults ≡ b → (if b then None else ty) ≡ Some t → (has_broken faults ≡ false) × (ty ≡ Some t)
    by_test true q h = none_some t h
    by_test false q h = (q, h)

-- what stands alone has the type that it has inside, and that holds no token
pub alone_type : (span : Span) (j : Judgement) (t : DslxType) → (no_token span j).ty ≡ Some t → (j.ty ≡ Some t) × (holds_token t ≡ false)
alone_type span j t e = by_type j.ty j.faults j.reached j.size e
  where
    by_test : (u : DslxType) (faults : List Fault) (reached : List Instance) (size : Option ℕ) (b : Bool) → holds_token u ≡ b
        → (if◌then◌else◌ {A = Judgement} b (record { ty = None; faults = faults ++ breaks 28 span ∷ []; reached = reached; size = size }) (record { ty = Some u; faults = faults; reached = reached; size = size })).ty ≡ Some t
        → (Some u ≡ Some t) × (holds_token t ≡ false)
    by_test u faults reached size true q h = none_some t h
    by_test u faults reached size false q h = (h, sym (ap holds_token (same_some u t h)) ∙ q)

    by_type : (ty : Option DslxType) (faults : List Fault) (reached : List Instance) (size : Option ℕ) → (no_token span (record { ty = ty; faults = faults; reached = reached; size = size })).ty ≡ Some t
        → (ty ≡ Some t) × (holds_token t ≡ false)
    by_type None faults reached size h = none_some t h
    by_type (Some u) faults reached size h = by_test u faults reached size (holds_token u) refl h
