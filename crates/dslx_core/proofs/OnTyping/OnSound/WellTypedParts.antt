-- Judgements with which nothing is wrong: nothing is with their parts either.
use Rattle.std.proofs.Common.{◌≡◌, ◌&&◌, ◌++◌, ◌+◌, ℕ, Bool, true, false, not, if◌then◌else◌, List, [], ◌∷◌, Option, Some, None, refl, sym, ap, subst, ◌∙◌}
use mathlib.Core.Bool.{true≢false}
use Rattle.std.specs.List.{list_all}
use Rattle.xb_span.specs.declared.span.Span.{Span}
use Rattle.xb_span.specs.declared.fault.Fault.{Fault}
use Rattle.dslx_meaning.specs.Types.{holds_token}
use Rattle.dslx_meaning.specs.Environment.{Env}
use Rattle.dslx_meaning.specs.Meaning.{ExprDen}
use Rattle.dslx_meaning.specs.declared.ty.DslxType.{DslxType}
use Rattle.dslx_meaning.specs.declared.value.DslxValue.{DslxValue}
use Rattle.dslx_meaning.specs.Rules.TypeEnvs.{ExprPair, Instance, Judgement, GlobalEnv, TypeEnv, alone, breaks, breaks_if, limited, no_token, one_and, plus_size, settled, size_if_typed, span_of, type_limits, unless_broken, unlimited, within}
use Rattle.dslx_core.specs.Typing.Typed.Complete.{IsWellTypedPart}
use Rattle.dslx_core.specs.Typing.Typed.Declared.{Declarations}
use Rattle.dslx_core.specs.Typing.Typed.Given.{GivesItsType, GivesOf, IsSized}
use Rattle.dslx_core.specs.Typing.Typed.WellTyped.{IsWellTypedEnv, types_at}
use Rattle.dslx_core.proofs.Lemmas.Typing.Typed.{same_some}
use Rattle.dslx_core.specs.Typing.Sound.Sound.{HasTypedValue, ExprGives}

-- ---- lists without faults

pub some_fault : {X A : Type 0} (a : A) (as' : List A) → (a ∷ as') ≡ [] → X
some_fault {A = A} a as' e = absurd (true≢false (ap is_some e))
  where
    is_some : List A → Bool
    is_some [] = false
    is_some (b ∷ bs) = true

pub none_in : {A : Type 0} (xs ys : List A) → (xs ++ ys) ≡ [] → (xs ≡ []) × (ys ≡ [])
none_in [] ys e = (refl, e)
none_in (x ∷ xs) ys e = some_fault x (xs ++ ys) e

pub none_in_three : {A : Type 0} (xs ys zs : List A) → ((xs ++ ys) ++ zs) ≡ [] → (xs ≡ []) × (ys ≡ []) × (zs ≡ [])
none_in_three xs ys zs e =
    let p = none_in (xs ++ ys) zs e in
    let q = none_in xs ys p.0 in
    (q.0, q.1, p.1)

pub not_broken : (p : Bool) (rule : ℕ) (span : Span) → breaks_if p rule span ≡ [] → p ≡ false
not_broken true rule span e = some_fault (breaks rule span) [] e
not_broken false rule span e = refl

pub passed : (p : Bool) (rule : ℕ) (span : Span) → breaks_if (not p) rule span ≡ [] → p ≡ true
passed true rule span e = refl
passed false rule span e = some_fault (breaks rule span) [] e

-- ---- what is reached

and_both : (p q : Bool) → (p && q) ≡ true → (p ≡ true) × (q ≡ true)
and_both true q e = (refl, e)
and_both false q e = absurd (true≢false (sym e))

pub all_in : {A : Type 0} (p : A → Bool) (xs ys : List A) → list_all p (xs ++ ys) ≡ true → (list_all p xs ≡ true) × (list_all p ys ≡ true)
all_in p [] ys e = (refl, e)
all_in p (x ∷ xs) ys e =
    let q = and_both (p x) (list_all p (xs ++ ys)) e in
    let r = all_in p xs ys q.1 in
    (λ i. q.0 i && r.0 i, r.1)

pub all_in_three : {A : Type 0} (p : A → Bool) (xs ys zs : List A) → list_all p ((xs ++ ys) ++ zs) ≡ true → (list_all p xs ≡ true) × (list_all p ys ≡ true) × (list_all p zs ≡ true)
all_in_three p xs ys zs e =
    let a = all_in p (xs ++ ys) zs e in
    let b = all_in p xs ys a.0 in
    (b.0, b.1, a.1)

-- ---- judgements

-- nothing is wrong with what is judged without the limits on its type either
pub limited_well_typed : (known : GlobalEnv) (span : Span) (j : Judgement) → IsWellTypedPart known (limited span j) → IsWellTypedPart known j
limited_well_typed known span j well_typed = record { faults = (none_in j.faults (type_limits span.to j.ty) well_typed.faults).0; reached = well_typed.reached }

-- what no limit applies to has its type where it and its parts break nothing
pub unlimited_type : (own : Option DslxType) (named : List Fault) (found : List Instance) (size : Option ℕ) → named ≡ [] → (unlimited own named found size).ty ≡ own
unlimited_type own named found size none = λ i. unless_broken (none i) own

-- so has what is settled
pub record IsSettled (known : GlobalEnv) (span : Span) (own : Option DslxType) (named : List Fault) (found : List Instance) (size : Option ℕ) : Type 0 where
  pub faults : named ≡ []
  pub reached : list_all known.is_sound found ≡ true
  pub ty : (settled span own named found size).ty ≡ own

pub settled_well_typed : (known : GlobalEnv) (span : Span) (own : Option DslxType) (named : List Fault) (found : List Instance) (size : Option ℕ) → IsWellTypedPart known (settled span own named found size)
    → IsSettled known span own named found size
settled_well_typed known span own named found size well_typed =
    let q = none_in named (type_limits span.to (unless_broken named own)) well_typed.faults in
    record { faults = q.0; reached = well_typed.reached; ty = λ i. unless_broken (q.0 i) own }

-- what stands alone is no token
pub record IsAlone (known : GlobalEnv) (span : Span) (j : Judgement) : Type 0 where
  pub well_typed : IsWellTypedPart known j
  pub same_type : (no_token span j).ty ≡ j.ty
  pub same_size : (no_token span j).size ≡ j.size

pub alone_well_typed : (known : GlobalEnv) (span : Span) (j : Judgement) → IsWellTypedPart known (no_token span j) → IsAlone known span j
alone_well_typed known span j well_typed = by_type j.ty j.faults j.reached j.size well_typed
  where
    by_test : (u : DslxType) (faults : List Fault) (reached : List Instance) (size : Option ℕ) (b : Bool) → holds_token u ≡ b
        → IsWellTypedPart known (if◌then◌else◌ {A = Judgement} b (record { ty = None; faults = faults ++ breaks 28 span ∷ []; reached = reached; size = size }) (record { ty = Some u; faults = faults; reached = reached; size = size }))
        → IsAlone known span (record { ty = Some u; faults = faults; reached = reached; size = size })
    by_test u faults reached size true q h = some_fault (breaks 28 span) [] (none_in faults (breaks 28 span ∷ []) h.faults).1
    by_test u faults reached size false q h = record {
      well_typed = record { faults = h.faults; reached = h.reached };
      same_type = ap (λ b. (if◌then◌else◌ {A = Judgement} b (record { ty = None; faults = faults ++ breaks 28 span ∷ []; reached = reached; size = size }) (record { ty = Some u; faults = faults; reached = reached; size = size })).ty) q;
      same_size = ap (λ b. (if◌then◌else◌ {A = Judgement} b (record { ty = None; faults = faults ++ breaks 28 span ∷ []; reached = reached; size = size }) (record { ty = Some u; faults = faults; reached = reached; size = size })).size) q;
    }

    by_type : (ty : Option DslxType) (faults : List Fault) (reached : List Instance) (size : Option ℕ) → IsWellTypedPart known (no_token span (record { ty = ty; faults = faults; reached = reached; size = size }))
        → IsAlone known span (record { ty = ty; faults = faults; reached = reached; size = size })
    by_type None faults reached size h = record { well_typed = record { faults = h.faults; reached = h.reached }; same_type = refl; same_size = refl }
    by_type (Some u) faults reached size h = by_test u faults reached size (holds_token u) refl h

-- ---- sizes

pub one_sized : (a : Option ℕ) → IsSized a → IsSized (one_and a)
one_sized a s = (1 + s.0, ap one_and s.1)

pub plus_sized : (a b : Option ℕ) → IsSized a → IsSized b → IsSized (plus_size a b)
plus_sized a b s t = (s.0 + t.0, λ i. plus_size (s.1 i) (t.1 i))

-- of what has a type
pub sized_if : (own : Option DslxType) (t : DslxType) (size : Option ℕ) → own ≡ Some t → IsSized size → IsSized (size_if_typed own size)
sized_if own t size e s = (s.0, ap (λ o. size_if_typed o size) e ∙ s.1)

-- ---- values

-- a value of its type is given, whichever type that is
pub given : (types : Declarations) (j : Judgement) (o : Option DslxValue) → HasTypedValue types j o → GivesItsType types j o
given types j o h t e = subst (λ u. GivesOf types u o) (same_some h.0 t (sym h.1 ∙ e)) h.2

-- an expression that stands alone
pub alone_has : (context : TypeEnv) (env : Env) (e : ExprPair) (x : ExprDen) → ExprGives e x → IsWellTypedEnv context env → (alone context e).faults ≡ [] → list_all context.known.is_sound (alone context e).reached ≡ true
    → HasTypedValue (types_at context) (alone context e) (x.value env)
alone_has context env e x s h faults reached =
    let a = alone_well_typed context.known (span_of e) (within context e) (record { faults = faults; reached = reached }) in
    let g = s.gives context env h a.well_typed in
    (g.0, a.same_type ∙ g.1, g.2, (g.3.0, a.same_size ∙ g.3.1))

-- what is settled has the type and the value that its law gives it, where its parts have sizes
pub whole : (types : Declarations) (known : GlobalEnv) (span : Span) (ty : Option DslxType) (faults : List Fault) (reached : List Instance) (size : Option ℕ) (t : DslxType) (o : Option DslxValue)
    → IsSettled known span ty faults reached size → ty ≡ Some t → IsSized size → GivesItsType types (settled span ty faults reached size) o → HasTypedValue types (settled span ty faults reached size) o
whole types known span ty faults reached size t o s own sized law = (t, s.ty ∙ own, law t (s.ty ∙ own), sized_if (unless_broken faults ty) t size (s.ty ∙ own) sized)
