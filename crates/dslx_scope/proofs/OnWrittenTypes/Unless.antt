-- Values that are there unless something sees a local.
use Rattle.std.proofs.Common.{◌≡◌, ◌||◌, ◌++◌, Bool, true, false, List, [], ◌∷◌, Option, Some, None, refl, ap, ◌∙◌}
use Rattle.std.specs.List.{list_any}
use Rattle.dslx_meaning.specs.Lists.{all_some, and_then, is_in, with_both}
use Rattle.dslx_meaning.specs.Rules.Mentions.{Mention, value_names}
use Rattle.dslx_core.specs.Lowering.CoreScopes.{CoreScope, slot_names, unless_local}
use Rattle.dslx_scope.proofs.OnFreeNames.Named.{value_names_append}

-- some name of a value among these is bound in the scope
abbrev pub sees : CoreScope → List Mention → Bool
sees scope ms = list_any (λ name. is_in name (slot_names scope.locals)) (value_names ms)

any_of_both : {A : Type 0} (test : A → Bool) (xs ys : List A) → list_any test (xs ++ ys) ≡ list_any test xs || list_any test ys
any_of_both test [] ys = refl
any_of_both test (x ∷ xs) ys = by (test x) (any_of_both test xs ys)
  where
    by : (b : Bool) → list_any test (xs ++ ys) ≡ list_any test xs || list_any test ys → (b || list_any test (xs ++ ys)) ≡ (b || list_any test xs || list_any test ys)
    by true e = refl
    by false e = e

pub sees_both : (scope : CoreScope) (ms ns : List Mention) → sees scope (ms ++ ns) ≡ sees scope ms || sees scope ns
sees_both scope ms ns =
    ap (list_any (λ name. is_in name (slot_names scope.locals))) (value_names_append ms ns)
    ∙ any_of_both (λ name. is_in name (slot_names scope.locals)) (value_names ms) (value_names ns)

-- ---- what is made of such values

pub then_unless : {A B : Type 0} (b : Bool) (o : Option A) (f : A → Option B) → and_then (unless_local b o) f ≡ unless_local b (and_then o f)
then_unless true o f = refl
then_unless false o f = refl

-- without the second value nothing is made
both_none : {A B C : Type 0} (o : Option A) (f : A → B → Option C) → with_both o None f ≡ None
both_none None f = refl
both_none (Some a) f = refl

pub both_unless : {A B C : Type 0} (b c : Bool) (o : Option A) (p : Option B) (f : A → B → Option C)
    → with_both (unless_local b o) (unless_local c p) f ≡ unless_local (b || c) (with_both o p f)
both_unless true c o p f = refl
both_unless false true o p f = both_none o f
both_unless false false o p f = refl

-- ---- several values

abbrev first_of : {A : Type 0} → A → Option (List A) → Option (List A)
first_of a None = None
first_of a (Some as') = Some (a ∷ as')

all_by_first : {A : Type 0} (a : A) (os : List (Option A)) → all_some (Some a ∷ os) ≡ first_of a (all_some os)
all_by_first a os = refl

first_unless : {A : Type 0} (a : A) (c : Bool) (o : Option (List A)) → first_of a (unless_local c o) ≡ unless_local c (first_of a o)
first_unless a true o = refl
first_unless a false o = refl

pub all_unless : {A : Type 0} (b c : Bool) (o : Option A) (os ps : List (Option A)) → all_some os ≡ unless_local c (all_some ps)
    → all_some (unless_local b o ∷ os) ≡ unless_local (b || c) (all_some (o ∷ ps))
all_unless true c o os ps e = refl
all_unless false true None os ps e = refl
all_unless false false None os ps e = refl
all_unless false c (Some a) os ps e = ap (first_of a) e ∙ first_unless a c (all_some ps)
