-- One place more, in which nothing stands.
use Rattle.std.proofs.Common.{◌≡◌, ◌++◌, ◌∷◌, [], ℕ, zero, suc, Bool, false, List, Option, Some, None, slice_get, refl, ap}
use Rattle.std.specs.Global.{Vec}
use Rattle.dslx_meaning.specs.Lists.{and_then}
use Rattle.dslx_meaning.specs.declared.value.DslxValue.{DslxValue}
use Rattle.dslx_check_facts.specs.Known.{at_place, is_so}

-- what is found at each place, and past the end
found_more : {A B : Type 0} (find : Option A → B) (none : B) (xs : List A) (x : A) → find None ≡ none → find (Some x) ≡ none → ((i : ℕ) → find (slice_get xs i) ≡ none) → (i : ℕ) → find (slice_get (xs ++ x ∷ []) i) ≡ none
found_more find none [] x past here all zero = here
found_more find none [] x past here all (suc i) = past
found_more find none (y ∷ ys) x past here all zero = all zero
found_more find none (y ∷ ys) x past here all (suc i) = found_more find none ys x past here (λ k. all (suc k)) i

pub none_more : {A : Type 0} (places : List (Option A)) → ((i : ℕ) → at_place places i ≡ None) → (i : ℕ) → at_place (places ++ None ∷ []) i ≡ None
none_more {A} places none = found_more (λ (o : Option (Option A)). and_then o (λ (a : Option A). a)) None places None refl refl none

pub no_members_more : (members : List (Vec (Option DslxValue))) (own : Vec (Option DslxValue)) → own.items ≡ [] → ((i k : ℕ) → and_then (slice_get members i) (λ ms. at_place ms.items k) ≡ None)
    → (i k : ℕ) → and_then (slice_get (members ++ own ∷ []) i) (λ ms. at_place ms.items k) ≡ None
no_members_more members own empty none i k =
    found_more (λ (o : Option (Vec (Option DslxValue))). and_then o (λ ms. at_place ms.items k)) None members own refl (ap (λ l. at_place l k) empty) (λ j. none j k) i

pub none_judged_more : (judged : List Bool) → ((i : ℕ) → is_so (slice_get judged i) ≡ false) → (i : ℕ) → is_so (slice_get (judged ++ false ∷ []) i) ≡ false
none_judged_more judged none = found_more is_so false judged false refl refl none
