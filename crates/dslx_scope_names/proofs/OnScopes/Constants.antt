-- Constants one after another.
use Rattle.std.proofs.Common.{◌≡◌, List, [], ◌∷◌, ◌++◌, Option, Some, None, refl, sym, ap, ◌∙◌}
use Rattle.std.specs.Option.{option_map}
use Rattle.std.proofs.lemmas.List.{append_assoc, append-nil}
use Rattle.dslx_meaning.specs.Lists.{all_some}

-- all of these behind those that are there
abbrev pub behind : {A : Type 0} → List A → List (Option A) → Option (List A)
behind values os = option_map (λ vs. values ++ vs) (all_some os)

abbrev before : {A : Type 0} → A → Option (List A) → Option (List A)
before a None = None
before a (Some as') = Some (a ∷ as')

first_put : {A : Type 0} (values : List A) (v : A) (o : Option (List A)) → option_map (λ vs. values ++ vs) (before v o) ≡ option_map (λ vs. (values ++ v ∷ []) ++ vs) o
first_put values v None = refl
first_put values v (Some vs) = ap Some (sym (append_assoc values (v ∷ []) vs))

-- the first one is there
pub with_first : {A : Type 0} (values : List A) (v : A) (os : List (Option A)) → behind values (Some v ∷ os) ≡ behind (values ++ v ∷ []) os
with_first values v os = first_put values v (all_some os)

none_before : {A : Type 0} (o : Option (List A)) → option_map (λ vs. [] ++ vs) o ≡ o
none_before None = refl
none_before (Some vs) = refl

-- none is there so far
pub from_nothing : {A : Type 0} (os : List (Option A)) → behind [] os ≡ all_some os
from_nothing os = none_before (all_some os)

-- none is left
pub at_the_end : {A : Type 0} (values : List A) → behind values [] ≡ Some values
at_the_end values = ap Some (append-nil values)
