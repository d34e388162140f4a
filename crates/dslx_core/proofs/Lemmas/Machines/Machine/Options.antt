-- Values that may be missing, and lists that grow.
use Rattle.std.proofs.Common.{◌≡◌, ◌-◌, Bool, true, false, List, [], ◌∷◌, ◌++◌, Option, Some, None, drop, length, map, refl, ap, ◌∙◌, arith}
use Rattle.std.proofs.lemmas.List.{length-append}
use Rattle.dslx_meaning.specs.Lists.{all_some, and_then, with_both, where_true}
use Rattle.dslx_core.proofs.Lemmas.Typing.Typed.{none_some}

pub from_then : {A B : Type 0} (o : Option A) (f : A → Option B) (b : B) → and_then o f ≡ Some b → (a : A) × (o ≡ Some a) × (f a ≡ Some b)
from_then None f b e = none_some b e
from_then (Some a) f b e = (a, refl, e)

pub from_where : {A : Type 0} (t : Bool) (o : Option A) (a : A) → where_true t o ≡ Some a → (t ≡ true) × (o ≡ Some a)
from_where true o a e = (refl, e)
from_where false o a e = none_some a e

-- one after another, however they are grouped
pub in_turn : {A B C : Type 0} (o : Option A) (f : A → Option B) (g : B → Option C) → and_then (and_then o f) g ≡ and_then o (λ a. and_then (f a) g)
in_turn None f g = refl
in_turn (Some a) f g = refl

-- both, the first one first
pub one_then_other : {A B C : Type 0} (o : Option A) (q : Option B) (f : A → B → Option C) → with_both o q f ≡ and_then o (λ a. and_then q (f a))
one_then_other None q f = refl
one_then_other (Some a) None f = refl
one_then_other (Some a) (Some b) f = refl

pub gives_itself : {A : Type 0} (o : Option A) → and_then o (λ a. Some a) ≡ o
gives_itself None = refl
gives_itself (Some a) = refl

abbrev nothing : (A : Type 0) → Option A
nothing A = None

pub nothing_behind : {A B : Type 0} (o : Option A) → and_then o (λ a. nothing B) ≡ None
nothing_behind None = refl
nothing_behind (Some a) = refl

-- the first of several, and the others
pub first_of_all : {A B : Type 0} (o : Option A) (os : List (Option A)) (k : List A → Option B) → and_then (all_some (o ∷ os)) k ≡ and_then o (λ a. and_then (all_some os) (λ more. k (a ∷ more)))
first_of_all None os k = refl
first_of_all (Some a) os k = by (all_some os) refl
  where
    by : (q : Option (List _)) → all_some os ≡ q → and_then (all_some (Some a ∷ os)) k ≡ and_then q (λ more. k (a ∷ more))
    by None e = rw e refl
    by (Some more) e = rw e refl

pub all_there : {A : Type 0} (as' : List A) → all_some (map Some as') ≡ Some as'
all_there [] = refl
all_there (a ∷ as') = rw (all_there as') refl

-- what stands in front of a list dropped again
drop_prefix : {A : Type 0} (new old : List A) → drop (length new) (new ++ old) ≡ old
drop_prefix [] old = refl
drop_prefix (a ∷ new) old = drop_prefix new old

pub dropped_again : {A : Type 0} (new old : List A) → drop (length (new ++ old) - length old) (new ++ old) ≡ old
dropped_again new old = ap (λ n. drop n (new ++ old)) count ∙ drop_prefix new old
  where
    count : length (new ++ old) - length old ≡ length new
    count = omega (arith, length-append new old)
