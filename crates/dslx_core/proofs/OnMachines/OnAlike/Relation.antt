-- Two things that may be missing, one in each of two scopes: what is claimed of them, and how it is kept.
use Rattle.std.proofs.Common.{◌≡◌, Bool, true, false, List, [], ◌∷◌, Option, Some, None, refl, sym, subst}
use mathlib.Core.Bool.{true≢false}
use Rattle.dslx_meaning.specs.Lists.{all_some, and_then, where_true, with_both}
use Rattle.dslx_core.proofs.Lemmas.Typing.Typed.{none_some, same_some}

-- whether the second may be missing where the first is there
abbrev pub MayLack : Bool → Type 0
MayLack true = ⊥
MayLack false = Unit {0}

-- where both are there, this holds of the two; and if it is claimed that there is more in the second scope (`true`), the second
-- is there where the first is
pub Alike : {A B : Type 0} → Bool → (A → B → Type 0) → Option A → Option B → Type 0
Alike more R None q = Unit {0}
Alike more R (Some a) None = MayLack more
Alike more R (Some a) (Some b) = R a b

-- the second doesn't matter where the first is missing
pub none_alike : {A B : Type 0} (more : Bool) (R : A → B → Type 0) (q : Option B) → Alike more R None q
unfolding Alike
none_alike more R q = tt

pub both_there : {A B : Type 0} (more : Bool) (R : A → B → Type 0) (a : A) (b : B) → R a b → Alike more R (Some a) (Some b)
unfolding Alike
both_there more R a b h = h

-- ---- what is the same in both scopes

pub alike_itself : {A : Type 0} (more : Bool) (R : A → A → Type 0) (o : Option A) → ((a : A) → R a a) → Alike more R o o
unfolding Alike
alike_itself more R None h = tt
alike_itself more R (Some a) h = h a

-- ---- one after the other

pub nothing_alike : {A B : Type 0} (more : Bool) (R : A → B → Type 0) (o : Option A) → MayLack more → Alike more R o None
unfolding Alike
nothing_alike more R None h = tt
nothing_alike more R (Some a) h = h

pub then_alike : {A B C D : Type 0} (more : Bool) (R : A → B → Type 0) (S : C → D → Type 0) (o : Option A) (q : Option B) (f : A → Option C) (g : B → Option D)
    → Alike more R o q → ((a : A) (b : B) → R a b → Alike more S (f a) (g b)) → Alike more S (and_then o f) (and_then q g)
unfolding Alike
then_alike more R S None q f g h k = tt
then_alike more R S (Some a) None f g h k = nothing_alike more S (f a) h
then_alike more R S (Some a) (Some b) f g h k = k a b h

-- behind what is the same in both scopes
pub then_same : {A C D : Type 0} (more : Bool) (S : C → D → Type 0) (o : Option A) (f : A → Option C) (g : A → Option D) → ((a : A) → Alike more S (f a) (g a)) → Alike more S (and_then o f) (and_then o g)
unfolding Alike
then_same more S None f g k = tt
then_same more S (Some a) f g k = k a

pub both_alike : {A B C D E F : Type 0} (more : Bool) (R : A → B → Type 0) (S : C → D → Type 0) (T : E → F → Type 0) (o : Option A) (q : Option B) (p : Option C) (r : Option D)
    (f : A → C → Option E) (g : B → D → Option F)
    → Alike more R o q → Alike more S p r → ((a : A) (b : B) (c : C) (d : D) → R a b → S c d → Alike more T (f a c) (g b d)) → Alike more T (with_both o p f) (with_both q r g)
unfolding Alike
both_alike more R S T None q p r f g h k m = tt
both_alike more R S T (Some a) q None r f g h k m = tt
both_alike more R S T (Some a) None (Some c) r f g h k m = nothing_alike more T (f a c) h
both_alike more R S T (Some a) (Some b) (Some c) None f g h k m = nothing_alike more T (f a c) k
both_alike more R S T (Some a) (Some b) (Some c) (Some d) f g h k m = m a b c d h k

-- two that are the same in both scopes
pub both_same : {A C E F : Type 0} (more : Bool) (T : E → F → Type 0) (o : Option A) (p : Option C) (f : A → C → Option E) (g : A → C → Option F)
    → ((a : A) (c : C) → Alike more T (f a c) (g a c)) → Alike more T (with_both o p f) (with_both o p g)
unfolding Alike
both_same more T None p f g m = tt
both_same more T (Some a) None f g m = tt
both_same more T (Some a) (Some c) f g m = m a c

-- under tests that come to the same
pub where_alike : {A B : Type 0} (more : Bool) (R : A → B → Type 0) (t u : Bool) (o : Option A) (q : Option B) → t ≡ u → Alike more R o q → Alike more R (where_true t o) (where_true u q)
unfolding Alike
where_alike more R true true o q e h = h
where_alike more R true false o q e h = absurd (true≢false e)
where_alike more R false u o q e h = tt

-- what is there under tests that come to the same
pub there_under : {A B : Type 0} (more : Bool) (R : A → B → Type 0) (t u : Bool) (a : A) (b : B) → t ≡ u → R a b → Alike more R (where_true t (Some a)) (where_true u (Some b))
there_under more R t u a b e h = where_alike more R t u (Some a) (Some b) e (both_there more R a b h)

-- ---- several

-- each of the first with the one at its place
abbrev pub EachAlike : {A B : Type 0} → Bool → (A → B → Type 0) → List (Option A) → List (Option B) → Type 0
EachAlike more R [] [] = Unit {0}
EachAlike more R (o ∷ os) (q ∷ qs) = Alike more R o q × EachAlike more R os qs
EachAlike more R [] (q ∷ qs) = ⊥
EachAlike more R (o ∷ os) [] = ⊥

abbrev pub Each : {A B : Type 0} → (A → B → Type 0) → List A → List B → Type 0
Each R [] [] = Unit {0}
Each R (a ∷ as') (b ∷ bs) = R a b × Each R as' bs
Each R [] (b ∷ bs) = ⊥
Each R (a ∷ as') [] = ⊥

pub all_alike : {A B : Type 0} (more : Bool) (R : A → B → Type 0) (os : List (Option A)) (qs : List (Option B)) → EachAlike more R os qs → Alike more (Each R) (all_some os) (all_some qs)
unfolding Alike
all_alike more R [] [] h = tt
all_alike more R [] (q ∷ qs) h = absurd h
all_alike more R (o ∷ os) [] h = absurd h
all_alike more R (None ∷ os) (q ∷ qs) h = tt
all_alike more R (Some a ∷ os) (None ∷ qs) h = nothing_alike more (Each R) (all_some (Some a ∷ os)) h.0
all_alike more R (Some a ∷ os) (Some b ∷ qs) h = by (all_some os) refl (all_some qs) refl (all_alike more R os qs h.1)
  where
    by : (o : Option (List _)) → all_some os ≡ o → (q : Option (List _)) → all_some qs ≡ q → Alike more (Each R) o q → Alike more (Each R) (all_some (Some a ∷ os)) (all_some (Some b ∷ qs))
    by None e q i rest = rw e tt
    by (Some as') e None i rest = rw (e, i) rest
    by (Some as') e (Some bs) i rest = rw (e, i) (h.0, rest)

-- ---- the two claims

-- the second is there where the first is
pub there_too : {A B : Type 0} (R : A → B → Type 0) (o : Option A) (q : Option B) → Alike true R o q → (a : A) → o ≡ Some a → (b : B) × (q ≡ Some b) × R a b
unfolding Alike
there_too R None q h a e = none_some a e
there_too R (Some x) None h a e = absurd h
there_too R (Some x) (Some b) h a e = (b, refl, subst (λ y. R y b) (same_some x a e) h)

-- the two where both are there
pub where_both : {A B : Type 0} (R : A → B → Type 0) (o : Option A) (q : Option B) → Alike false R o q → (a : A) (b : B) → o ≡ Some a → q ≡ Some b → R a b
unfolding Alike
where_both R None q h a b e i = none_some a e
where_both R (Some x) None h a b e i = none_some b i
where_both R (Some x) (Some y) h a b e i = subst (λ z. R a z) (same_some y b i) (subst (λ z. R z y) (same_some x a e) h)

pub from_more : {A B : Type 0} (R : A → B → Type 0) (o : Option A) (q : Option B) → ((a : A) → o ≡ Some a → (b : B) × (q ≡ Some b) × R a b) → Alike true R o q
unfolding Alike
from_more R None q h = tt
from_more R (Some a) q h = let b = h a refl in subst (λ r. Alike true R (Some a) r) (sym b.1) b.2

pub from_agreeing : {A B : Type 0} (R : A → B → Type 0) (o : Option A) (q : Option B) → ((a : A) (b : B) → o ≡ Some a → q ≡ Some b → R a b) → Alike false R o q
unfolding Alike
from_agreeing R None q h = tt
from_agreeing R (Some a) None h = tt
from_agreeing R (Some a) (Some b) h = h a b refl refl
