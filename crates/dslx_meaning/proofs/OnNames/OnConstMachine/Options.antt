-- Values one after another, each of which may be missing.
use Rattle.std.proofs.Common.{◌≡◌, ℕ, zero, suc, Bool, true, false, List, [], ◌∷◌, Option, Some, None, drop, refl, ap}
use Rattle.std.specs.Prelude.{slice_get}
use Rattle.dslx_meaning.specs.Lists.{all_some, and_then, with_both, where_true}

-- both, the first one first
pub one_then_other : {A B C : Type 0} (o : Option A) (q : Option B) (f : A → B → Option C) → with_both o q f ≡ and_then o (λ a. and_then q (f a))
one_then_other None q f = refl
one_then_other (Some a) None f = refl
one_then_other (Some a) (Some b) f = refl

abbrev nothing : (A : Type 0) → Option A
nothing A = None

nothing_behind : {A B : Type 0} (o : Option A) → and_then o (λ a. nothing B) ≡ None
nothing_behind None = refl
nothing_behind (Some a) = refl

nothing_of_both : {A B C : Type 0} (p : Option A) (q : Option B) → with_both p q (λ x y. nothing C) ≡ None
nothing_of_both None q = refl
nothing_of_both (Some x) None = refl
nothing_of_both (Some x) (Some y) = refl

-- one after another, however they are grouped
pub in_turn : {A B C : Type 0} (o : Option A) (f : A → Option B) (g : B → Option C) → and_then (and_then o f) g ≡ and_then o (λ a. and_then (f a) g)
in_turn None f g = refl
in_turn (Some a) f g = refl

pub gives_itself : {A : Type 0} (o : Option A) → and_then o (λ a. Some a) ≡ o
gives_itself None = refl
gives_itself (Some a) = refl

-- the first of several, and the others
pub first_of_all : {A B : Type 0} (o : Option A) (os : List (Option A)) (k : List A → Option B) → and_then (all_some (o ∷ os)) k ≡ and_then o (λ a. and_then (all_some os) (λ more. k (a ∷ more)))
first_of_all None os k = refl
first_of_all (Some a) os k = by (all_some os) refl
  where
    by : (q : Option (List _)) → all_some os ≡ q → and_then (all_some (Some a ∷ os)) k ≡ and_then q (λ more. k (a ∷ more))
    by None e = rw e refl
    by (Some more) e = rw e refl

-- the value in front comes last
pub end_first : {A B C D : Type 0} (v : Option A) (a : Option B) (b : Option C) (f : A → B → C → Option D)
    → and_then v (λ x. with_both a b (f x)) ≡ and_then a (λ p. and_then b (λ q. and_then v (λ x. f x p q)))
end_first None None b f = refl
end_first (Some x) None b f = refl
end_first None (Some p) None f = refl
end_first (Some x) (Some p) None f = refl
end_first None (Some p) (Some q) f = refl
end_first (Some x) (Some p) (Some q) f = refl

where_both : {A B D : Type 0} (t : Bool) (a : Option A) (b : Option B) (f : A → B → Option D) → with_both a b (λ x y. where_true t (f x y)) ≡ where_true t (with_both a b f)
where_both true a b f = refl
where_both false a b f = nothing_of_both a b

pub past_both : {A B C D : Type 0} (a : Option A) (b : Option B) (o : Option C) (test : C → Bool) (f : A → B → C → Option D)
    → with_both a b (λ x y. and_then o (λ z. where_true (test z) (f x y z))) ≡ and_then o (λ z. where_true (test z) (with_both a b (λ x y. f x y z)))
past_both a b None test f = nothing_of_both a b
past_both a b (Some z) test f = where_both (test z) a b (λ x y. f x y z)

pub drop_at : {A : Type 0} (xs : List A) (n : ℕ) (x : A) → slice_get xs n ≡ Some x → drop n xs ≡ x ∷ drop (suc n) xs
drop_at [] zero x e = absurd (cc)
drop_at [] (suc n) x e = absurd (cc)
drop_at (y ∷ ys) zero x e =
    let is : y ≡ x = cc in
    ap (λ z. z ∷ ys) is
drop_at (y ∷ ys) (suc n) x e = drop_at ys n x e

pub drop_past : {A : Type 0} (xs : List A) (n : ℕ) → slice_get xs n ≡ None → drop n xs ≡ []
drop_past [] zero e = refl
drop_past [] (suc n) e = refl
drop_past (y ∷ ys) zero e = absurd (cc)
drop_past (y ∷ ys) (suc n) e = drop_past ys n e
