-- Sums over lists of views, and what holds of each of them.
use Rattle.std.proofs.Common.{◌≡◌, ◌≢◌, ℕ, zero, suc, ◌+◌, ◌≤◌, List, [], ◌∷◌, ◌++◌, set, sym, refl, ap, subst, ⊎_elim, arith}
use Rattle.std.specs.Prelude.{sum_by}
use Rattle.std.proofs.lemmas.List.Sums.{sum_by-cons}
use mathlib.Core.Option.{some, some-ne-none}
use lib.ListN.{get_elem?}
use Rattle.crossbeam_deque.proofs.Lists.{at_set}

pub sum_append : {A : Type 0} (f : A → ℕ) (xs ys : List A) → sum_by f (xs ++ ys) ≡ sum_by f xs + sum_by f ys
sum_append f [] ys = omega arith
sum_append f (x ∷ xs) ys = omega (arith, sum_by-cons f x (xs ++ ys), sum_by-cons f x xs, sum_append f xs ys)

pub sum_one : {A : Type 0} (f : A → ℕ) (x : A) → sum_by f (x ∷ []) ≡ f x
sum_one f x = omega (arith, sum_by-cons f x [])

-- the sum after a change of one
pub sum_set : {A : Type 0} (f : A → ℕ) (views : List A) (p : ℕ) (v w : A) → get_elem? views p ≡ some v → sum_by f (set views p w) + f v ≡ sum_by f views + f w
sum_set f [] p v w e = absurd (some-ne-none v (sym e))
sum_set f (x ∷ xs) zero v w e = let same : x ≡ v = cc in omega (arith, ap f same, sum_by-cons f w xs, sum_by-cons f x xs)
sum_set f (x ∷ xs) (suc p) v w e = omega (arith, sum_set f xs p v w e, sum_by-cons f x (set xs p w), sum_by-cons f x xs)

-- one is no more than all, and two neither
pub one_below : {A : Type 0} (f : A → ℕ) (views : List A) (p : ℕ) (v : A) → get_elem? views p ≡ some v → f v ≤ sum_by f views
one_below f [] p v e = absurd (some-ne-none v (sym e))
one_below f (x ∷ xs) zero v e = let same : x ≡ v = cc in omega (arith, ap f same, sum_by-cons f x xs)
one_below f (x ∷ xs) (suc p) v e = omega (arith, one_below f xs p v e, sum_by-cons f x xs)

pub two_below : {A : Type 0} (f : A → ℕ) (views : List A) (p q : ℕ) (v u : A) → q ≢ p → get_elem? views p ≡ some v → get_elem? views q ≡ some u → f v + f u ≤ sum_by f views
two_below f [] p q v u other e g = absurd (some-ne-none v (sym e))
two_below f (x ∷ xs) zero zero v u other e g = absurd (other refl)
two_below f (x ∷ xs) zero (suc q) v u other e g = let same : x ≡ v = cc in omega (arith, ap f same, one_below f xs q u g, sum_by-cons f x xs)
two_below f (x ∷ xs) (suc p) zero v u other e g = let same : x ≡ u = cc in omega (arith, ap f same, one_below f xs p v e, sum_by-cons f x xs)
two_below f (x ∷ xs) (suc p) (suc q) v u other e g = omega (arith, two_below f xs p q v u (λ h. other (ap suc h)) e g, sum_by-cons f x xs)

-- where all others give nothing, one gives all
pub sum_alone : {A : Type 0} (f : A → ℕ) (views : List A) (p : ℕ) (v : A) → get_elem? views p ≡ some v
    → ((q : ℕ) (u : A) → q ≢ p → get_elem? views q ≡ some u → f u ≡ 0) → sum_by f views ≡ f v
sum_alone f [] p v e none = absurd (some-ne-none v (sym e))
sum_alone f (x ∷ xs) zero v e none =
    let same : x ≡ v = cc in
    omega (arith, ap f same, sum_by-cons f x xs, nothing xs (λ q u g. none (suc q) u (λ h. let k = h in omega (arith, k)) g))
  where
    nothing : (ys : List _) → ((q : ℕ) (u : _) → get_elem? ys q ≡ some u → f u ≡ 0) → sum_by f ys ≡ 0
    nothing [] h = refl
    nothing (y ∷ ys) h = omega (arith, sum_by-cons f y ys, h 0 y refl, nothing ys (λ q u g. h (suc q) u g))
sum_alone f (x ∷ xs) (suc p) v e none =
    omega (arith, sum_by-cons f x xs, none 0 x (λ h. let k = h in omega (arith, k)) refl, sum_alone f xs p v e (λ q u other g. none (suc q) u (λ h. other (let k = h in omega (arith, k))) g))

pub all_set : {V : Type 0} (F : ℕ → V → Type 0) (views : List V) (pass : ℕ) (w : V) → F pass w → ((j : ℕ) (u : V) → j ≢ pass → get_elem? views j ≡ some u → F j u)
    → (j : ℕ) (u : V) → get_elem? (set views pass w) j ≡ some u → F j u
all_set {V} F views pass w mine others j u e = ⊎_elim (λ (x : (j ≡ pass) × (w ≡ u)). subst (λ (y : ℕ × V). F y.0 y.1) (λ i. (sym x.0 i, x.1 i)) mine)
    (λ (x : (j ≢ pass) × (get_elem? views j ≡ some u)). others j u x.0 x.1) (at_set views pass j w u e)
