-- Tests of all elements of a list, and of some, one after another.
use Rattle.std.proofs.Common.{◌≡◌, ◌∙◌, ◌<◌, ◌≤◌, ◌+◌, ◌++◌, ℕ, zero, suc, Bool, true, false, List, [], ◌∷◌, map, length, drop, get_or, refl, sym, ap, subst, arith}
use mathlib.Core.Bool.{true≢false}
use Rattle.std.specs.Prelude.{◌&&◌, ◌||◌}
use Rattle.std.specs.List.{AllByRecursion, list_all, list_any}

-- the rest from a place on begins with what stands there
pub rest_at : {A : Type 0} (xs : List A) (i : ℕ) (x : A) → i < length xs → x ≡ get_or xs i x → drop i xs ≡ x ∷ drop (i + 1) xs
rest_at xs i x h e = let on : suc i ≡ i + 1 = omega arith in by xs i h e ∙ ap (λ k. x ∷ drop k xs) on
  where
    by : {A : Type 0} {x : A} (xs : List A) (i : ℕ) → i < length xs → x ≡ get_or xs i x → drop i xs ≡ x ∷ drop (suc i) xs
    by [] i h e = absurd (omega arith)
    by (y ∷ xs) zero h e = λ i. sym e i ∷ xs
    by (y ∷ xs) (suc i) h e = by xs i (omega arith) e

pub no_rest : {A : Type 0} (xs : List A) (i : ℕ) → length xs ≤ i → drop i xs ≡ []
no_rest [] zero h = refl
no_rest [] (suc i) h = refl
no_rest (x ∷ xs) zero h = absurd (omega arith)
no_rest (x ∷ xs) (suc i) h = no_rest xs i (omega arith)

pub each_at : {A : Type 0} (P : A → Type 0) (xs : List A) (i : ℕ) (x : A) → AllByRecursion P xs → i < length xs → x ≡ get_or xs i x → P x
each_at P [] i x all h e = absurd (omega arith)
each_at P (y ∷ xs) zero x all h e = subst P (sym e) all.0
each_at P (y ∷ xs) (suc i) x all h e = each_at P xs i x all.1 (omega arith) e

-- ---- some and all

pub any_next : {A : Type 0} (g : A → Bool) (xs : List A) (i : ℕ) (x : A) → i < length xs → x ≡ get_or xs i x → list_any g (drop i xs) ≡ (g x || list_any g (drop (i + 1) xs))
any_next g xs i x h e = ap (list_any g) (rest_at xs i x h e)

pub all_next : {A : Type 0} (g : A → Bool) (xs : List A) (i : ℕ) (x : A) → i < length xs → x ≡ get_or xs i x → list_all g (drop i xs) ≡ (g x && list_all g (drop (i + 1) xs))
all_next g xs i x h e = ap (list_all g) (rest_at xs i x h e)

pub any_end : {A : Type 0} (g : A → Bool) (xs : List A) (i : ℕ) → length xs ≤ i → list_any g (drop i xs) ≡ false
any_end g xs i h = ap (list_any g) (no_rest xs i h)

pub all_end : {A : Type 0} (g : A → Bool) (xs : List A) (i : ℕ) → length xs ≤ i → list_all g (drop i xs) ≡ true
all_end g xs i h = ap (list_all g) (no_rest xs i h)

or_true : (a : Bool) → (a || true) ≡ true
or_true true = refl
or_true false = refl

-- one that passes
pub any_at : {A : Type 0} (g : A → Bool) (xs : List A) (i : ℕ) (x : A) → i < length xs → x ≡ get_or xs i x → g x ≡ true → list_any g xs ≡ true
any_at g [] i x h e t = absurd (omega arith)
any_at g (y ∷ xs) zero x h e t = ap (λ z. g z || list_any g xs) (sym e) ∙ ap (λ b. b || list_any g xs) t
any_at g (y ∷ xs) (suc i) x h e t = ap (λ b. g y || b) (any_at g xs i x (omega arith) e t) ∙ or_true (g y)

pub any_map : {A B : Type 0} (f : B → Bool) (g : A → B) (xs : List A) → list_any f (map g xs) ≡ list_any (λ x. f (g x)) xs
any_map f g [] = refl
any_map f g (x ∷ xs) = ap (λ b. f (g x) || b) (any_map f g xs)

pub any_alike : {A : Type 0} (f g : A → Bool) (xs : List A) → ((x : A) → f x ≡ g x) → list_any f xs ≡ list_any g xs
any_alike f g [] h = refl
any_alike f g (x ∷ xs) h = λ i. h x i || any_alike f g xs h i

pub all_alike : {A : Type 0} (f g : A → Bool) (xs : List A) → ((x : A) → f x ≡ g x) → list_all f xs ≡ list_all g xs
all_alike f g [] h = refl
all_alike f g (x ∷ xs) h = λ i. h x i && all_alike f g xs h i

pub both_true : (a b : Bool) → (a && b) ≡ true → (a ≡ true) × (b ≡ true)
both_true true b e = (refl, e)
both_true false b e = absurd (true≢false (sym e))

-- two lists that are nothing together
pub nothing_both : {A : Type 0} (xs ys : List A) → xs ++ ys ≡ [] → (xs ≡ []) × (ys ≡ [])
nothing_both [] ys e = (refl, e)
nothing_both (x ∷ xs) ys e = absurd (true≢false (ap some e))
  where
    some : {A : Type 0} → List A → Bool
    some [] = false
    some (x ∷ xs) = true
