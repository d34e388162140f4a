-- Lists, and what stands in them.
use Rattle.std.proofs.Common.{◌≡◌, ◌<◌, ℕ, zero, suc, List, ◌∷◌, ◌++◌, map, length, get_or, Option, Some, refl, sym, ap, ap₂, subst, ◌∙◌, []}
use Rattle.std.specs.Prelude.{slice_get, option_map}
use Rattle.std.proofs.lemmas.Option.{slice_get-get_or}

pub some_same : {A : Type 0} (x y : A) → Some x ≡ Some y → x ≡ y
some_same x y h = cc

-- what a list of results has at an index comes of what stands there
pub record ComesOf {A B : Type 0} (f : A → B) (xs : List A) (k : ℕ) (y : B) : Type 0 where
  pub from : A
  pub there : slice_get xs k ≡ Some from
  pub is : f from ≡ y

pub comes_of : {A B : Type 0} (f : A → B) (xs : List A) (k : ℕ) (y : B) → slice_get (map f xs) k ≡ Some y → ComesOf f xs k y
comes_of f [] k y h = absurd (cc)
comes_of f (x ∷ xs) zero y h = record { from = x; there = refl; is = some_same (f x) y h }
comes_of f (x ∷ xs) (suc k) y h = let found = comes_of f xs k y h in record { from = found.from; there = found.there; is = found.is }

pub at_map : {A B : Type 0} (f : A → B) (xs : List A) (k : ℕ) → slice_get (map f xs) k ≡ option_map f (slice_get xs k)
at_map f [] k = refl
at_map f (x ∷ xs) zero = refl
at_map f (x ∷ xs) (suc k) = at_map f xs k

pub mapped_there : {A B : Type 0} (f : A → B) (xs : List A) (k : ℕ) (x : A) → slice_get xs k ≡ Some x → slice_get (map f xs) k ≡ Some (f x)
mapped_there f xs k x h = at_map f xs k ∙ ap (option_map f) h

-- results that are all there are there at each index
pub each_there : {B : Type 0} (f : ℕ → Option B) (xs : List ℕ) (ys : List B) (k : ℕ) (y : B) → map f xs ≡ map Some ys → slice_get ys k ≡ Some y → f (get_or xs k 0) ≡ Some y
each_there f [] [] k y are h = absurd (cc)
each_there f [] (z ∷ ys) k y are h = absurd (cc)
each_there f (x ∷ xs) [] k y are h = absurd (cc)
each_there f (x ∷ xs) (z ∷ ys) zero y are h = let first : f x ≡ Some z = cc in first ∙ h
each_there f (x ∷ xs) (z ∷ ys) (suc k) y are h = let others : map f xs ≡ map Some ys = cc in each_there f xs ys k y others h

-- what holds of each holds of each where one more is behind them of which it holds
pub each_more : {A : Type 0} (P : ℕ → A → Type 0) (xs : List A) (x : A) → ((k : ℕ) (y : A) → slice_get xs k ≡ Some y → P k y) → P (length xs) x → (k : ℕ) (y : A) → slice_get (xs ++ x ∷ []) k ≡ Some y → P k y
each_more P [] x each here zero y h = subst (P 0) (some_same x y h) here
each_more P [] x each here (suc k) y h = absurd (cc)
each_more P (z ∷ xs) x each here zero y h = each zero y h
each_more P (z ∷ xs) x each here (suc k) y h = each_more (λ j. P (suc j)) xs x (λ j w e. each (suc j) w e) here k y h

-- one more, and its result
pub results_more : {A B : Type 0} (f : A → Option B) (xs all : List A) (x : A) (ys : List B) (y : B) → all ≡ xs ++ x ∷ [] → map f xs ≡ map Some ys → f x ≡ Some y → map f all ≡ map Some (ys ++ y ∷ [])
results_more {A} {B} f xs all x ys y is are h = ap (map f) is ∙ (behind xs ∙ (ap₂ (λ os o. os ++ o ∷ []) are h ∙ sym (some_behind ys)))
  where
    behind : (zs : List A) → map f (zs ++ x ∷ []) ≡ map f zs ++ f x ∷ []
    behind [] = refl
    behind (z ∷ zs) = ap (λ os. f z ∷ os) (behind zs)

    some_behind : (zs : List B) → map Some (zs ++ y ∷ []) ≡ map Some zs ++ Some y ∷ []
    some_behind [] = refl
    some_behind (z ∷ zs) = ap (λ os. Some z ∷ os) (some_behind zs)

-- what is read at an index that is there
pub at_index : {A : Type 0} (xs : List A) (i : ℕ) (x : A) → i < length xs → x ≡ get_or xs i x → slice_get xs i ≡ Some x
at_index xs i x h e = slice_get-get_or xs i x h ∙ ap Some (sym e)
