-- What names stand for, where each is the only one of its spelling.
use Rattle.std.proofs.Common.{◌≡◌, ◌<◌, ℕ, zero, suc, ◌+◌, true, false, ⊎_elim, inl, inr, List, [], ◌∷◌, ◌++◌, map, length, bytes_eq, Some, refl, sym, ap, subst, ◌∙◌, arith}
use Rattle.std.specs.Prelude.{◌⊎◌, slice_get}
use Rattle.std.proofs.lemmas.Bool.{cond-false, cond-true, false_from_ne_true}
use Rattle.std.proofs.lemmas.Slice.Eq.{bytes_eq-Decides}
use Rattle.ir_builder.specs.Named.{index_in}
use Rattle.ir_text.proofs.OnRoundTrip.Lists.{onto}

same_bytes : (x : List ℕ) → bytes_eq x x ≡ true
same_bytes x = (bytes_eq-Decides x x).1 refl

other_bytes : (x y : List ℕ) → (x ≡ y → ⊥) → bytes_eq x y ≡ false
other_bytes x y h = false_from_ne_true (bytes_eq x y) (λ e. h ((bytes_eq-Decides x y).0 e))

-- a name that isn't among these is looked for behind them
absent : (xs ms : List (List ℕ)) (x : List ℕ) → ((j : ℕ) → slice_get xs j ≡ Some x → ⊥) → index_in (onto xs ms) x ≡ index_in ms x
absent [] ms x none = refl
absent (y ∷ ys) ms x none =
    absent ys (y ∷ ms) x (λ j. none (suc j))
    ∙ cond-false (bytes_eq x y) (Some (length ms)) (index_in ms x) (other_bytes x y (λ e. none 0 (ap Some (sym e))))

-- a name that doesn't come again stands for its place
pub spanned : (xs ms : List (List ℕ)) (i : ℕ) (x : List ℕ) → slice_get xs i ≡ Some x → ((j : ℕ) → i < j → slice_get xs j ≡ Some x → ⊥) → index_in (onto xs ms) x ≡ Some (length ms + i)
spanned [] ms i x e only = absurd (cc)
spanned (y ∷ ys) ms zero x e only =
    let same : y ≡ x = cc in
    absent ys (y ∷ ms) x (λ j. only (suc j) (omega arith))
    ∙ subst (λ z. index_in (z ∷ ms) x ≡ Some (length ms + 0)) (sym same)
    (cond-true (bytes_eq x x) (Some (length ms)) (index_in ms x) (same_bytes x) ∙ ap Some (omega arith))
spanned (y ∷ ys) ms (suc i) x e only =
    spanned ys (y ∷ ms) i x e (λ j less. only (suc j) (omega arith)) ∙ ap Some (omega arith)

-- ---- lists by their places

pub map_at : {A B : Type 0} (f : A → B) (xs : List A) (i : ℕ) (x : A) → slice_get xs i ≡ Some x → slice_get (map f xs) i ≡ Some (f x)
map_at f [] i x e = absurd (cc)
map_at f (y ∷ ys) zero x e = let same : y ≡ x = cc in ap (λ z. Some (f z)) same
map_at f (y ∷ ys) (suc i) x e = map_at f ys i x e

pub map_from : {A B : Type 0} (f : A → B) (xs : List A) (i : ℕ) (y : B) → slice_get (map f xs) i ≡ Some y → (x : A) × (slice_get xs i ≡ Some x) × (f x ≡ y)
map_from f [] i y e = absurd (cc)
map_from f (x ∷ xs) zero y e = (x, refl, cc)
map_from f (x ∷ xs) (suc i) y e = map_from f xs i y e

pub there_below : {A : Type 0} (xs : List A) (i : ℕ) → i < length xs → (x : A) × (slice_get xs i ≡ Some x)
there_below [] i h = absurd (omega arith)
there_below (x ∷ xs) zero h = (x, refl)
there_below (x ∷ xs) (suc i) h = there_below xs i (omega arith)

pub below_there : {A : Type 0} (xs : List A) (i : ℕ) (x : A) → slice_get xs i ≡ Some x → i < length xs
below_there [] i x e = absurd (cc)
below_there (y ∷ ys) zero x e = omega arith
below_there (y ∷ ys) (suc i) x e = let less = below_there ys i x e in omega (arith, less)

-- an element of a list with one more is one of the list, or that one
pub last_or : {A : Type 0} (xs : List A) (y : A) (i : ℕ) (x : A) → slice_get (xs ++ y ∷ []) i ≡ Some x → (slice_get xs i ≡ Some x) ⊎ ((i ≡ length xs) × (y ≡ x))
last_or [] y zero x e = inr (refl, cc)
last_or [] y (suc i) x e = absurd (cc)
last_or (z ∷ zs) y zero x e = inl e
last_or (z ∷ zs) y (suc i) x e = ⊎_elim (λ here. inl here) (λ there. inr (ap suc there.0, there.1)) (last_or zs y i x e)

pub last_there : {A : Type 0} (xs : List A) (y : A) → slice_get (xs ++ y ∷ []) (length xs) ≡ Some y
last_there [] y = refl
last_there (x ∷ xs) y = last_there xs y

pub length_more : {A : Type 0} (xs : List A) (y : A) → length (xs ++ y ∷ []) ≡ suc (length xs)
length_more [] y = refl
length_more (x ∷ xs) y = ap suc (length_more xs y)

pub onto_more : {A : Type 0} (xs ys : List A) (x : A) → onto (xs ++ x ∷ []) ys ≡ x ∷ onto xs ys
onto_more [] ys x = refl
onto_more (z ∷ zs) ys x = onto_more zs (z ∷ ys) x
