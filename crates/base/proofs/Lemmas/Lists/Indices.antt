-- Elements of lists by their places.
use Rattle.std.proofs.Common.{◌≡◌, ◌≢◌, ℕ, zero, suc, ◌+◌, ◌<◌, List, [], ◌∷◌, ◌++◌, length, get_or, refl, ap, ◌∙◌, Some, arith}
use Rattle.std.specs.Prelude.{slice_get, slice_set}
use Rattle.std.proofs.lemmas.Option.{get_or_from_slice_get}

-- what was read at a place is what stands there
pub read_is : {A : Type 0} (xs : List A) (i : ℕ) (x y : A) → slice_get xs i ≡ Some y → x ≡ get_or xs i x → x ≡ y
read_is xs i x y e r = r ∙ get_or_from_slice_get xs i y x e

pub slice_get-set : {A : Type 0} (xs : List A) (i : ℕ) (x y : A) → slice_get xs i ≡ Some x → slice_get (slice_set xs i y) i ≡ Some y
slice_get-set [] i x y e = cc
slice_get-set (z ∷ zs) zero x y e = refl
slice_get-set (z ∷ zs) (suc i) x y e = slice_get-set zs i x y e

pub slice_get-set_other : {A : Type 0} (xs : List A) (i j : ℕ) (y : A) → j ≢ i → slice_get (slice_set xs i y) j ≡ slice_get xs j
slice_get-set_other [] i j y h = refl
slice_get-set_other (z ∷ zs) zero zero y h = absurd (h refl)
slice_get-set_other (z ∷ zs) zero (suc j) y h = refl
slice_get-set_other (z ∷ zs) (suc i) zero y h = refl
slice_get-set_other (z ∷ zs) (suc i) (suc j) y h = slice_get-set_other zs i j y (λ e. h (ap suc e))

pub slice_get-append_left : {A : Type 0} (xs ys : List A) (i : ℕ) → i < length xs → slice_get (xs ++ ys) i ≡ slice_get xs i
slice_get-append_left [] ys i h = absurd (omega arith)
slice_get-append_left (x ∷ xs) ys zero h = refl
slice_get-append_left (x ∷ xs) ys (suc i) h = slice_get-append_left xs ys i (omega arith)

pub slice_get-append_right : {A : Type 0} (xs ys : List A) (i j : ℕ) → i ≡ length xs + j → slice_get (xs ++ ys) i ≡ slice_get ys j
slice_get-append_right [] ys i j e = let h : i ≡ j = omega arith in ap (slice_get ys) h
slice_get-append_right (x ∷ xs) ys zero j e = absurd (omega arith)
slice_get-append_right (x ∷ xs) ys (suc i) j e = slice_get-append_right xs ys i j (omega arith)

-- lists with the same element at each place
pub same_by_get : {A : Type 0} (xs ys : List A) → ((k : ℕ) → slice_get xs k ≡ slice_get ys k) → xs ≡ ys
same_by_get [] [] h = refl
same_by_get [] (y ∷ ys) h = let e = h 0 in cc
same_by_get (x ∷ xs) [] h = let e = h 0 in cc
same_by_get (x ∷ xs) (y ∷ ys) h =
    let first : x ≡ y = let e = h 0 in cc in
    let rest = same_by_get xs ys (λ k. h (suc k)) in
    cc
