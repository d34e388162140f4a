-- Fronts of lists.
use Rattle.std.proofs.Common.{◌≡◌, ◌≤◌, ℕ, zero, suc, List, [], ◌∷◌, ◌++◌, length, take, refl, ◌∙◌, arith}
use Rattle.base.specs.Lists.Prefix.{IsPrefix}

pub IsPrefix-refl : {A : Type 0} (xs : List A) → IsPrefix xs xs
IsPrefix-refl [] = tt
IsPrefix-refl (x ∷ xs) = (refl, IsPrefix-refl xs)

pub IsPrefix-trans : {A : Type 0} (xs ys zs : List A) → IsPrefix xs ys → IsPrefix ys zs → IsPrefix xs zs
IsPrefix-trans [] ys zs f g = tt
IsPrefix-trans (x ∷ xs) [] zs f g = absurd f
IsPrefix-trans (x ∷ xs) (y ∷ ys) [] f g = absurd g
IsPrefix-trans (x ∷ xs) (y ∷ ys) (z ∷ zs) f g = (f.0 ∙ g.0, IsPrefix-trans xs ys zs f.1 g.1)

pub IsPrefix-antisym : {A : Type 0} (xs ys : List A) → IsPrefix xs ys → IsPrefix ys xs → xs ≡ ys
IsPrefix-antisym [] [] f g = refl
IsPrefix-antisym [] (y ∷ ys) f g = absurd g
IsPrefix-antisym (x ∷ xs) [] f g = absurd f
IsPrefix-antisym (x ∷ xs) (y ∷ ys) f g = let e = f.0 in let r = IsPrefix-antisym xs ys f.1 g.1 in cc

pub IsPrefix-length : {A : Type 0} (xs ys : List A) → IsPrefix xs ys → length xs ≤ length ys
IsPrefix-length [] ys f = omega arith
IsPrefix-length (x ∷ xs) [] f = absurd f
IsPrefix-length (x ∷ xs) (y ∷ ys) f = omega (arith, IsPrefix-length xs ys f.1)

-- a front that is as long is the whole
pub IsPrefix-same : {A : Type 0} (xs ys : List A) → IsPrefix xs ys → length ys ≤ length xs → xs ≡ ys
IsPrefix-same [] [] f h = refl
IsPrefix-same [] (y ∷ ys) f h = absurd (omega (arith, h))
IsPrefix-same (x ∷ xs) [] f h = absurd f
IsPrefix-same (x ∷ xs) (y ∷ ys) f h = let e = f.0 in let r = IsPrefix-same xs ys f.1 (omega (arith, h)) in cc

pub IsPrefix-append : {A : Type 0} (xs ys : List A) → IsPrefix xs (xs ++ ys)
IsPrefix-append [] ys = tt
IsPrefix-append (x ∷ xs) ys = (refl, IsPrefix-append xs ys)

pub IsPrefix-append_both : {A : Type 0} (xs ys zs : List A) → IsPrefix ys zs → IsPrefix (xs ++ ys) (xs ++ zs)
IsPrefix-append_both [] ys zs f = f
IsPrefix-append_both (x ∷ xs) ys zs f = (refl, IsPrefix-append_both xs ys zs f)

-- the rest behind a front
pub rest_of : {A : Type 0} (xs ys : List A) → IsPrefix xs ys → (zs : List A) × (ys ≡ xs ++ zs)
rest_of [] ys f = (ys, refl)
rest_of (x ∷ xs) [] f = absurd f
rest_of (x ∷ xs) (y ∷ ys) f = let r = rest_of xs ys f.1 in (r.0, (let e = r.1 in let h = f.0 in cc))

pub IsPrefix-take : {A : Type 0} (n : ℕ) (xs : List A) → IsPrefix (take n xs) xs
IsPrefix-take zero xs = tt
IsPrefix-take (suc n) [] = tt
IsPrefix-take (suc n) (x ∷ xs) = (refl, IsPrefix-take n xs)

-- a front is what its length takes
pub take-front : {A : Type 0} (xs ys : List A) → IsPrefix xs ys → take (length xs) ys ≡ xs
take-front [] ys f = refl
take-front (x ∷ xs) [] f = absurd f
take-front (x ∷ xs) (y ∷ ys) f = let e = f.0 in let r = take-front xs ys f.1 in cc
