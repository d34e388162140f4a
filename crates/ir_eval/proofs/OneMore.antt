-- A list, one more element taken.
use Rattle.std.proofs.Common.{◌≡◌, ◌+◌, ℕ, zero, suc, List, [], ◌∷◌, ◌++◌, length, map, take, Some, refl, ap, ◌∙◌, arith}
use Rattle.std.specs.Prelude.{slice_get}

pub take_one_more : {A : Type 0} (xs : List A) (n : ℕ) (x : A) → slice_get xs n ≡ Some x → take (n + 1) xs ≡ take n xs ++ x ∷ []
take_one_more [] n x e = absurd (cc)
take_one_more {A} (y ∷ ys) zero x e = let same : y ≡ x = cc in ap (λ (z : A). z ∷ []) same
take_one_more {A} (y ∷ ys) (suc n) x e =
    let more = take_one_more ys n x e in
    let at : suc n + 1 ≡ suc (n + 1) = omega arith in
    ap (λ (k : ℕ). take k (y ∷ ys)) at ∙ ap (λ (zs : List A). y ∷ zs) more

pub take_all : {A : Type 0} (xs : List A) (n : ℕ) → length xs ≡ n → take n xs ≡ xs
take_all [] zero e = refl
take_all [] (suc n) e = absurd (cc)
take_all (x ∷ xs) zero e = absurd (cc)
take_all {A} (x ∷ xs) (suc n) e = ap (λ (zs : List A). x ∷ zs) (take_all xs n (omega (arith, e)))

pub map_one_more : {A : Type 0} {B : Type 0} (f : A → B) (xs : List A) (x : A) → map f (xs ++ x ∷ []) ≡ map f xs ++ f x ∷ []
map_one_more f [] x = refl
map_one_more {A} {B} f (y ∷ ys) x = ap (λ (zs : List B). f y ∷ zs) (map_one_more f ys x)
