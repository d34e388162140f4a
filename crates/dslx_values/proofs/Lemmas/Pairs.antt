-- Lists of which each pair passes a test.
use Rattle.std.proofs.Common.{◌≡◌, ◌&&◌, Bool, List, [], ◌∷◌, map, refl}
use Rattle.dslx_meaning.specs.Lists.{pairwise}

-- the test is applied to the first ones before
pub each_applied : {A B : Type 0} (test : A → B → Bool) (xs : List A) (ys : List B) → pairwise (λ (p : B → Bool) v. p v) (map test xs) ys ≡ pairwise test xs ys
each_applied test [] [] = refl
each_applied test [] (y ∷ ys) = refl
each_applied test (x ∷ xs) [] = refl
each_applied test (x ∷ xs) (y ∷ ys) = λ i. test x y && each_applied test xs ys i
