-- A function of each element and its place.
use Rattle.std.proofs.Common.{◌≡◌, ℕ, zero, suc, ◌+◌, ◌<◌, List, [], ◌∷◌, ◌++◌, length, take, get_or, refl, sym, ap, ◌∙◌, arith, Some}
use Rattle.std.specs.Prelude.{slice_get, option_map}
use Rattle.std.proofs.lemmas.List.{take_more, length-take-le}
use Rattle.base.specs.Lists.Indexed.{indexed}

pub indexed_push : {A B : Type 0} (f : ℕ → A → B) (i j : ℕ) (xs : List A) (x : A) → j ≡ i + length xs → indexed f i (xs ++ x ∷ []) ≡ indexed f i xs ++ f j x ∷ []
indexed_push f i j [] x e = let h : i ≡ j = omega arith in ap (λ k. f k x ∷ []) h
indexed_push f i j (y ∷ ys) x e = ap (λ zs. f i y ∷ zs) (indexed_push f (suc i) j ys x (omega (arith, e)))

-- one element more
pub indexed_more : {A B : Type 0} (f : ℕ → A → B) (xs : List A) (k : ℕ) (x : A) → k < length xs → x ≡ get_or xs k x
    → indexed f 0 (take (k + 1) xs) ≡ indexed f 0 (take k xs) ++ f k x ∷ []
indexed_more f xs k x l e =
    let n : k ≡ 0 + length (take k xs) = omega (arith, length-take-le k xs (omega arith)) in
    ap (λ ys. indexed f 0 ys) (take_more xs k x l)
    ∙ (ap (λ y. indexed f 0 (take k xs ++ y ∷ [])) (sym e) ∙ indexed_push f 0 k (take k xs) x n)

pub indexed_get : {A B : Type 0} (f : ℕ → A → B) (i j k : ℕ) (xs : List A) → j ≡ i + k → slice_get (indexed f i xs) k ≡ option_map (f j) (slice_get xs k)
indexed_get f i j k [] e = refl
indexed_get f i j zero (x ∷ xs) e = let h : i ≡ j = omega arith in ap (λ m. Some (f m x)) h
indexed_get f i j (suc k) (x ∷ xs) e = indexed_get f (suc i) j k xs (omega (arith, e))

pub length-indexed : {A B : Type 0} (f : ℕ → A → B) (i : ℕ) (xs : List A) → length (indexed f i xs) ≡ length xs
length-indexed f i [] = refl
length-indexed f i (x ∷ xs) = ap suc (length-indexed f (suc i) xs)
