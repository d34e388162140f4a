-- Lists whose elements have names.
use Rattle.std.proofs.Common.{◌≡◌, ◌++◌, ◌<◌, ◌≤◌, ◌+◌, ℕ, List, [], ◌∷◌, length, take, get_or, refl, sym, ap, ◌∙◌}
use Rattle.std.proofs.lemmas.List.{take_more}
use Rattle.std.proofs.lemmas.List as lists

pub take_all : {A : Type 0} (xs : List A) (n : ℕ) → length xs ≤ n → take n xs ≡ xs
take_all xs n h = lists.take_all n xs h

pub take_next : {A : Type 0} (xs : List A) (n : ℕ) (x : A) → n < length xs → x ≡ get_or xs n x → take (n + 1) xs ≡ take n xs ++ x ∷ []
take_next xs n x h e = take_more xs n x h ∙ ap (λ y. take n xs ++ y ∷ []) (sym e)

-- the names of these behind those before them, the last one first
abbrev pub names_behind : {A : Type 0} → (A → List ℕ) → List (List ℕ) → List A → List (List ℕ)
names_behind name before [] = before
names_behind name before (x ∷ xs) = names_behind name (name x ∷ before) xs

pub names_next : {A : Type 0} (name : A → List ℕ) (before : List (List ℕ)) (xs : List A) (x : A) → names_behind name before (xs ++ x ∷ []) ≡ name x ∷ names_behind name before xs
names_next name before [] x = refl
names_next name before (y ∷ xs) x = names_next name (name y ∷ before) xs x
