-- Lists made by a function of each element and its index.
use Rattle.std.specs.Prelude.{ℕ, suc, List, [], ◌∷◌}

-- the function of each element and its index, where the first has the index i
abbrev pub indexed : {A B : Type 0} → (ℕ → A → B) → ℕ → List A → List B
indexed f i [] = []
indexed f i (x ∷ xs) = f i x ∷ indexed f (suc i) xs
