-- What holds of each element of a list, with its index.
use Rattle.std.specs.Prelude.{ℕ, suc, List, [], ◌∷◌}

-- of those of a list that stands at an index
abbrev pub EachFrom : {A : Type 0} → (ℕ → A → Type 0) → ℕ → List A → Type 0
EachFrom P i [] = Unit {0}
EachFrom P i (x ∷ xs) = P i x × EachFrom P (suc i) xs
