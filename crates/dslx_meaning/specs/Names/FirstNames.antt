-- Names that were bound first.
use Rattle.std.specs.Prelude.{◌-◌, ℕ, List, length}
use Rattle.std.proofs.Common.{drop}

-- so many names, the first ones, where the last one stands first
abbrev pub first_names : ℕ → List (List ℕ) → List (List ℕ)
first_names n names = drop (length names - n) names
