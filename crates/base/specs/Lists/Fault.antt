-- Where a list leaves a language, for any set of lists.
use Rattle.std.specs.Prelude.{ℕ, ◌+◌, ◌<◌, ◌≤◌, List, ◌++◌, length, take}

-- some list of the language has this prefix
abbrev pub IsViablePrefix : {A : Type 0} → (List A → Type 0) → List A → Type 0
IsViablePrefix L xs = (more : List _) × L (xs ++ more)

-- The list is not of the language: what stands before the offset is a prefix of one of the language, and what
-- stands up to and including it is a prefix of none. At the list's end the whole list is a prefix of one, and is none.
pub record IsFirstFault {A : Type 0} (L : List A → Type 0) (xs : List A) (offset : ℕ) : Type 0 where
  pub within : offset ≤ length xs
  pub before : IsViablePrefix L (take offset xs)
  pub never : offset < length xs → IsViablePrefix L (take (offset + 1) xs) → ⊥
  pub none : L xs → ⊥
