-- What names stand for: the index of the last thing before that is spelled so.
use Rattle.std.specs.Prelude.{ℕ, ◌^◌, ◌-◌, min, List, [], ◌∷◌, length, Option, Some, None, if◌then◌else◌, bytes_eq}

-- the index of the last of these names that is spelled so; the list has the last one first
abbrev pub index_in : List (List ℕ) → List ℕ → Option ℕ
index_in [] name = None
index_in (n ∷ ns) name = if bytes_eq name n then Some (length ns) else index_in ns name

-- an index as a number of 32 bits: 2^32 - 1 where there is none, and for one past that, as no text has
abbrev pub numbered : Option ℕ → ℕ
numbered None = 2 ^ 32 - 1
numbered (Some i) = min i (2 ^ 32 - 1)
