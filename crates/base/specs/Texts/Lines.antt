-- The lines of a text.
use Rattle.std.specs.Prelude.{◌==◌, ◌+◌, ℕ, List, [], ◌∷◌, length, if◌then◌else◌}

-- a byte before the lines of a text
abbrev pub before_lines : ℕ → List (List ℕ) → List (List ℕ)
before_lines c [] = (c ∷ []) ∷ []
before_lines c (line ∷ lines) = (c ∷ line) ∷ lines

-- the lines of a text, without their ends: each ends with LF, the last one perhaps not
abbrev pub lines_of : List ℕ → List (List ℕ)
lines_of [] = []
lines_of (c ∷ cs) = if c == 10 then ([] ∷ lines_of cs) else before_lines c (lines_of cs)

-- lines with the positions of their first bytes, where the first line's is `at`
abbrev pub positioned : ℕ → List (List ℕ) → List (ℕ × List ℕ)
positioned at [] = []
positioned at (line ∷ lines) = (at, line) ∷ positioned (at + length line + 1) lines
