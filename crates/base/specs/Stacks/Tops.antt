-- The top of a stack.
use Rattle.std.specs.Prelude.{List, [], ◌∷◌}

-- the top, or another one where the stack is empty
abbrev pub top_or : {T : Type 0} → T → List T → T
top_or other [] = other
top_or other (x ∷ xs) = x
