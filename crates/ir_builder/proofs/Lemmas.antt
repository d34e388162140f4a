-- The public library: what is on top of a stack.
use Rattle.std.proofs.Common.{◌≡◌, Bool, true, List, [], ◌∷◌}
use Rattle.std.specs.List.{list_all}
use Rattle.std.proofs.lemmas.Bool.{and_parts}
use Rattle.base.specs.Stacks.Tops.{top_or}

-- what is so of each thing on a stack, and of the one in its place where it is empty, is so of its top
pub top_has : {T : Type 0} (p : T → Bool) (other : T) (xs : List T) → p other ≡ true → list_all p xs ≡ true → p (top_or other xs) ≡ true
top_has p other [] h k = h
top_has p other (x ∷ xs) h k = (and_parts (p x) (list_all p xs) k).0
