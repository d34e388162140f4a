-- The case of a number.
use Rattle.std.proofs.Common.{◌≡◌, ℕ, zero, suc, ◌<◌, ◌≤◌, List, [], ◌∷◌, length, get_or, Option, Some, refl, arith}
use Rattle.ir_tree.specs.declared.node.Operand.{Operand}
use Rattle.ir_tree.specs.Operations.{chosen}

pub chosen-below : (cs : List Operand) (d : Option Operand) (n : ℕ) (c : Operand) → n < length cs → chosen cs d n ≡ Some (get_or cs n c)
chosen-below [] d n c h = absurd (omega arith)
chosen-below (x ∷ xs) d zero c h = refl
chosen-below (x ∷ xs) d (suc n) c h = chosen-below xs d n c (omega arith)

pub chosen-past : (cs : List Operand) (d : Option Operand) (n : ℕ) → length cs ≤ n → chosen cs d n ≡ d
chosen-past [] d n h = refl
chosen-past (x ∷ xs) d zero h = absurd (omega arith)
chosen-past (x ∷ xs) d (suc n) h = chosen-past xs d n (omega arith)

pub ruleset chosen_cases = (chosen-below, chosen-past)
