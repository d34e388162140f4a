-- Trees of a chain of operands with binary operators between them, in which each operator stands where its level says.
use Rattle.std.specs.Prelude.{◌+◌, List, [], ◌∷◌, ◌++◌}
use Rattle.dslx_tree.specs.Levels.{level_of}
use Rattle.dslx_tree.specs.declared.operators.chain.Link.{Link}
use Rattle.dslx_tree.specs.declared.operators.chain.Operand.{Operand}
use Rattle.dslx_tree.specs.Operators.Levels.{AreBelow, joined}

-- The tree is that of an operand alone, or of one of the operators with the trees of what stands before it and behind it.
-- No operator on its left is looser than it, and each on its right is tighter. So none stands below a tighter one, and
-- those of one level take their operands from the left. What stands in brackets is an operand, whatever its operators.
pub data IsOrderedTree : Operand → List Link → Operand → Type 0 where
  alone : (operand : Operand) → IsOrderedTree operand [] operand
  split : (first : Operand) (before after : List Link) (link : Link) (left right : Operand) → AreBelow (level_of link.operator + 1) before → AreBelow (level_of link.operator) after → IsOrderedTree first before left → IsOrderedTree link.operand after right → IsOrderedTree first (before ++ link ∷ after) (joined link.operator left right)
