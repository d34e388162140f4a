-- A node of which its operands don't show what it gives.
use Rattle.std.specs.Prelude.{◌≡◌, true, false, List}
use Rattle.ir_tree.specs.declared.node.Node.{Node}
use Rattle.ir_rebuild.specs.Operands.{operands_in}
use Rattle.ir_rebuild.specs.Normal.Normal.{is_cases, all_literals, chooses_one}

-- it is no select of one operand, nor one among literals
pub record IsUndecided (nodes : List Node) (n : Node) : Type 0 where
  pub chosen : chooses_one nodes n.operands n.attributes ≡ false
  pub folded : is_cases n.attributes ≡ true → all_literals nodes (operands_in n) ≡ false
