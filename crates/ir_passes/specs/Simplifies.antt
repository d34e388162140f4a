-- What the rules say of a node and what stands for it.
use Rattle.std.specs.Prelude.{◌+◌, ◌≤◌, List, length}
use Rattle.ir_tree.specs.declared.ir_type.IrType.{IrType}
use Rattle.ir_tree.specs.declared.node.Operand.{Operand}
use Rattle.ir_tree.specs.declared.node.Node.{Node}
use Rattle.ir_rebuild.specs.Normal.Normal.{AreNormal}
use Rattle.ir_passes.specs.Simplified.{IsGrown, simplify, nodes_needed}

-- what the rules make of the node was appended, and nothing else: no more nodes than its replacement takes. Behind normal nodes they
-- are normal.
pub record Simplifies (state : IrType) (old new : List Node) (n : Node) (o : Operand) : Type 0 where
  pub is : IsGrown new o (simplify state old n)
  pub normal : AreNormal state old → AreNormal state new
  pub few : length new ≤ length old + nodes_needed state old n
