-- What stands for a node once what narrowing answers is appended.
use Rattle.std.specs.Prelude.{◌≡◌, List, length}
use Rattle.delay_model.specs.declared.op.Extend.TheVariants as extend
use Rattle.ir_tree.specs.declared.ir_type.IrType.{IrType}
use Rattle.ir_tree.specs.declared.node.Operand.{Operand}
use Rattle.ir_tree.specs.declared.node.Operand.TheVariants as operand
use Rattle.ir_tree.specs.declared.node.Node.{Node}
use Rattle.pass_narrow.specs.declared.rewritten_node.RewrittenNode.{RewrittenNode}
use Rattle.pass_narrow.specs.declared.rewritten_node.RewrittenNode.TheVariants as rewritten_node
use Rattle.pass_narrow.specs.Narrowing.{Narrows}
use Rattle.pass_narrow.specs.Narrowings.{and_node, narrowing_of}
use Rattle.pass_narrow.specs.Nodes.{extension_node}
use Rattle.pass_narrow.specs.KeepsNormal.{KeepsNormal}

-- the answer was appended, if it is no operand, and the operand names it
abbrev pub IsPut : List Node → RewrittenNode → List Node → Operand → Type 0
IsPut nodes (rewritten_node.Operand p) new o = (new ≡ nodes) × (o ≡ p)
IsPut nodes (rewritten_node.Node m) new o = (new ≡ and_node nodes m) × (o ≡ operand.Node (length nodes))
IsPut nodes (rewritten_node.Extended m w) new o =
    (new ≡ and_node (and_node nodes m) (extension_node extend.Zero (operand.Node (length nodes)) w)) × (o ≡ operand.Node (length (and_node nodes m)))

-- what stands for the node, the replacement of its pattern or the node itself, was put behind what it needs. Behind normal nodes it
-- has no pattern.
pub record IsNarrowed (state : IrType) (old new : List Node) (n : Node) (o : Operand) : Type 0 where
  pub put : IsPut (narrowing_of state old n).nodes (narrowing_of state old n).answer new o
  pub narrows : Narrows state old (narrowing_of state old n).nodes n (narrowing_of state old n).answer
  pub normal : KeepsNormal state old (narrowing_of state old n).nodes n (narrowing_of state old n).answer
