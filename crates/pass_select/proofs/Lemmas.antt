-- What a select always chooses stands for it.
use Rattle.std.proofs.Common.{◌≡◌, List, length, Some}
use Rattle.ir_tree.specs.declared.ir_type.IrType.{IrType}
use Rattle.ir_tree.specs.declared.node.Operand.{Operand}
use Rattle.ir_tree.specs.declared.node.Node.{Node}
use Rattle.ir_rebuild.specs.Built.{FitsAt, AreBuilt, Rewrites}
use Rattle.pass_select.specs.Choices.{choice_of}
use Rattle.pass_select.proofs.Chosen as chosen

pub choice_rewrites : (state : IrType) (nodes : List Node) (n : Node) (o : Operand) → AreBuilt state nodes → FitsAt state nodes (length nodes) n → choice_of nodes n ≡ Some o → Rewrites state nodes nodes n o
choice_rewrites = chosen.choice_rewrites
