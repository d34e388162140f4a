-- A node stays as it is.
use Rattle.std.specs.Prelude.{◌≡◌, List, [], ◌∷◌, ◌++◌, length}
use Rattle.ir_tree.specs.declared.ir_type.IrType.{IrType}
use Rattle.ir_tree.specs.declared.node.Operand.{Operand}
use Rattle.ir_tree.specs.declared.node.Operand.TheVariants as operand
use Rattle.ir_tree.specs.declared.node.Node.{Node}
use Rattle.ir_rebuild.specs.Built.{numbered}

-- it was appended, and stands for itself
abbrev pub Stays : IrType → List Node → List Node → Node → Operand → Type 0
Stays state old new n o = (new ≡ old ++ numbered (length old) n ∷ []) × (o ≡ operand.Node (length old))
