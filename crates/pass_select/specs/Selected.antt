-- What stands for a node: what it always chooses, or the node itself.
use Rattle.std.specs.Prelude.{◌≡◌, ◌⊎◌, List, [], ◌∷◌, ◌++◌, length, Some, None}
use Rattle.ir_tree.specs.declared.ir_type.IrType.{IrType}
use Rattle.ir_tree.specs.declared.node.Operand.{Operand}
use Rattle.ir_tree.specs.declared.node.Operand.TheVariants as operand
use Rattle.ir_tree.specs.declared.node.Node.{Node}
use Rattle.ir_rebuild.specs.Built.{numbered}
use Rattle.pass_select.specs.Choices.{choice_of}

-- it always chooses this operand, and nothing was appended; or it chooses none always, was appended, and stands for itself
abbrev pub IsSelected : IrType → List Node → List Node → Node → Operand → Type 0
IsSelected state old new n o =
    ((choice_of old n ≡ Some o) × (new ≡ old))
    ⊎ ((choice_of old n ≡ None) × (new ≡ old ++ numbered (length old) n ∷ []) × (o ≡ operand.Node (length old)))
