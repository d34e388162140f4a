-- What stands for a node that is kept.
use Rattle.std.specs.Prelude.{◌≡◌, length, ◌++◌, true, false, List, [], ◌∷◌}
use Rattle.ir_tree.specs.declared.ir_type.IrType.{IrType}
use Rattle.ir_tree.specs.declared.node.Operand.{Operand}
use Rattle.ir_tree.specs.declared.node.Operand.TheVariants as operand
use Rattle.ir_tree.specs.declared.node.Node.{Node}
use Rattle.ir_rebuild.specs.Built.{numbered, Rewrites}
use Rattle.ir_rebuild.specs.Fixed.{is_fixed}

-- a fixed node was appended, any other one was rewritten
pub record SimulatesInRebuild (state : IrType) (old new : List Node) (n : Node) (o : Operand) : Type 0 where
  pub appends : is_fixed old n ≡ true → (new ≡ old ++ numbered (length old) n ∷ []) × (o ≡ operand.Node (length old))
  pub rewrites : is_fixed old n ≡ false → Rewrites state old new n o
