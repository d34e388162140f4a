-- The nodes on replacements, before they get their ids.
use Rattle.std.specs.Prelude.{ℕ, List, [], ◌∷◌}
use Rattle.delay_model.specs.declared.op.Op.{Op}
use Rattle.delay_model.specs.declared.op.Op.TheVariants as op
use Rattle.delay_model.specs.declared.op.Binary.{Binary}
use Rattle.delay_model.specs.declared.op.Compare.{Compare}
use Rattle.delay_model.specs.declared.op.Extend.{Extend}
use Rattle.ir_tree.specs.declared.ir_type.IrType.{Bits}
use Rattle.ir_tree.specs.declared.constant.Constant.{Number}
use Rattle.ir_tree.specs.declared.node.Operand.{Operand}
use Rattle.ir_tree.specs.declared.node.Node.{Node}
use Rattle.ir_tree.specs.declared.node.Attributes.{Attributes}
use Rattle.ir_tree.specs.declared.node.Attributes.TheVariants as attributes

abbrev pub bits_node : ℕ → Op → List Operand → Attributes → Node
bits_node w o os a = record { id = 0; ty = Bits w []; op = o; operands = os; attributes = a }

abbrev pub extension_node : Extend → Operand → ℕ → Node
extension_node kind a w = bits_node w (op.Extend kind) (a ∷ []) (attributes.NewBitCount w)

abbrev pub slice_node : Operand → ℕ → ℕ → Node
slice_node x start w = bits_node w op.BitSlice (x ∷ []) (attributes.StartAndWidth start w)

abbrev pub operation_node : Binary → Operand → Operand → ℕ → Node
operation_node o a b w = bits_node w (op.Binary o) (a ∷ b ∷ []) attributes.None

abbrev pub comparison_node : Compare → Operand → Operand → Node
comparison_node o a b = bits_node 1 (op.Compare o) (a ∷ b ∷ []) attributes.None

abbrev pub zero_node : ℕ → Node
zero_node w = bits_node w op.Literal [] (attributes.Value (Number 0))
