-- Nodes that are appended, or folded.
use Rattle.std.specs.Prelude.{◌≡◌, if◌then◌else◌, List, [], ◌∷◌, ◌++◌, length}
use Rattle.delay_model.specs.declared.op.Op.TheVariants as op
use Rattle.ir_tree.specs.declared.ir_type.IrType.{IrType}
use Rattle.ir_tree.specs.declared.constant.Constant.{Constant}
use Rattle.ir_tree.specs.declared.node.Operand.{Operand}
use Rattle.ir_tree.specs.declared.node.Operand.TheVariants as operand
use Rattle.ir_tree.specs.declared.node.Node.{Node}
use Rattle.ir_tree.specs.declared.node.Attributes.TheVariants as attributes
use Rattle.ir_rebuild.specs.Built.{numbered}
use Rattle.pass_fold.specs.Constants.{constant_of}
use Rattle.pass_fold.specs.Folds.{is_foldable, folded_value}

-- a literal of this constant
abbrev pub literal_node : IrType → Constant → Node
literal_node t c = record { id = 0; ty = t; op = op.Literal; operands = []; attributes = attributes.Value c }

-- this node was appended, and the operand names it
abbrev pub IsAppended : List Node → List Node → Node → Operand → Type 0
IsAppended old new n o = (new ≡ old ++ numbered (length old) n ∷ []) × (o ≡ operand.Node (length old))

-- the literal of its value in place of a node over literals; any other node is itself
abbrev pub settled_node : List Node → Node → Node
settled_node nodes n = if is_foldable nodes n then literal_node n.ty (constant_of (folded_value nodes n)) else n

-- a node was appended, or the literal of its value where it is over literals
abbrev pub IsFolded : List Node → List Node → Node → Operand → Type 0
IsFolded old new n o = IsAppended old new (settled_node old n) o
