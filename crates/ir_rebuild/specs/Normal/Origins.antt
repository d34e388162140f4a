-- What the table of patterns sees of an operand: its type, and how it was made.
use Rattle.std.specs.Prelude.{List, map, Option, Some, None}
use Rattle.delay_model.specs.declared.op.Op.{Op}
use Rattle.ir_tree.specs.declared.ir_type.IrType.{IrType}
use Rattle.ir_tree.specs.declared.node.Operand.{Operand}
use Rattle.ir_tree.specs.declared.node.Node.{Node}
use Rattle.ir_tree.specs.Rules.Fitting.{type_in, types_behind}
use Rattle.ir_rebuild.specs.Operands.{node_of}

-- the operation of a node, and the types of its operands
pub record Making : Type 0 where
  pub op : Op
  pub types : List IrType

-- the type of an operand, and how it was made where it is no state
pub record Origin : Type 0 where
  pub ty : IrType
  pub made : Option Making

abbrev pub made_by : IrType → List Node → Option Node → Option Making
made_by state nodes None = None
made_by state nodes (Some n) = Some (record { op = n.op; types = map (type_in (types_behind state nodes)) n.operands })

-- of an operand of a proc of that state, among these nodes
abbrev pub origin : IrType → List Node → Operand → Origin
origin state nodes o = record { ty = type_in (types_behind state nodes) o; made = made_by state nodes (node_of nodes o) }
