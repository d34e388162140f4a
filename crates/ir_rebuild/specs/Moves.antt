-- Nodes whose operands stand elsewhere.
use Rattle.std.specs.Prelude.{List, map, get_or, option_map}
use Rattle.ir_tree.specs.declared.node.Operand.{Operand}
use Rattle.ir_tree.specs.declared.node.Operand.TheVariants as operand
use Rattle.ir_tree.specs.declared.node.Node.{Node}
use Rattle.ir_tree.specs.declared.node.Attributes.{Attributes}
use Rattle.ir_tree.specs.declared.node.Attributes.TheVariants as attributes

-- what stands for an operand, where these stand for the nodes
abbrev pub moved : List Operand → Operand → Operand
moved places operand.State = operand.State
moved places (operand.Node i) = get_or places i operand.State

abbrev pub moved_attributes : (Operand → Operand) → Attributes → Attributes
moved_attributes f attributes.None = attributes.None
moved_attributes f (attributes.StartAndWidth start width) = attributes.StartAndWidth start width
moved_attributes f (attributes.Width width) = attributes.Width width
moved_attributes f (attributes.NewBitCount width) = attributes.NewBitCount width
moved_attributes f (attributes.Cases cases default) = attributes.Cases (map f cases) (option_map f default)
moved_attributes f (attributes.Index i) = attributes.Index i
moved_attributes f (attributes.Indices i) = attributes.Indices (f i)
moved_attributes f (attributes.Value c) = attributes.Value c
moved_attributes f (attributes.Channel predicate c) = attributes.Channel (option_map f predicate) c

-- the node over what stands for its operands
abbrev pub moved_node : (Operand → Operand) → Node → Node
moved_node f n = record { id = n.id; ty = n.ty; op = n.op; operands = map f n.operands; attributes = moved_attributes f n.attributes }
