-- All operands of a node, also those among its attributes.
use Rattle.std.specs.Prelude.{List, [], ◌∷◌, ◌++◌, Option, Some, None, slice_get}
use Rattle.ir_tree.specs.declared.node.Operand.{Operand}
use Rattle.ir_tree.specs.declared.node.Operand.TheVariants as operand
use Rattle.ir_tree.specs.declared.node.Node.{Node}
use Rattle.ir_tree.specs.declared.node.Attributes.{Attributes}
use Rattle.ir_tree.specs.declared.node.Attributes.TheVariants as attributes

abbrev pub optional_operand : Option Operand → List Operand
optional_operand None = []
optional_operand (Some o) = o ∷ []

-- cases and default, an index, a predicate
abbrev pub attribute_operands : Attributes → List Operand
attribute_operands attributes.None = []
attribute_operands (attributes.StartAndWidth start width) = []
attribute_operands (attributes.Width width) = []
attribute_operands (attributes.NewBitCount width) = []
attribute_operands (attributes.Cases cases default) = cases ++ optional_operand default
attribute_operands (attributes.Index i) = []
attribute_operands (attributes.Indices i) = i ∷ []
attribute_operands (attributes.Value c) = []
attribute_operands (attributes.Channel predicate c) = optional_operand predicate

abbrev pub operands_in : Node → List Operand
operands_in n = n.operands ++ attribute_operands n.attributes

-- the node that an operand names
abbrev pub node_of : List Node → Operand → Option Node
node_of nodes operand.State = None
node_of nodes (operand.Node i) = slice_get nodes i
