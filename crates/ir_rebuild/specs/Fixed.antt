-- Nodes that every pass leaves as they are.
use Rattle.std.specs.Prelude.{Bool, true, false, ◌||◌, not, List, [], ◌∷◌, Option, Some, None}
use Rattle.delay_model.specs.declared.op.Op.{Op}
use Rattle.delay_model.specs.declared.op.Op.TheVariants as op
use Rattle.ir_tree.specs.declared.node.Operand.{Operand}
use Rattle.ir_tree.specs.declared.node.Node.{Node}
use Rattle.ir_tree.specs.declared.node.Attributes.{Attributes}
use Rattle.ir_tree.specs.declared.node.Attributes.TheVariants as attributes
use Rattle.ir_rebuild.specs.Operands.{node_of}
use Rattle.ir_rebuild.specs.Built.{is_plain_op}

abbrev pub is_receive_op : Op → Bool
is_receive_op op.Receive = true
is_receive_op _ = false

abbrev pub is_receive : Option Node → Bool
is_receive None = false
is_receive (Some n) = is_receive_op n.op

abbrev pub is_one_receive : List Node → List Operand → Bool
is_one_receive nodes [] = false
is_one_receive nodes (o ∷ []) = is_receive (node_of nodes o)
is_one_receive nodes (o ∷ p ∷ os) = false

abbrev pub is_part_of_receive : List Node → Attributes → List Operand → Bool
is_part_of_receive nodes attributes.None os = false
is_part_of_receive nodes (attributes.StartAndWidth start width) os = false
is_part_of_receive nodes (attributes.Width width) os = false
is_part_of_receive nodes (attributes.NewBitCount width) os = false
is_part_of_receive nodes (attributes.Cases cases default) os = false
is_part_of_receive nodes (attributes.Index i) os = is_one_receive nodes os
is_part_of_receive nodes (attributes.Indices i) os = false
is_part_of_receive nodes (attributes.Value c) os = false
is_part_of_receive nodes (attributes.Channel predicate c) os = false

-- sites and `after_all`, and the parts of what a receive gives: the tokens of the order of sites are among them
abbrev pub is_fixed : List Node → Node → Bool
is_fixed nodes n = not (is_plain_op n.op) || is_part_of_receive nodes n.attributes n.operands
