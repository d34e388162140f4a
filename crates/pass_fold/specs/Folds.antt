-- Nodes over literals, and their values.
use Rattle.std.specs.Prelude.{ℕ, zero, suc, Bool, true, false, ◌&&◌, List, [], ◌∷◌, ◌++◌, length, map, Option, Some, None}
use Rattle.std.specs.List.{list_all}
use Rattle.xb_value.specs.declared.value.Value.{Value}
use Rattle.delay_model.specs.declared.op.Op.{Op}
use Rattle.delay_model.specs.declared.op.Op.TheVariants as op
use Rattle.ir_tree.specs.declared.ir_type.IrType.{IrType, Token}
use Rattle.ir_tree.specs.declared.node.Operand.{Operand}
use Rattle.ir_tree.specs.declared.node.Operand.TheVariants as operand
use Rattle.ir_tree.specs.declared.node.Node.{Node}
use Rattle.ir_tree.specs.declared.node.Attributes.{Attributes}
use Rattle.ir_tree.specs.declared.node.Attributes.TheVariants as attributes
use Rattle.ir_tree.specs.Types.{ty_of}
use Rattle.ir_tree.specs.Constants.{no_value, constant_value}
use Rattle.ir_tree.specs.NodeValues.{pure_value}
use Rattle.ir_rebuild.specs.Operands.{node_of}

-- ---- literals

abbrev pub is_literal_op : Op → Bool
is_literal_op op.Literal = true
is_literal_op _ = false

abbrev pub is_literal_node : Option Node → Bool
is_literal_node None = false
is_literal_node (Some n) = is_literal_op n.op

-- the operand names a literal
abbrev pub is_literal : List Node → Operand → Bool
is_literal nodes o = is_literal_node (node_of nodes o)

abbrev pub are_folded : List Node → List Operand → Bool
are_folded nodes [] = false
are_folded nodes (o ∷ os) = list_all (is_literal nodes) (o ∷ os)

abbrev pub is_foldable_by : List Node → List Operand → Attributes → Bool
is_foldable_by nodes os attributes.None = are_folded nodes os
is_foldable_by nodes os (attributes.StartAndWidth start width) = are_folded nodes os
is_foldable_by nodes os (attributes.Width width) = are_folded nodes os
is_foldable_by nodes os (attributes.NewBitCount width) = are_folded nodes os
is_foldable_by nodes os (attributes.Cases cases default) = false
is_foldable_by nodes os (attributes.Index i) = are_folded nodes os
is_foldable_by nodes os (attributes.Indices i) = is_literal nodes i && list_all (is_literal nodes) os
is_foldable_by nodes os (attributes.Value c) = false
is_foldable_by nodes os (attributes.Channel predicate c) = false

-- the node has operands, all of them literals; a `sel` counts for none
abbrev pub is_foldable : List Node → Node → Bool
is_foldable nodes n = is_foldable_by nodes n.operands n.attributes

-- ---- the value of a literal; another operand has none

abbrev pub value_by : IrType → Attributes → Value
value_by t attributes.None = no_value
value_by t (attributes.StartAndWidth start width) = no_value
value_by t (attributes.Width width) = no_value
value_by t (attributes.NewBitCount width) = no_value
value_by t (attributes.Cases cases default) = no_value
value_by t (attributes.Index i) = no_value
value_by t (attributes.Indices i) = no_value
value_by t (attributes.Value c) = constant_value (ty_of t) c
value_by t (attributes.Channel predicate c) = no_value

abbrev pub value_at_op : IrType → Attributes → Op → Value
value_at_op t a op.Literal = value_by t a
value_at_op t a _ = no_value

abbrev pub value_in : Node → Value
value_in n = value_at_op n.ty n.attributes n.op

abbrev pub value_there : Option Node → Value
value_there None = no_value
value_there (Some n) = value_in n

abbrev pub literal_value : List Node → Operand → Value
literal_value nodes o = value_there (node_of nodes o)

-- ---- the node over values at the first indices: those of its operands, and behind them that of an index operand

abbrev pub places_from : ℕ → ℕ → List Operand
places_from place zero = []
places_from place (suc count) = operand.Node place ∷ places_from (suc place) count

abbrev pub places_to : ℕ → List Operand
places_to count = places_from 0 count

abbrev pub shown_attributes : ℕ → Attributes → Attributes
shown_attributes count attributes.None = attributes.None
shown_attributes count (attributes.StartAndWidth start width) = attributes.StartAndWidth start width
shown_attributes count (attributes.Width width) = attributes.Width width
shown_attributes count (attributes.NewBitCount width) = attributes.NewBitCount width
shown_attributes count (attributes.Cases cases default) = attributes.None
shown_attributes count (attributes.Index i) = attributes.Index i
shown_attributes count (attributes.Indices i) = attributes.Indices (operand.Node count)
shown_attributes count (attributes.Value c) = attributes.None
shown_attributes count (attributes.Channel predicate c) = attributes.None

abbrev pub shown_node : Node → Node
shown_node n = record { id = 0; ty = Token []; op = n.op; operands = places_to (length n.operands); attributes = shown_attributes (length n.operands) n.attributes }

abbrev pub index_values : List Node → Attributes → List Value
index_values nodes (attributes.Indices i) = literal_value nodes i ∷ []
index_values nodes _ = []

abbrev pub shown_values : List Node → Node → List Value
shown_values nodes n = map (literal_value nodes) n.operands ++ index_values nodes n.attributes

-- the value of a node over literals
abbrev pub folded_value : List Node → Node → Value
folded_value nodes n = pure_value (shown_node n) no_value (shown_values nodes n)
