-- What the nodes that operands name show.
use Rattle.std.specs.Prelude.{ℕ, ◌+◌, ◌-◌, nat_le, Bool, true, false, ◌&&◌, if◌then◌else◌, List, [], ◌∷◌, slice_get, Option, Some, None}
use Rattle.delay_model.specs.declared.op.Op.{Op}
use Rattle.delay_model.specs.declared.op.Op.TheVariants as op
use Rattle.delay_model.specs.declared.op.Extend.{Extend}
use Rattle.delay_model.specs.declared.op.Extend.TheVariants as extend
use Rattle.ir_tree.specs.declared.ir_type.IrType.{IrType}
use Rattle.ir_tree.specs.declared.node.Operand.{Operand}
use Rattle.ir_tree.specs.declared.node.Operand.TheVariants as operand
use Rattle.ir_tree.specs.declared.node.Node.{Node}
use Rattle.ir_tree.specs.declared.node.Attributes.{Attributes}
use Rattle.ir_tree.specs.declared.node.Attributes.TheVariants as attributes
use Rattle.ir_tree.specs.NodeTypes.Types.{bits_width}
use Rattle.ir_rebuild.specs.Operands.{node_of}
use Rattle.pass_narrow.specs.declared.operands.Part.{Part}

-- ---- widths

abbrev pub width_at : Option Node → ℕ
width_at None = 0
width_at (Some n) = bits_width n.ty

-- the width of an operand that is a number
abbrev pub width_in : IrType → List Node → Operand → ℕ
width_in state nodes operand.State = bits_width state
width_in state nodes (operand.Node i) = width_at (slice_get nodes i)

-- ---- extensions

abbrev pub only : List Operand → Option Operand
only [] = None
only (o ∷ []) = Some o
only (o ∷ p ∷ os) = None

abbrev pub same_kind : Extend → Extend → Bool
same_kind extend.Zero extend.Zero = true
same_kind extend.Zero extend.Sign = false
same_kind extend.Sign extend.Zero = false
same_kind extend.Sign extend.Sign = true

abbrev pub extension_by : Extend → Op → List Operand → Option Operand
extension_by kind (op.Extend own) os = if same_kind kind own then only os else None
extension_by kind _ os = None

abbrev pub extension_in : Extend → Op → List Operand → Attributes → Option Operand
extension_in kind o os attributes.None = None
extension_in kind o os (attributes.StartAndWidth start width) = None
extension_in kind o os (attributes.Width width) = None
extension_in kind o os (attributes.NewBitCount width) = extension_by kind o os
extension_in kind o os (attributes.Cases cases default) = None
extension_in kind o os (attributes.Index i) = None
extension_in kind o os (attributes.Indices i) = None
extension_in kind o os (attributes.Value c) = None
extension_in kind o os (attributes.Channel predicate c) = None

abbrev pub extension_at : Extend → Option Node → Option Operand
extension_at kind None = None
extension_at kind (Some n) = extension_in kind n.op n.operands n.attributes

-- what an operand extends
abbrev pub extended : List Node → Extend → Operand → Option Operand
extended nodes kind o = extension_at kind (node_of nodes o)

-- ---- slices

abbrev pub slice_over : ℕ → List Operand → Option Part
slice_over start [] = None
slice_over start (o ∷ []) = Some (record { operand = o; start = start })
slice_over start (o ∷ p ∷ os) = None

abbrev pub slice_by : ℕ → List Operand → Op → Option Part
slice_by start os op.BitSlice = slice_over start os
slice_by start os _ = None

abbrev pub slice_in : Op → List Operand → Attributes → Option Part
slice_in o os attributes.None = None
slice_in o os (attributes.StartAndWidth start width) = slice_by start os o
slice_in o os (attributes.Width width) = None
slice_in o os (attributes.NewBitCount width) = None
slice_in o os (attributes.Cases cases default) = None
slice_in o os (attributes.Index i) = None
slice_in o os (attributes.Indices i) = None
slice_in o os (attributes.Value c) = None
slice_in o os (attributes.Channel predicate c) = None

abbrev pub slice_at : Option Node → Option Part
slice_at None = None
slice_at (Some n) = slice_in n.op n.operands n.attributes

-- what an operand is a slice of
abbrev pub sliced : List Node → Operand → Option Part
sliced nodes o = slice_at (node_of nodes o)

-- ---- numbers side by side

-- the part, the bits from `behind` to `end`, if `width` bits from `start` on lie in it
abbrev pub part_inside : Operand → ℕ → ℕ → ℕ → ℕ → Option Part
part_inside o behind end start width =
    if nat_le behind start && nat_le (start + width) end then (Some (record { operand = o; start = start - behind })) else None

-- the one of these, the last `total` bits of a number, in which `width` bits from `start` on lie
abbrev pub part_from : IrType → List Node → List Operand → ℕ → ℕ → ℕ → Option Part
part_from state nodes [] total start width = None
part_from state nodes (o ∷ os) total start width =
    if nat_le (total - width_in state nodes o) start then part_inside o (total - width_in state nodes o) total start width else part_from state nodes os (total - width_in state nodes o) start width

abbrev pub parts_by : IrType → List Node → ℕ → ℕ → ℕ → List Operand → Op → Option Part
parts_by state nodes start width total os op.Concat = part_from state nodes os total start width
parts_by state nodes start width total os _ = None

abbrev pub parts_in : IrType → List Node → ℕ → ℕ → ℕ → Op → List Operand → Attributes → Option Part
parts_in state nodes start width total o os attributes.None = parts_by state nodes start width total os o
parts_in state nodes start width total o os (attributes.StartAndWidth own size) = None
parts_in state nodes start width total o os (attributes.Width size) = None
parts_in state nodes start width total o os (attributes.NewBitCount size) = None
parts_in state nodes start width total o os (attributes.Cases cases default) = None
parts_in state nodes start width total o os (attributes.Index i) = None
parts_in state nodes start width total o os (attributes.Indices i) = None
parts_in state nodes start width total o os (attributes.Value c) = None
parts_in state nodes start width total o os (attributes.Channel predicate c) = None

abbrev pub parts_at : IrType → List Node → ℕ → ℕ → Option Node → Option Part
parts_at state nodes start width None = None
parts_at state nodes start width (Some n) = parts_in state nodes start width (bits_width n.ty) n.op n.operands n.attributes

-- the part of a concatenation in which `width` bits from `start` on lie
abbrev pub part_of : IrType → List Node → ℕ → ℕ → Operand → Option Part
part_of state nodes start width o = parts_at state nodes start width (node_of nodes o)

-- ---- tuples

abbrev pub element_by : ℕ → List Operand → Op → Option Operand
element_by index os op.Tuple = slice_get os index
element_by index os _ = None

abbrev pub element_in : ℕ → Op → List Operand → Attributes → Option Operand
element_in index o os attributes.None = element_by index os o
element_in index o os (attributes.StartAndWidth start width) = None
element_in index o os (attributes.Width width) = None
element_in index o os (attributes.NewBitCount width) = None
element_in index o os (attributes.Cases cases default) = None
element_in index o os (attributes.Index i) = None
element_in index o os (attributes.Indices i) = None
element_in index o os (attributes.Value c) = None
element_in index o os (attributes.Channel predicate c) = None

abbrev pub element_at : ℕ → Option Node → Option Operand
element_at index None = None
element_at index (Some n) = element_in index n.op n.operands n.attributes

-- the element of a tuple
abbrev pub element_of : List Node → ℕ → Operand → Option Operand
element_of nodes index o = element_at index (node_of nodes o)
