-- Which pattern a node has, and its replacement.
use Rattle.std.specs.Prelude.{ℕ, ◌+◌, ◌-◌, ◌^◌, max, nat_lt, nat_le, nat_eq, Bool, true, false, if◌then◌else◌, List, [], ◌∷◌, Option, Some, None}
use Rattle.delay_model.specs.declared.op.Op.{Op}
use Rattle.delay_model.specs.declared.op.Op.TheVariants as op
use Rattle.delay_model.specs.declared.op.Binary.{Binary}
use Rattle.delay_model.specs.declared.op.Binary.TheVariants as binary
use Rattle.delay_model.specs.declared.op.Compare.{Compare}
use Rattle.delay_model.specs.declared.op.Compare.TheVariants as compare
use Rattle.delay_model.specs.declared.op.Extend.{Extend}
use Rattle.delay_model.specs.declared.op.Extend.TheVariants as extend
use Rattle.ir_tree.specs.declared.ir_type.IrType.{IrType}
use Rattle.ir_tree.specs.declared.node.Operand.{Operand}
use Rattle.ir_tree.specs.declared.node.Node.{Node}
use Rattle.ir_tree.specs.declared.node.Attributes.{Attributes}
use Rattle.ir_tree.specs.declared.node.Attributes.TheVariants as attributes
use Rattle.ir_tree.specs.NodeTypes.Types.{bits_width}
use Rattle.pass_narrow.specs.declared.operands.Part.{Part}
use Rattle.pass_narrow.specs.declared.node_pattern.NodeReplacement.{NodeReplacement}
use Rattle.pass_narrow.specs.declared.node_pattern.NodeReplacement.TheVariants as right
use Rattle.pass_narrow.specs.Views.{width_in, extended, sliced, part_of, element_of}

-- a number of bits, if it is smaller than the width
abbrev pub narrower : ℕ → ℕ → Option ℕ
narrower m w = if nat_lt m w then Some m else None

-- as many bits as the operation gives of numbers of p and q bits, if they are fewer than the width
abbrev pub least_width : Binary → ℕ → ℕ → ℕ → Option ℕ
least_width binary.Add p q w = narrower (max p q + 1) w
least_width binary.Sub p q w = None
least_width binary.Umul p q w = narrower (p + q) w
least_width binary.Udiv p q w = None
least_width binary.Umod p q w = None
least_width binary.And p q w = narrower (max p q) w
least_width binary.Or p q w = narrower (max p q) w
least_width binary.Xor p q w = narrower (max p q) w

-- ---- operations and comparisons

abbrev pub operation_if : Binary → Operand → Operand → Option ℕ → Option NodeReplacement
operation_if o a b None = None
operation_if o a b (Some m) = Some (right.Operation o a b m)

abbrev pub operation_by : IrType → List Node → Binary → ℕ → Operand → Operand → Option NodeReplacement
operation_by state nodes o w a b = operation_if o a b (least_width o (width_in state nodes a) (width_in state nodes b) w)

abbrev pub operation_second : IrType → List Node → Binary → ℕ → Operand → Option Operand → Option NodeReplacement
operation_second state nodes o w a None = None
operation_second state nodes o w a (Some b) = operation_by state nodes o w a b

abbrev pub operation_first : IrType → List Node → Binary → ℕ → Option Operand → Option Operand → Option NodeReplacement
operation_first state nodes o w None b = None
operation_first state nodes o w (Some a) b = operation_second state nodes o w a b

abbrev pub operation_of : IrType → List Node → Binary → ℕ → List Operand → Option NodeReplacement
operation_of state nodes o w [] = None
operation_of state nodes o w (x ∷ []) = None
operation_of state nodes o w (x ∷ y ∷ []) = operation_first state nodes o w (extended nodes extend.Zero x) (extended nodes extend.Zero y)
operation_of state nodes o w (x ∷ y ∷ z ∷ os) = None

abbrev pub is_unsigned : Compare → Bool
is_unsigned compare.Slt = false
is_unsigned compare.Sle = false
is_unsigned compare.Sgt = false
is_unsigned compare.Sge = false
is_unsigned _ = true

abbrev pub comparison_if : Compare → Operand → Operand → Option ℕ → Option NodeReplacement
comparison_if o a b None = None
comparison_if o a b (Some m) = Some (right.Comparison o a b m)

abbrev pub comparison_by : IrType → List Node → Compare → ℕ → Operand → Operand → Option NodeReplacement
comparison_by state nodes o k a b = if is_unsigned o then comparison_if o a b (narrower (max (width_in state nodes a) (width_in state nodes b)) k) else None

abbrev pub comparison_second : IrType → List Node → Compare → ℕ → Operand → Option Operand → Option NodeReplacement
comparison_second state nodes o k a None = None
comparison_second state nodes o k a (Some b) = comparison_by state nodes o k a b

abbrev pub comparison_first : IrType → List Node → Compare → ℕ → Option Operand → Option Operand → Option NodeReplacement
comparison_first state nodes o k None b = None
comparison_first state nodes o k (Some a) b = comparison_second state nodes o k a b

abbrev pub comparison_of : IrType → List Node → Compare → List Operand → Option NodeReplacement
comparison_of state nodes o [] = None
comparison_of state nodes o (x ∷ []) = None
comparison_of state nodes o (x ∷ y ∷ []) = comparison_first state nodes o (width_in state nodes x) (extended nodes extend.Zero x) (extended nodes extend.Zero y)
comparison_of state nodes o (x ∷ y ∷ z ∷ os) = None

-- ---- one operand alone, parts of tuples

abbrev pub concat_of : List Operand → Option NodeReplacement
concat_of [] = None
concat_of (o ∷ []) = Some (right.Operand o)
concat_of (o ∷ p ∷ os) = None

abbrev pub operand_if : Option Operand → Option NodeReplacement
operand_if None = None
operand_if (Some o) = Some (right.Operand o)

abbrev pub element_replacement : List Node → ℕ → List Operand → Option NodeReplacement
element_replacement nodes i [] = None
element_replacement nodes i (o ∷ []) = operand_if (element_of nodes i o)
element_replacement nodes i (o ∷ p ∷ os) = None

-- ---- extensions

abbrev pub sign_by : IrType → List Node → Operand → Option Operand → Option NodeReplacement
sign_by state nodes x None = None
sign_by state nodes x (Some a) = if nat_lt (width_in state nodes a) (width_in state nodes x) then (Some (right.Extension extend.Zero a)) else None

abbrev pub sign_of_longer : IrType → List Node → Operand → Option NodeReplacement
sign_of_longer state nodes x = sign_by state nodes x (extended nodes extend.Zero x)

abbrev pub other_extension : IrType → List Node → Operand → Extend → Option NodeReplacement
other_extension state nodes x extend.Zero = None
other_extension state nodes x extend.Sign = sign_of_longer state nodes x

abbrev pub longer_by : IrType → List Node → Extend → Operand → Option Operand → Option NodeReplacement
longer_by state nodes kind x (Some a) = Some (right.Extension kind a)
longer_by state nodes kind x None = other_extension state nodes x kind

abbrev pub longer_of : IrType → List Node → Extend → Operand → Option NodeReplacement
longer_of state nodes kind x = longer_by state nodes kind x (extended nodes kind x)

abbrev pub extension_of : IrType → List Node → Extend → ℕ → List Operand → Option NodeReplacement
extension_of state nodes kind w [] = None
extension_of state nodes kind w (x ∷ []) = if nat_eq (width_in state nodes x) w then (Some (right.Operand x)) else longer_of state nodes kind x
extension_of state nodes kind w (x ∷ y ∷ os) = None

-- ---- slices

abbrev pub slice_of_longer : ℕ → ℕ → ℕ → Operand → Option NodeReplacement
slice_of_longer own start width a =
    if nat_le own start then (Some right.Zero) else (if nat_le width (own - start) then (Some (right.Slice a start)) else (Some (right.LongerSlice a start (own - start))))

abbrev pub slice_part : Option Part → Option NodeReplacement
slice_part None = None
slice_part (Some part) = Some (right.Slice part.operand part.start)

abbrev pub slice_of_slice : IrType → List Node → ℕ → ℕ → Operand → Option Part → Option NodeReplacement
slice_of_slice state nodes start width x (Some part) = if nat_le start ((2 ^ 128 - 1) - part.start) then (Some (right.Slice part.operand (part.start + start))) else (Some right.Zero)
slice_of_slice state nodes start width x None = slice_part (part_of state nodes start width x)

abbrev pub slice_inside : IrType → List Node → ℕ → ℕ → Operand → Option NodeReplacement
slice_inside state nodes start width x = slice_of_slice state nodes start width x (sliced nodes x)

abbrev pub slice_by : IrType → List Node → ℕ → ℕ → Operand → Option Operand → Option NodeReplacement
slice_by state nodes start width x (Some a) = if nat_lt (width_in state nodes a) (width_in state nodes x) then slice_of_longer (width_in state nodes a) start width a else None
slice_by state nodes start width x None = slice_inside state nodes start width x

abbrev pub slice_over : IrType → List Node → ℕ → ℕ → Operand → Option NodeReplacement
slice_over state nodes start width x = slice_by state nodes start width x (extended nodes extend.Zero x)

abbrev pub slice_of : IrType → List Node → ℕ → ℕ → Operand → Option NodeReplacement
slice_of state nodes start width x = if nat_eq (width_in state nodes x) width then (Some (right.Operand x)) else slice_over state nodes start width x

abbrev pub slice_of_one : IrType → List Node → ℕ → ℕ → List Operand → Option NodeReplacement
slice_of_one state nodes start width [] = None
slice_of_one state nodes start width (x ∷ []) = slice_of state nodes start width x
slice_of_one state nodes start width (x ∷ y ∷ os) = None

-- ---- any node

abbrev pub plain_replacement : IrType → List Node → Op → ℕ → List Operand → Option NodeReplacement
plain_replacement state nodes (op.Binary o) w os = operation_of state nodes o w os
plain_replacement state nodes (op.Compare o) w os = comparison_of state nodes o os
plain_replacement state nodes op.Concat w os = concat_of os
plain_replacement state nodes _ w os = None

abbrev pub extension_by_op : IrType → List Node → ℕ → List Operand → Op → Option NodeReplacement
extension_by_op state nodes w os (op.Extend kind) = extension_of state nodes kind w os
extension_by_op state nodes w os _ = None

abbrev pub replacement_by : IrType → List Node → Op → ℕ → List Operand → Attributes → Option NodeReplacement
replacement_by state nodes o w os attributes.None = plain_replacement state nodes o w os
replacement_by state nodes o w os (attributes.StartAndWidth start width) = slice_of_one state nodes start width os
replacement_by state nodes o w os (attributes.Width width) = None
replacement_by state nodes o w os (attributes.NewBitCount width) = extension_by_op state nodes width os o
replacement_by state nodes o w os (attributes.Cases cases default) = None
replacement_by state nodes o w os (attributes.Index i) = element_replacement nodes i os
replacement_by state nodes o w os (attributes.Indices i) = None
replacement_by state nodes o w os (attributes.Value c) = None
replacement_by state nodes o w os (attributes.Channel predicate c) = None

abbrev pub replacement_of : IrType → List Node → Node → Option NodeReplacement
replacement_of state nodes n = replacement_by state nodes n.op (bits_width n.ty) n.operands n.attributes
