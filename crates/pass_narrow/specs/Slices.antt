-- The slice that a slice comes to by the rows of the table, and what stands for it.
use Rattle.std.specs.Prelude.{ℕ, zero, suc, nat_eq, if◌then◌else◌, List, Option, Some, None}
use Rattle.delay_model.specs.declared.op.Extend.TheVariants as extend
use Rattle.ir_tree.specs.declared.ir_type.IrType.{IrType}
use Rattle.ir_tree.specs.declared.node.Operand.{Operand}
use Rattle.ir_tree.specs.declared.node.Operand.TheVariants as operand
use Rattle.ir_tree.specs.declared.node.Node.{Node}
use Rattle.pass_narrow.specs.declared.node_pattern.NodeReplacement.{NodeReplacement}
use Rattle.pass_narrow.specs.declared.node_pattern.NodeReplacement.TheVariants as right
use Rattle.pass_narrow.specs.declared.rewritten_node.LongSlice.{LongSlice}
use Rattle.pass_narrow.specs.declared.rewritten_node.RewrittenNode.{RewrittenNode}
use Rattle.pass_narrow.specs.declared.rewritten_node.RewrittenNode.TheVariants as rewritten_node
use Rattle.pass_narrow.specs.Nodes.{extension_node, slice_node, zero_node}
use Rattle.pass_narrow.specs.Views.{extended}
use Rattle.pass_narrow.specs.Replacements.{slice_of}

-- ---- the slice inside a slice

-- the slice that a replacement is
abbrev pub inner_part : NodeReplacement → LongSlice → Option LongSlice
inner_part (right.Operand o) part = None
inner_part right.Zero part = None
inner_part (right.Extension kind a) part = None
inner_part (right.Slice x start) part = Some (record { operand = x; start = start; width = part.width; total = part.total })
inner_part (right.LongerSlice x start width) part = Some (record { operand = x; start = start; width = width; total = part.total })
inner_part (right.Operation o a b least) part = None
inner_part (right.Comparison o a b least) part = None

abbrev pub inner_by : LongSlice → Option NodeReplacement → Option LongSlice
inner_by part None = None
inner_by part (Some r) = inner_part r part

abbrev pub inner_of : IrType → List Node → LongSlice → Option LongSlice
inner_of state nodes part = inner_by part (slice_of state nodes part.start part.width part.operand)

-- ---- the innermost one

-- how far back an operand stands
abbrev pub depth : Operand → ℕ
depth operand.State = 0
depth (operand.Node i) = suc i

abbrev pub inside : (LongSlice → LongSlice) → LongSlice → Option LongSlice → LongSlice
inside further part None = part
inside further part (Some inner) = further inner

-- as long as there is one inside, so many times at most
abbrev pub innermost_in : ℕ → IrType → List Node → LongSlice → LongSlice
innermost_in zero state nodes part = part
innermost_in (suc k) state nodes part = inside (innermost_in k state nodes) part (inner_of state nodes part)

-- each stands before the one that it is inside of, so as many times as the operand stands far back
abbrev pub innermost : IrType → List Node → LongSlice → LongSlice
innermost state nodes part = innermost_in (depth part.operand) state nodes part

-- ---- what stands for it

-- the slice, with zeros before it
abbrev pub slice_itself : LongSlice → RewrittenNode
slice_itself part = if nat_eq part.width part.total then (rewritten_node.Node (slice_node part.operand part.start part.width)) else (rewritten_node.Extended (slice_node part.operand part.start part.width) part.total)

abbrev pub whole_by : Operand → ℕ → Option Operand → RewrittenNode
whole_by o total None = rewritten_node.Node (extension_node extend.Zero o total)
whole_by o total (Some a) = rewritten_node.Node (extension_node extend.Zero a total)

-- an operand of `width` bits with zeros before it, in one extension
abbrev pub whole : List Node → Operand → ℕ → ℕ → RewrittenNode
whole nodes o width total = if nat_eq width total then (rewritten_node.Operand o) else (whole_by o total (extended nodes extend.Zero o))

abbrev pub last_part : List Node → LongSlice → NodeReplacement → RewrittenNode
last_part nodes part (right.Operand o) = whole nodes part.operand part.width part.total
last_part nodes part right.Zero = rewritten_node.Node (zero_node part.total)
last_part nodes part (right.Extension kind a) = slice_itself part
last_part nodes part (right.Slice x start) = slice_itself part
last_part nodes part (right.LongerSlice x start width) = slice_itself part
last_part nodes part (right.Operation o a b least) = slice_itself part
last_part nodes part (right.Comparison o a b least) = slice_itself part

abbrev pub last_by : List Node → LongSlice → Option NodeReplacement → RewrittenNode
last_by nodes part None = slice_itself part
last_by nodes part (Some r) = last_part nodes part r

-- a slice with none inside: the operand, zeros, or the slice itself
abbrev pub last_slice : IrType → List Node → LongSlice → RewrittenNode
last_slice state nodes part = last_by nodes part (slice_of state nodes part.start part.width part.operand)

abbrev pub narrowed_slice : IrType → List Node → LongSlice → RewrittenNode
narrowed_slice state nodes part = last_slice state nodes (innermost state nodes part)
