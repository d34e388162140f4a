-- What stands for a node: the replacement of its pattern with what that needs, or, with none, the node itself. The old nodes and the
-- node determine it.
use Rattle.std.specs.Prelude.{◌≡◌, ℕ, nat_eq, if◌then◌else◌, List, [], ◌∷◌, ◌++◌, length, Option, Some, None}
use Rattle.delay_model.specs.declared.op.Extend.TheVariants as extend
use Rattle.ir_tree.specs.declared.ir_type.IrType.{IrType}
use Rattle.ir_tree.specs.declared.node.Operand.{Operand}
use Rattle.ir_tree.specs.declared.node.Operand.TheVariants as operand
use Rattle.ir_tree.specs.declared.node.Node.{Node}
use Rattle.ir_tree.specs.NodeTypes.Types.{bits_width}
use Rattle.ir_rebuild.specs.Built.{numbered}
use Rattle.pass_narrow.specs.declared.node_pattern.NodeReplacement.{NodeReplacement}
use Rattle.pass_narrow.specs.declared.node_pattern.NodeReplacement.TheVariants as right
use Rattle.pass_narrow.specs.declared.rewritten_node.RewrittenNode.{RewrittenNode}
use Rattle.pass_narrow.specs.declared.rewritten_node.RewrittenNode.TheVariants as rewritten_node
use Rattle.pass_narrow.specs.Nodes.{extension_node, operation_node, comparison_node, zero_node}
use Rattle.pass_narrow.specs.Views.{width_in}
use Rattle.pass_narrow.specs.Replacements.{replacement_of}
use Rattle.pass_narrow.specs.Slices.{narrowed_slice}

-- a node more
abbrev pub and_node : List Node → Node → List Node
and_node nodes n = nodes ++ numbered (length nodes) n ∷ []

-- ---- operands

-- nodes, and an operand over them
pub record Grown : Type 0 where
  pub nodes : List Node
  pub operand : Operand

-- the operand with zeros before it up to so many bits: itself where it has as many, else a node more
abbrev pub made_longer : IrType → List Node → Operand → ℕ → Grown
made_longer state nodes o w =
    if nat_eq (width_in state nodes o) w then (record { nodes = nodes; operand = o }) else (record { nodes = and_node nodes (extension_node extend.Zero o w); operand = operand.Node (length nodes) })

abbrev pub IsMadeLonger : IrType → List Node → List Node → Operand → ℕ → Operand → Type 0
IsMadeLonger state old new o w p = (new ≡ (made_longer state old o w).nodes) × (p ≡ (made_longer state old o w).operand)

-- ---- replacements

-- nodes, and what stands for a node over them
pub record Narrowing : Type 0 where
  pub nodes : List Node
  pub answer : RewrittenNode

abbrev pub pair_over : Grown → Grown → (Operand → Operand → RewrittenNode) → Narrowing
pair_over first second answer = record { nodes = second.nodes; answer = answer first.operand second.operand }

-- both operands made longer, the left one first
abbrev pub pair_of : IrType → List Node → Operand → Operand → ℕ → (Operand → Operand → RewrittenNode) → Narrowing
pair_of state nodes a b least answer = pair_over (made_longer state nodes a least) (made_longer state (made_longer state nodes a least).nodes b least) answer

-- what a replacement makes for a node of `total` bits
abbrev pub made_of : IrType → List Node → ℕ → NodeReplacement → Narrowing
made_of state nodes total (right.Operand o) = record { nodes = nodes; answer = rewritten_node.Operand o }
made_of state nodes total right.Zero = record { nodes = nodes; answer = rewritten_node.Node (zero_node total) }
made_of state nodes total (right.Extension kind a) = record { nodes = nodes; answer = rewritten_node.Node (extension_node kind a total) }
made_of state nodes total (right.Slice x start) = record { nodes = nodes; answer = narrowed_slice state nodes (record { operand = x; start = start; width = total; total = total }) }
made_of state nodes total (right.LongerSlice x start width) = record { nodes = nodes; answer = narrowed_slice state nodes (record { operand = x; start = start; width = width; total = total }) }
made_of state nodes total (right.Operation o a b least) = pair_of state nodes a b least (λ x y. rewritten_node.Extended (operation_node o x y least) total)
made_of state nodes total (right.Comparison o a b least) = pair_of state nodes a b least (λ x y. rewritten_node.Node (comparison_node o x y))

-- ---- any node

abbrev pub narrowing_by : IrType → List Node → Node → Option NodeReplacement → Narrowing
narrowing_by state nodes n None = record { nodes = nodes; answer = rewritten_node.Node n }
narrowing_by state nodes n (Some r) = made_of state nodes (bits_width n.ty) r

abbrev pub narrowing_of : IrType → List Node → Node → Narrowing
narrowing_of state nodes n = narrowing_by state nodes n (replacement_of state nodes n)

-- these are the nodes and the answer
abbrev pub IsNarrowing : List Node → RewrittenNode → Narrowing → Type 0
IsNarrowing nodes x g = (nodes ≡ g.nodes) × (x ≡ g.answer)
