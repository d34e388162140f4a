-- What the rules make of a node: the nodes before and the node determine it.
use Rattle.std.specs.Prelude.{◌≡◌, ℕ, List, length, Option, Some, None}
use Rattle.delay_model.specs.declared.op.Extend.TheVariants as extend
use Rattle.ir_tree.specs.declared.ir_type.IrType.{IrType}
use Rattle.ir_tree.specs.declared.node.Operand.{Operand}
use Rattle.ir_tree.specs.declared.node.Operand.TheVariants as operand
use Rattle.ir_tree.specs.declared.node.Node.{Node}
use Rattle.pass_fold.specs.Settled.{settled_node}
use Rattle.pass_narrow.specs.declared.rewritten_node.RewrittenNode.{RewrittenNode}
use Rattle.pass_narrow.specs.declared.rewritten_node.RewrittenNode.TheVariants as rewritten_node
use Rattle.pass_narrow.specs.declared.node_pattern.NodeReplacement.{NodeReplacement}
use Rattle.pass_narrow.specs.declared.node_pattern.NodeReplacement.TheVariants as right
use Rattle.pass_narrow.specs.Nodes.{extension_node}
use Rattle.pass_narrow.specs.Narrowings.{Grown, and_node, narrowing_of}
use Rattle.pass_narrow.specs.Replacements.{replacement_of}
use Rattle.pass_select.specs.Choices.{choice_of}

-- ---- what stands for a node

-- a node more, or the literal of its value
abbrev pub settle : List Node → Node → Grown
settle nodes n = record { nodes = and_node nodes (settled_node nodes n); operand = operand.Node (length nodes) }

-- what narrowing answers: an operand, a node more, or a node more and its extension by zeros
abbrev pub settle_answer : List Node → RewrittenNode → Grown
settle_answer nodes (rewritten_node.Operand o) = record { nodes = nodes; operand = o }
settle_answer nodes (rewritten_node.Node m) = settle nodes m
settle_answer nodes (rewritten_node.Extended m w) = settle (settle nodes m).nodes (extension_node extend.Zero (settle nodes m).operand w)

abbrev pub simplify_by : IrType → List Node → Node → Option Operand → Grown
simplify_by state nodes n (Some o) = record { nodes = nodes; operand = o }
simplify_by state nodes n None = settle_answer (narrowing_of state nodes n).nodes (narrowing_of state nodes n).answer

-- a select is what it always chooses; any other node is what narrowing has in its place, each of whose nodes is settled
abbrev pub simplify : IrType → List Node → Node → Grown
simplify state nodes n = simplify_by state nodes n (choice_of nodes n)

-- these are the nodes and the operand
abbrev pub IsGrown : List Node → Operand → Grown → Type 0
IsGrown nodes o g = (nodes ≡ g.nodes) × (o ≡ g.operand)

-- ---- how many nodes that takes

-- one for a node that has no pattern; for one that has, by its replacement
abbrev pub needed_by : Option NodeReplacement → ℕ
needed_by None = 1
needed_by (Some (right.Operand o)) = 0
needed_by (Some right.Zero) = 1
needed_by (Some (right.Extension kind a)) = 1
needed_by (Some (right.Slice x start)) = 2
needed_by (Some (right.LongerSlice x start width)) = 2
needed_by (Some (right.Operation o a b least)) = 4
needed_by (Some (right.Comparison o a b least)) = 3

abbrev pub needed_of : Option Operand → Option NodeReplacement → ℕ
needed_of (Some o) r = 0
needed_of None r = needed_by r

-- at most: none for a select of one operand, else what its replacement takes
abbrev pub nodes_needed : IrType → List Node → Node → ℕ
nodes_needed state nodes n = needed_of (choice_of nodes n) (replacement_of state nodes n)
