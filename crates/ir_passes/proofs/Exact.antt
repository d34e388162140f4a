-- What the rules make of a node, in what calls answer, and how many nodes that is.
use Rattle.std.proofs.Common.{◌≡◌, ℕ, suc, ◌+◌, ◌≤◌, List, [], ◌∷◌, length, Bool, true, false, Option, Some, None, sym, ap, ap₂, subst, ◌∙◌, arith, length-append}
use Rattle.std.specs.Prelude.{nat_eq, if◌then◌else◌}
use Rattle.delay_model.specs.declared.op.Extend.TheVariants as extend
use Rattle.ir_tree.specs.declared.ir_type.IrType.{IrType}
use Rattle.ir_tree.specs.declared.node.Operand.{Operand}
use Rattle.ir_tree.specs.declared.node.Operand.TheVariants as operand
use Rattle.ir_tree.specs.declared.node.Node.{Node}
use Rattle.ir_tree.specs.NodeTypes.Types.{bits_width}
use Rattle.ir_rebuild.specs.Built.{numbered}
use Rattle.ir_rebuild.specs.Normal.Normal.{AreNormal}
use Rattle.pass_fold.specs.Settled.{IsFolded, settled_node}
use Rattle.pass_narrow.specs.declared.rewritten_node.RewrittenNode.{RewrittenNode}
use Rattle.pass_narrow.specs.declared.rewritten_node.RewrittenNode.TheVariants as rewritten_node
use Rattle.pass_narrow.specs.declared.node_pattern.NodeReplacement.{NodeReplacement}
use Rattle.pass_narrow.specs.declared.node_pattern.NodeReplacement.TheVariants as right
use Rattle.pass_narrow.specs.Nodes.{extension_node, comparison_node, zero_node}
use Rattle.pass_narrow.specs.Views.{width_in}
use Rattle.pass_narrow.specs.Replacements.{replacement_of}
use Rattle.pass_narrow.specs.Narrowings.{Grown, and_node, made_longer, narrowing_by, narrowing_of, IsNarrowing}
use Rattle.pass_select.specs.Choices.{choice_of}
use Rattle.ir_passes.specs.Simplified.{settle, settle_answer, simplify_by, simplify, IsGrown, needed_by, needed_of, nodes_needed}
use Rattle.ir_passes.specs.Simplifies.{Simplifies}

-- ---- how many nodes

one_more : (nodes : List Node) (n : Node) → length (and_node nodes n) ≡ suc (length nodes)
one_more nodes n = omega (arith, length-append nodes (numbered (length nodes) n ∷ []))

answer_count : (nodes : List Node) (x : RewrittenNode) → length (settle_answer nodes x).nodes ≤ length nodes + 2
answer_count nodes (rewritten_node.Operand o) = omega arith
answer_count nodes (rewritten_node.Node m) = omega (arith, one_more nodes (settled_node nodes m))
answer_count nodes (rewritten_node.Extended m w) =
    let one = settle nodes m in
    let x = extension_node extend.Zero one.operand w in
    omega (arith, one_more nodes (settled_node nodes m), one_more one.nodes (settled_node one.nodes x))

abbrev longer_if : List Node → Operand → ℕ → Bool → Grown
longer_if nodes o w b = if b then (record { nodes = nodes; operand = o }) else (record { nodes = and_node nodes (extension_node extend.Zero o w); operand = operand.Node (length nodes) })

longer_count : (state : IrType) (nodes : List Node) (o : Operand) (w : ℕ) → length (made_longer state nodes o w).nodes ≤ length nodes + 1
longer_count state nodes o w = by (nat_eq (width_in state nodes o) w)
  where
    by : (b : Bool) → length (longer_if nodes o w b).nodes ≤ length nodes + 1
    by true = omega arith
    by false = omega (arith, one_more nodes (extension_node extend.Zero o w))

pair_count : (state : IrType) (nodes : List Node) (a b : Operand) (w : ℕ) → length (made_longer state (made_longer state nodes a w).nodes b w).nodes ≤ length nodes + 2
pair_count state nodes a b w =
    let first = longer_count state nodes a w in
    let second = longer_count state (made_longer state nodes a w).nodes b w in
    omega (arith, first, second)

side_count : (state : IrType) (nodes : List Node) (n : Node) (r : Option NodeReplacement) → length (settle_answer (narrowing_by state nodes n r).nodes (narrowing_by state nodes n r).answer).nodes ≤ length nodes + needed_by r
side_count state nodes n None = omega (arith, one_more nodes (settled_node nodes n))
side_count state nodes n (Some (right.Operand o)) = omega arith
side_count state nodes n (Some right.Zero) = omega (arith, one_more nodes (settled_node nodes (zero_node (bits_width n.ty))))
side_count state nodes n (Some (right.Extension kind a)) = omega (arith, one_more nodes (settled_node nodes (extension_node kind a (bits_width n.ty))))
side_count state nodes n (Some (right.Slice x start)) = answer_count nodes (narrowing_by state nodes n (Some (right.Slice x start))).answer
side_count state nodes n (Some (right.LongerSlice x start width)) = answer_count nodes (narrowing_by state nodes n (Some (right.LongerSlice x start width))).answer
side_count state nodes n (Some (right.Operation o a b least)) =
    let g = narrowing_by state nodes n (Some (right.Operation o a b least)) in
    let first : length g.nodes ≤ length nodes + 2 = pair_count state nodes a b least in
    let second = answer_count g.nodes g.answer in
    omega (arith, first, second)
side_count state nodes n (Some (right.Comparison o a b least)) =
    let g = narrowing_by state nodes n (Some (right.Comparison o a b least)) in
    let x = made_longer state nodes a least in
    let y = made_longer state x.nodes b least in
    let first : length g.nodes ≤ length nodes + 2 = pair_count state nodes a b least in
    let second : length (settle_answer g.nodes g.answer).nodes ≡ suc (length g.nodes) = one_more g.nodes (settled_node g.nodes (comparison_node o x.operand y.operand)) in
    omega (arith, first, second)

choice_count : (state : IrType) (nodes : List Node) (n : Node) (q : Option Operand) → length (simplify_by state nodes n q).nodes ≤ length nodes + needed_of q (replacement_of state nodes n)
choice_count state nodes n (Some o) = omega arith
choice_count state nodes n None = side_count state nodes n (replacement_of state nodes n)

most_by : (r : Option NodeReplacement) → needed_by r ≤ 4
most_by None = omega arith
most_by (Some (right.Operand o)) = omega arith
most_by (Some right.Zero) = omega arith
most_by (Some (right.Extension kind a)) = omega arith
most_by (Some (right.Slice x start)) = omega arith
most_by (Some (right.LongerSlice x start width)) = omega arith
most_by (Some (right.Operation o a b least)) = omega arith
most_by (Some (right.Comparison o a b least)) = omega arith

-- no node needs more than four
pub at_most_four : (q : Option Operand) (r : Option NodeReplacement) → needed_of q r ≤ 4
at_most_four (Some o) r = omega arith
at_most_four None r = most_by r

-- ---- what calls answer

pub simplifies : (state : IrType) (old new : List Node) (n : Node) (o : Operand) → IsGrown new o (simplify state old n) → (AreNormal state old → AreNormal state new) → Simplifies state old new n o
simplifies state old new n o is normal = record {
  is = is;
  normal = normal;
  few = subst (λ ns. length ns ≤ length old + nodes_needed state old n) (sym is.0) (choice_count state old n (choice_of old n));
}

-- a node that chooses no operand
pub by_narrowing : (state : IrType) (old mid new : List Node) (n : Node) (x : RewrittenNode) (o : Operand) → choice_of old n ≡ None → IsNarrowing mid x (narrowing_of state old n) → IsGrown new o (settle_answer mid x) → IsGrown new o (simplify state old n)
by_narrowing state old mid new n x o none is g = (
  g.0 ∙ ap₂ (λ ns y. (settle_answer ns y).nodes) is.0 is.1 ∙ ap (λ q. (simplify_by state old n q).nodes) (sym none),
  g.1 ∙ ap₂ (λ ns y. (settle_answer ns y).operand) is.0 is.1 ∙ ap (λ q. (simplify_by state old n q).operand) (sym none),
)

-- an operand that is always chosen
pub by_choice : (state : IrType) (old : List Node) (n : Node) (o : Operand) → choice_of old n ≡ Some o → IsGrown old o (simplify state old n)
by_choice state old n o e = (ap (λ q. (simplify_by state old n q).nodes) (sym e), ap (λ q. (simplify_by state old n q).operand) (sym e))

-- a node and its extension by zeros
pub extended_grown : (mid one all : List Node) (m x : Node) (w : ℕ) (o p : Operand) → IsFolded mid one m o → x ≡ extension_node extend.Zero o w → IsFolded one all x p → IsGrown all p (settle_answer mid (rewritten_node.Extended m w))
extended_grown mid one all m x w o p first e second =
    let same = e ∙ ap (λ q. extension_node extend.Zero q w) first.1 in (
      second.0 ∙ ap₂ (λ ns y. (settle ns y).nodes) first.0 same,
      second.1 ∙ ap₂ (λ ns y. (settle ns y).operand) first.0 same,
    )
