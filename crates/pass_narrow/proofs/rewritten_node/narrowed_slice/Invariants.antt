use Rattle.std.proofs.Common.{◌≡◌}
use Rattle.ir_tree.specs.declared.node.Node.{Node}
use Rattle.pass_narrow.specs.Inner.Meant.{IsSliceOf}
use Rattle.pass_narrow.specs.Slices.{depth, innermost}
use Rattle.pass_narrow.proofs.rewritten_node.narrowed_slice.Given as goal

abbrev pub invariant-parts : goal.invariant-parts
invariant-parts l =
    ((n : Node) → IsSliceOf l.state l.nodes n l.fn.part → IsSliceOf l.state l.nodes n l.within)
    × (innermost l.state l.nodes l.within ≡ innermost l.state l.nodes l.fn.part)

abbrev pub decreases-parts : goal.decreases-parts
decreases-parts l = depth l.within.operand
