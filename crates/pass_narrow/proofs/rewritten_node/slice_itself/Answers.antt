use Rattle.pass_narrow.proofs.Standing.{slice_stands, long_slice_stands}
use Rattle.pass_narrow.proofs.NormalSides.{slice_narrow, slice_narrow_inside}
use Rattle.pass_narrow.proofs.rewritten_node.slice_itself.Goals as goal

pub returns-then-part-clause-stands : goal.returns-then-part-clause-stands
returns-then-part-clause-stands c = λ state nodes n. slice_stands state nodes n c.in_ok-node.node c.args.part c.in_ok-node.ensures c.if-part.true

pub returns-then-part-clause-normal : goal.returns-then-part-clause-normal
returns-then-part-clause-normal c = λ state nodes n. slice_narrow state nodes n c.in_ok-node.node c.args.part c.in_ok-node.ensures

pub returns-else-part-clause-stands : goal.returns-else-part-clause-stands
returns-else-part-clause-stands c = λ state nodes n. long_slice_stands state nodes n c.in_ok-node.node c.args.part c.in_ok-node.ensures c.if-part.false

pub returns-else-part-clause-normal : goal.returns-else-part-clause-normal
returns-else-part-clause-normal c = λ state nodes n. slice_narrow_inside state nodes n c.in_ok-node.node c.args.part c.in_ok-node.ensures
