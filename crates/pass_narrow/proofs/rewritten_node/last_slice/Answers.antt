use Rattle.pass_narrow.proofs.Standing.{some_part}
use Rattle.pass_narrow.proofs.NormalSides.{some_part_normal}
use Rattle.pass_narrow.proofs.rewritten_node.last_slice.Goals as goal

pub returns-in-Some-clause-stands : goal.returns-in-Some-clause-stands
returns-in-Some-clause-stands c = some_part c.last_part.result c.args.state.now c.args.nodes.now c.in-Some.right c.args.part c.requires c.in-Some.ensures c.last_part.ensures.stands

pub returns-in-Some-clause-normal : goal.returns-in-Some-clause-normal
returns-in-Some-clause-normal c = some_part_normal c.last_part.result c.args.state.now c.args.nodes.now c.in-Some.right c.args.part c.requires c.in-Some.ensures c.last_part.ensures.normal
