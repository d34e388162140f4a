use Rattle.pass_narrow.proofs.Standing.{zero_part}
use Rattle.pass_narrow.proofs.rewritten_node.last_part.Goals as goal

pub returns-in-Zero-clause-stands : goal.returns-in-Zero-clause-stands
returns-in-Zero-clause-stands c = zero_part c.zero_of.result c.args.nodes.now c.args.right c.args.part c.in-Zero.is c.zero_of.ensures
