use Rattle.pass_narrow.proofs.Standing.{is_before, is_within}
use Rattle.pass_narrow.proofs.rewritten_node.inner_slice.Goals as goal

pub returns-in-Some-clause-before : goal.returns-in-Some-clause-before
returns-in-Some-clause-before c = is_before c.args.state.now c.args.nodes.now c.args.part c.in-Some.right c.inner_part.result c.requires c.in-Some.ensures c.inner_part.ensures

pub returns-in-Some-clause-within : goal.returns-in-Some-clause-within
returns-in-Some-clause-within c = is_within c.args.state.now c.args.nodes.now c.args.part c.in-Some.right c.inner_part.result c.requires c.in-Some.ensures c.inner_part.ensures
