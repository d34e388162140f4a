use Rattle.ir_lower_nodes.proofs.OnActs.OnParts.{nodes_append, steps_append, steps_end}
use Rattle.ir_lower_nodes.proofs.acts.laws.activities_go_on.Goals as goal

pub returns-clause-nodes : goal.returns-clause-nodes
returns-clause-nodes c = λ ir s xs ys rest. nodes_append ir s xs ys rest

pub returns-clause-steps : goal.returns-clause-steps
returns-clause-steps c = λ calls xs ys rest. steps_append calls xs ys rest

pub returns-clause-end : goal.returns-clause-end
returns-clause-end c = λ calls ss next. steps_end calls ss next
