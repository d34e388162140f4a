use Rattle.ir_eval.proofs.OnOutcomes.Outcomes.{behaviors_outcome, network_outcome, package_outcome}
use Rattle.ir_eval.proofs.outcomes.laws.same_behavior_has_the_same_outcomes.Goals as goal

pub returns-clause-network : goal.returns-clause-network
returns-clause-network c = network_outcome c.same_procs_come_to_the_same_events.ensures.event

pub returns-clause-packages : goal.returns-clause-packages
returns-clause-packages c = package_outcome c.same_procs_come_to_the_same_events.ensures.event

pub returns-clause-behaviors : goal.returns-clause-behaviors
returns-clause-behaviors c = behaviors_outcome c.same_procs_come_to_the_same_events.ensures.event
