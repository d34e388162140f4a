use Rattle.ir_tree.proofs.OnRules.OnSame.Openings.{opens, events}
use Rattle.ir_tree.proofs.rules.same.laws.same_procs_come_to_the_same_events.Goals as goal

pub returns : goal.returns
returns c = record { stands = opens; event = events }
