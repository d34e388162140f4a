use Rattle.ir_tree.proofs.OnRules.OnTyped.Packages.{is_net, are_behaviors}
use Rattle.ir_tree.proofs.rules.typed.laws.procs_fit_their_network.Goals as goal

pub returns-clause-net : goal.returns-clause-net
returns-clause-net c = is_net

pub returns-clause-procs : goal.returns-clause-procs
returns-clause-procs c = are_behaviors
