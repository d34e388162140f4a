use Rattle.block_build.proofs.OnNetlist.OnStages.{control_shows_the_cycle, control_shows_the_next_bits}
use Rattle.block_build.proofs.netlist.laws.control_is_the_machines.Goals as goal

pub returns-clause-now : goal.returns-clause-now
returns-clause-now c = control_shows_the_cycle

pub returns-clause-next : goal.returns-clause-next
returns-clause-next c = control_shows_the_next_bits
