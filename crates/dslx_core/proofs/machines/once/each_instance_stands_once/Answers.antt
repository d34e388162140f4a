use Rattle.dslx_core.proofs.OnMachines.OnOnce.Machines.{machine_once}
use Rattle.dslx_core.proofs.OnMachines.OnOnce.Tables.{none_yet}
use Rattle.dslx_core.proofs.machines.once.each_instance_stands_once.Goals as goal

pub returns-clause-machine : goal.returns-clause-machine
returns-clause-machine c = machine_once

pub returns-clause-empty : goal.returns-clause-empty
returns-clause-empty c = none_yet
