use Rattle.block_build.proofs.OnNetlist.OnHolding.{registers_are_read, registers_show_the_cycle, registers_hold_on}
use Rattle.block_build.proofs.OnNetlist.OnResets.{reset_registers_hold}
use Rattle.block_build.proofs.netlist.holding.registers_hold_the_machines.Goals as goal

pub returns-clause-read : goal.returns-clause-read
returns-clause-read c = registers_are_read

pub returns-clause-now : goal.returns-clause-now
returns-clause-now c = registers_show_the_cycle

pub returns-clause-next : goal.returns-clause-next
returns-clause-next c = registers_hold_on

pub returns-clause-reset : goal.returns-clause-reset
returns-clause-reset c = reset_registers_hold
