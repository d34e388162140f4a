use Rattle.block_build.proofs.OnNetlist.OnChoices.{registers_carry_on}
use Rattle.block_build.proofs.netlist.holding.registers_carry_on.Goals as goal

pub returns : goal.returns
returns c = registers_carry_on
