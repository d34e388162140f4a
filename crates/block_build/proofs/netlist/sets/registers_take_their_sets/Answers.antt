use Rattle.block_build.proofs.OnNetlist.OnRegisters.{sets_are_taken}
use Rattle.block_build.proofs.netlist.sets.registers_take_their_sets.Goals as goal

pub returns : goal.returns
returns c = sets_are_taken
