use Rattle.block_build.proofs.OnNetlist.OnTurns.{turns_are_read}
use Rattle.block_build.proofs.netlist.laws.signals_are_right_as_far_as_an_activation_comes.Goals as goal

pub returns : goal.returns
returns c = turns_are_read
