use Rattle.block_build.proofs.OnNetlist.OnRanges.{wires_carry_their_words}
use Rattle.block_build.proofs.netlist.laws.wires_carry_words.Goals as goal

pub returns : goal.returns
returns c = wires_carry_their_words
