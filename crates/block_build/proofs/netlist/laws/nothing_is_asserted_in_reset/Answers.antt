use Rattle.block_build.proofs.OnNetlist.OnStages.{nothing_shows_in_reset}
use Rattle.block_build.proofs.netlist.laws.nothing_is_asserted_in_reset.Goals as goal

pub returns : goal.returns
returns c = nothing_shows_in_reset
