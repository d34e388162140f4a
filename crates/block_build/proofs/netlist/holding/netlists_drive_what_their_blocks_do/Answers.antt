use Rattle.block_build.proofs.OnNetlist.OnRuns.{netlists_drive_what_blocks_do}
use Rattle.block_build.proofs.netlist.holding.netlists_drive_what_their_blocks_do.Goals as goal

pub returns : goal.returns
returns c = netlists_drive_what_blocks_do
