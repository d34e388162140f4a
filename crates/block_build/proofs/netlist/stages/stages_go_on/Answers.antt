use Rattle.block_build.proofs.OnNetlist.OnControl.{stages_go}
use Rattle.block_build.proofs.netlist.stages.stages_go_on.Goals as goal

pub returns : goal.returns
returns c = stages_go
