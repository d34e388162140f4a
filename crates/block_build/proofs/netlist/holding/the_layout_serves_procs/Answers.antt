use Rattle.block_build.proofs.OnNetlist.OnServing.{the_layout_serves_procs}
use Rattle.block_build.proofs.netlist.holding.the_layout_serves_procs.Goals as goal

pub returns : goal.returns
returns c = the_layout_serves_procs
