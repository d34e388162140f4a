use Rattle.block_build.proofs.OnNetlist.OnServing.{operands_have_types}
use Rattle.block_build.proofs.netlist.holding.operands_have_types.Goals as goal

pub returns : goal.returns
returns c = operands_have_types
