use Rattle.block_build.proofs.OnNetlist.OnNodeValues.{values_agree}
use Rattle.block_build.proofs.OnNetlist.OnNodes.{nodes_are_shown}
use Rattle.block_build.proofs.netlist.values.nodes_show_values.Goals as goal

pub returns-clause-shown : goal.returns-clause-shown
returns-clause-shown c = nodes_are_shown

pub returns-clause-agree : goal.returns-clause-agree
returns-clause-agree c = values_agree
