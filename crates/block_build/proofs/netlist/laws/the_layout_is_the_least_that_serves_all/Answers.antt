use Rattle.block_build.proofs.OnNetlist.OnLayout.{copies_are_counted, the_layout_serves_all, the_layout_is_least}
use Rattle.block_build.proofs.netlist.laws.the_layout_is_the_least_that_serves_all.Goals as goal

pub returns-clause-serves : goal.returns-clause-serves
returns-clause-serves c = the_layout_serves_all

pub returns-clause-least : goal.returns-clause-least
returns-clause-least c = the_layout_is_least

pub returns-clause-count : goal.returns-clause-count
returns-clause-count c = copies_are_counted
