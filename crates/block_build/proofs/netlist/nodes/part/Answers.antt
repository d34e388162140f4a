use Rattle.std.proofs.Common.{sym}
use Rattle.block_build.proofs.OnNetlist.OnSelections.{part_put, no_part}
use Rattle.block_build.proofs.netlist.nodes.part.Goals as goal

pub returns-in-Some : goal.returns-in-Some
returns-in-Some c = part_put c.part.result c.args.scope c.args.operands.now c.in-Some.tuple.now c.args.index (sym c.in-Some.ensures) c.part.ensures

pub returns-in-None : goal.returns-in-None
returns-in-None c = no_part c.args.scope c.args.operands.now c.args.index c.new.result (sym c.in-None.ensures)
