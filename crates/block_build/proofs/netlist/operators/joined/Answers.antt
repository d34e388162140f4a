use Rattle.block_build.proofs.OnNetlist.OnOperating.{joined_put}
use Rattle.block_build.proofs.netlist.operators.joined.Goals as goal

pub returns : goal.returns
returns c = joined_put c.simple.result c.args.wires.now c.simple.new.self c.args.width c.in_ok-parts.parts c.args.atoms.now c.in_ok-parts.ensures c.simple.ensures
