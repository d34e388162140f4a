use Rattle.block_build.proofs.OnNetlist.OnOperating.{slice_put}
use Rattle.block_build.proofs.netlist.operators.slice.Goals as goal

pub returns : goal.returns
returns c =
    slice_put c.simple.result c.args.wires.now c.named.new.self c.simple.new.self c.args.all c.args.low c.args.width c.args.a c.in_ok-signal.signal c.part.result
    c.part.ensures c.ranges.all.fits c.in_ok-signal.ensures c.simple.ensures
