use Rattle.block_build.proofs.OnNetlist.OnOperating.{remainder_put}
use Rattle.block_build.proofs.netlist.operators.remainder.Goals as goal

pub returns : goal.returns
returns c =
    remainder_put c.driven.result c.args.wires.now c.binary.new.self c.driven.new.self c.args.width c.args.a c.args.b c.zeros-none.result c.in_ok-some.some
    c.zeros-none.ensures c.in_ok-some.ensures c.driven.ensures
