use Rattle.block_build.proofs.OnNetlist.OnOperating.{quotient_put}
use Rattle.block_build.proofs.netlist.operators.quotient.Goals as goal

pub returns : goal.returns
returns c =
    quotient_put c.driven.result c.args.wires.now c.binary.new.self c.driven.new.self c.args.width c.args.a c.args.b c.zeros.result c.ones.result c.in_ok-some.some
    c.zeros.ensures c.ones.ensures c.in_ok-some.ensures c.driven.ensures
