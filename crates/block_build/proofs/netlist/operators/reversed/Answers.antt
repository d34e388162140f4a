use Rattle.block_build.proofs.OnNetlist.OnOperating.{reversed_put}
use Rattle.block_build.proofs.netlist.operators.reversed.Goals as goal

pub returns : goal.returns
returns c =
    reversed_put c.simple.result c.args.wires.now c.named.new.self c.bits_of.new.wires c.simple.new.self c.args.width c.args.a c.in_ok-signal.signal c.in_ok-bits.bits.items c.from_vec.result
    c.in_ok-signal.ensures c.in_ok-bits.ensures.signals c.in_ok-bits.ensures.puts c.from_vec.ensures c.simple.ensures
