use Rattle.block_build.proofs.OnNetlist.OnOperating.{signed_put}
use Rattle.block_build.proofs.netlist.operators.signed.Goals as goal

pub returns : goal.returns
returns c = signed_put c.driven.result c.args.wires.now c.named.new.self c.named-2.new.self c.driven.new.self c.args.order c.args.a c.args.b c.in_ok-first.first c.in_ok-second.second c.in_ok-first.ensures c.in_ok-second.ensures c.driven.ensures
