use Rattle.block_build.proofs.OnNetlist.OnOperating.{signed_shift_put}
use Rattle.block_build.proofs.netlist.operators.signed_shift.Goals as goal

pub returns : goal.returns
returns c = signed_shift_put c.driven.result c.args.wires.now c.named.new.self c.driven.new.self c.args.width c.args.a c.args.amount c.in_ok-signal.signal c.in_ok-signal.ensures c.driven.ensures
