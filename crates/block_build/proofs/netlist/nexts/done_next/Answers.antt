use Rattle.block_build.proofs.OnNetlist.OnNexts.{done_put}
use Rattle.block_build.proofs.netlist.nexts.done_next.Goals as goal

pub returns : goal.returns
returns c =
    let both = done_put c.both.result c.args.wires.now c.either.new.self c.inverse.new.self c.both.new.self c.args.done c.args.goes c.args.moves c.in_ok-acts.acts c.in_ok-stays.stays c.in_ok-acts.ensures c.in_ok-stays.ensures c.both.ensures in
    record { signal = both.0; puts = both.1 }
