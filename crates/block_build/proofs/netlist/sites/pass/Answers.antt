use Rattle.block_build.proofs.OnNetlist.OnChains.{pass_put}
use Rattle.block_build.proofs.netlist.sites.pass.Goals as goal

pub returns : goal.returns
returns c =
    let both = pass_put c.both.result c.args.wires.now c.inverse.new.self c.either.new.self c.both.new.self c.args.ready c.args.due c.args.goes c.in_ok-closed.closed c.in_ok-passed.passed c.in_ok-closed.ensures c.in_ok-passed.ensures c.both.ensures in
    record { signal = both.0; puts = both.1 }
