use Rattle.block_build.proofs.OnNetlist.OnChains.{shake_put}
use Rattle.block_build.proofs.netlist.sites.shake.Goals as goal

pub returns : goal.returns
returns c =
    let s = shake_put c.args.wires.now c.inverse.new.self c.both.new.self c.both-2.new.self c.both-3.new.self c.pass.new.wires c.args.ready c.args.site c.in_ok-undone.undone c.in_ok-due.due c.in_ok-asserted.asserted c.in_ok-goes.goes c.in_ok-ready.ready
    c.in_ok-undone.ensures c.in_ok-due.ensures c.in_ok-asserted.ensures c.in_ok-goes.ensures c.in_ok-ready.ensures.signal c.in_ok-ready.ensures.puts in
    record { signals = s.signals; puts = s.puts }
