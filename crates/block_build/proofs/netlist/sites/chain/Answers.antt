use Rattle.block_build.proofs.OnNetlist.OnChains.{chain_begun, chain_more, chain_done}
use Rattle.block_build.proofs.netlist.sites.chain.Goals as goal

pub sites-init : goal.sites-init
sites-init c = chain_begun c.args.wires.now c.args.acts c.args.sites.now c.args.shaken.now.items

pub sites-preserved : goal.sites-preserved
sites-preserved c =
    chain_more c.args.wires.now c.sites.wires c.shake.new.wires c.args.acts c.sites.ready c.args.sites.now c.sites.i c.index-sites-i.result c.args.shaken.now.items c.sites.shaken.items c.push.new.self.items
    c.in_ok-handshake.handshake c.sites-test.true c.index-sites-i.is c.sites.invariant c.in_ok-handshake.ensures.signals c.in_ok-handshake.ensures.puts c.in_ok-push.ensures.items

pub returns : goal.returns
returns c =
    let d = chain_done c.args.wires.now c.sites.wires c.args.acts c.sites.ready c.args.sites.now c.sites.i c.args.shaken.now.items c.sites.shaken.items c.sites-test.false c.sites.invariant in
    record { signals = d.signals; wired = d.wired; number = d.number; passed = d.passed }
