use Rattle.std.proofs.Common.{arith}
use Rattle.block_build.specs.Netlist.Nexts.{sites_next_wires, sites_next_nets}
use Rattle.block_build.specs.Netlist.Added.{next_number}
use Rattle.block_build.proofs.OnNetlist.OnNexts.{nothing_left, sites_more, sites_done}
use Rattle.block_build.proofs.netlist.nexts.site_nexts.Goals as goal

pub sites-init : goal.sites-init
sites-init c =
    let k = next_number c.args.wires.now in
    nothing_left c.args.wires.now (sites_next_wires k c.args.moves.now c.args.sites.now c.args.handshakes.now) c.args.nexts.now.items (sites_next_nets k c.args.sites.now c.args.handshakes.now)

pub sites-preserved : goal.sites-preserved
sites-preserved c =
    sites_more c.args.wires.now c.sites.wires c.site_next.new.wires c.args.moves.now c.args.sites.now c.args.handshakes.now c.sites.i c.args.nexts.now.items c.sites.nexts.items c.site_next.new.nexts.items c.index-sites-i.result c.index-handshakes-i.result
    c.move_at.result (omega (arith, c.sites-test.true, c.min-count.ensures)) (omega (arith, c.sites-test.true, c.min-count.ensures)) c.index-sites-i.is c.index-handshakes-i.is c.move_at.ensures c.sites.invariant c.in_ok-site_next.ensures.nexts
    c.in_ok-site_next.ensures.puts

pub returns : goal.returns
returns c =
    let d = sites_done c.args.wires.now c.sites.wires c.args.moves.now c.args.sites.now c.args.handshakes.now c.sites.i c.args.nexts.now.items c.sites.nexts.items (omega (arith, c.sites-test.false, c.min-count.ensures)) c.sites.invariant in
    record { nexts = d.0; puts = d.1 }
