use Rattle.std.proofs.Common.{ap, ◌∙◌, ◌++◌, subst}
use Rattle.block_build.specs.Netlist.ProcRegisters.{site_registers, site_at}
use Rattle.block_build.specs.Netlist.Registers.{next_register, Lays}
use Rattle.block_build.proofs.OnNetlist.OnLaying.{sites_begun, sites_more, sites_done}
use Rattle.block_build.proofs.netlist.layout.lay_sites.Goals as goal

pub nodes-init : goal.nodes-init
nodes-init c = sites_begun c.args.registers.now c.args.channels.now c.args.nodes.now _ c.new-sites.ensures.items

pub nodes-preserved : goal.nodes-preserved
nodes-preserved c =
    sites_more c.args.registers.now c.nodes.registers c.lay_site.new.registers c.args.channels.now c.args.nodes.now c.nodes.i c.index-nodes-i.result c.nodes.sites.items c.lay_site.new.sites.items c.nodes-test.true c.index-nodes-i.is c.nodes.invariant
    (c.in_ok-lay_site.ensures.sites ∙ ap (λ r. c.nodes.sites.items ++ site_at (next_register c.nodes.registers) r) c.role.ensures)
    (subst (λ r. Lays c.nodes.registers c.lay_site.new.registers (site_registers c.args.channels.now r)) c.role.ensures c.in_ok-lay_site.ensures.lays)

pub returns : goal.returns
returns c =
    let d = sites_done c.args.registers.now c.nodes.registers c.args.channels.now c.args.nodes.now c.nodes.i c.nodes.sites.items c.nodes-test.false c.nodes.invariant in
    record { sites = d.0; lays = d.1 }
