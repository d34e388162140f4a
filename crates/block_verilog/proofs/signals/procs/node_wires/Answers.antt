use Rattle.std.proofs.Common.{refl, take, ap, arith}
use Rattle.block_verilog.proofs.OnSignals.OnProcs.{none_made, one_made, all_made}
use Rattle.block_verilog.proofs.signals.procs.node_wires.Goals as goal

pub nodes-init : goal.nodes-init
nodes-init c = none_made c.args.wires.now c.args.channels.now c.args.proc.now c.args.staging.stage.now c.args.registers.now c.args.views.now _ c.in_ok-state.ensures c.new.ensures c.new-2.ensures

pub nodes-preserved : goal.nodes-preserved
nodes-preserved c =
    one_made c.args.wires.now c.nodes.wires c.own_signals.new.wires c.args.channels.now c.args.proc.now c.args.staging.stage.now c.args.registers.now c.args.views.now c.nodes.made c.keep.new.made _ c.of_site-site.result c.in_ok-own.own
    c.nodes.i c.of-stage.result c.copies_of.result c.len.result c.is_literal.result c.index-nodes-i.result c.as_slice-nodes.result.now
    c.as_slice-nodes.ensures c.nodes-test.true c.index-nodes-i.is
    (record { of = refl; state = refl; before = ap (take c.nodes.i) c.as_slice-nodes.ensures; places = refl; stage = c.of-stage.ensures })
    c.len.ensures c.of_site-site.ensures c.of-stage.ensures c.copies_of.ensures c.is_literal.ensures c.in_ok-keep.ensures c.nodes.invariant c.in_ok-own.ensures.put c.in_ok-own.ensures.count

pub returns : goal.returns
returns c =
    all_made c.args.wires.now c.nodes.wires c.args.channels.now c.args.proc.now c.args.staging.stage.now c.args.registers.now c.args.views.now c.nodes.made c.nodes.i c.as_slice-nodes.result.now c.as_slice-nodes.ensures
    (omega (arith, c.nodes-test.false, c.nodes.auto.i-end)) c.nodes.invariant
