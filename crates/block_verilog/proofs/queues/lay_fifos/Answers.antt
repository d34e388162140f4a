use Rattle.std.proofs.Common.{subst}
use Rattle.block_build.specs.Netlist.Registers.{Lays}
use Rattle.block_verilog.specs.Ports.{flat_bits}
use Rattle.block_verilog.specs.Queues.{fifo_registers}
use Rattle.block_verilog.proofs.OnQueues.{fifos_begun, fifos_more, fifos_done}
use Rattle.block_verilog.proofs.queues.lay_fifos.Goals as goal

pub channels-init : goal.channels-init
channels-init c = fifos_begun c.args.registers.now c.args.depths.now c.args.channels.now _ c.new-fifos.ensures.items

pub channels-preserved : goal.channels-preserved
channels-preserved c =
    fifos_more c.args.registers.now c.channels.registers c.lay_channel.new.registers c.args.depths.now c.args.channels.now c.channels.i c.depth_at-depth.result c.index-channels-i.result c.in_ok-fifo.fifo c.channels.fifos.items c.push.new.self.items
    c.channels-test.true c.index-channels-i.is c.depth_at-depth.ensures c.channels.invariant c.in_ok-fifo.ensures.fifo
    (subst (λ d. Lays c.channels.registers c.lay_channel.new.registers (fifo_registers c.index-channels-i.result.ends d (flat_bits c.index-channels-i.result))) c.depth_at-depth.ensures c.in_ok-fifo.ensures.lays) c.in_ok-push.ensures.items

pub returns : goal.returns
returns c =
    let d = fifos_done c.args.registers.now c.channels.registers c.args.depths.now c.args.channels.now c.channels.i c.channels.fifos.items c.channels-test.false c.channels.invariant in
    record { fifos = d.0; lays = d.1 }
