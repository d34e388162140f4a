use Rattle.std.proofs.Common.{arith}
use Rattle.block_verilog.proofs.OnQueues.{nexts_begun, nexts_more, nexts_done}
use Rattle.block_verilog.proofs.queues.fifo_nexts.Goals as goal

pub channels-init : goal.channels-init
channels-init c = λ shown. nexts_begun c.args.wires.now c.args.fifos.now c.args.views.now c.args.ends.now c.args.nexts.now.items

pub channels-preserved : goal.channels-preserved
channels-preserved c = λ shown.
    nexts_more c.args.wires.now c.channels.wires c.fifo_next.new.wires c.args.fifos.now c.args.views.now c.args.ends.now c.channels.i c.index-fifos-i.result c.index-views-i.result c.index-ends-i.result c.args.nexts.now.items c.channels.nexts.items c.fifo_next.new.nexts.items
    (omega (arith, c.channels-test.true, c.min-count.ensures, c.min.ensures)) (omega (arith, c.channels-test.true, c.min-count.ensures, c.min.ensures)) (omega (arith, c.channels-test.true, c.min-count.ensures, c.min.ensures))
    c.index-fifos-i.is c.index-views-i.is c.index-ends-i.is shown (c.channels.invariant shown) c.in_ok-fifo_next.ensures.nexts c.in_ok-fifo_next.ensures.wired

pub returns : goal.returns
returns c = λ shown.
    nexts_done c.args.wires.now c.channels.wires c.args.fifos.now c.args.views.now c.args.ends.now c.channels.i c.args.nexts.now.items c.channels.nexts.items
    (omega (arith, c.channels-test.false, c.min-count.ensures, c.min.ensures, c.channels.auto.i-end)) (c.channels.invariant shown)
