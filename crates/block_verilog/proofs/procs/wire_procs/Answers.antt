use Rattle.std.proofs.Common.{arith}
use Rattle.block_verilog.specs.Pipelines.Pipelines.{scheduled}
use Rattle.block_verilog.proofs.OnProcs.{scheduled_is, made_begun, made_more, made_done}
use Rattle.block_verilog.proofs.procs.wire_procs.Goals as goal

pub procs-init : goal.procs-init
procs-init c = made_begun c.args.wires.now c.args.run c.args.channels.now c.args.procs.now c.args.schedules.now c.args.layouts.now c.args.views.now _ c.new-made.ensures.items

pub procs-preserved : goal.procs-preserved
procs-preserved c =
    made_more c.args.wires.now c.procs.wires c.proc_wires.new.wires c.args.run c.args.channels.now c.args.procs.now c.args.schedules.now c.args.layouts.now c.args.views.now c.procs.i c.index-procs-i.result c.index-schedules-i.result
    (scheduled c.args.channels.now c.index-procs-i.result c.staging-schedule.result) c.index-layouts-i.result c.in_ok-one.one c.procs.made.items c.push.new.self.items (omega (arith, c.procs-test.true, c.min-count.ensures, c.min.ensures))
    (omega (arith, c.procs-test.true, c.min-count.ensures, c.min.ensures)) (omega (arith, c.procs-test.true, c.min-count.ensures, c.min.ensures)) c.index-procs-i.is c.index-schedules-i.is c.index-layouts-i.is
    (scheduled_is c.args.channels.now c.index-procs-i.result c.staging-schedule.result c.index-schedules-i.result c.staging-schedule.ensures.stage c.staging-schedule.ensures.stages c.staging-schedule.ensures.last) c.procs.invariant c.in_ok-push.ensures.items c.in_ok-one.ensures

pub returns : goal.returns
returns c = λ layouts schedules.
    made_done c.args.wires.now c.procs.wires c.args.run c.args.channels.now c.args.procs.now c.args.schedules.now c.args.layouts.now c.args.views.now c.procs.i c.procs.made.items
    (omega (arith, c.procs-test.false, c.procs.auto.i-end, c.min-count.ensures, c.min.ensures, layouts, schedules)) c.procs.invariant
