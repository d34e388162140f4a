use Rattle.std.proofs.Common.{arith}
use Rattle.block_verilog.specs.Pipelines.Pipelines.{scheduled}
use Rattle.block_verilog.proofs.OnProcs.{scheduled_is, procs_begun, procs_more, procs_done}
use Rattle.block_verilog.proofs.procs.lay_procs.Goals as goal

pub procs-init : goal.procs-init
procs-init c = procs_begun c.args.registers.now c.args.channels.now c.args.procs.now c.args.schedules.now _ c.new-layouts.ensures.items

pub procs-preserved : goal.procs-preserved
procs-preserved c =
    procs_more c.args.registers.now c.procs.registers c.lay_out.new.registers c.args.channels.now c.args.procs.now c.args.schedules.now c.procs.i c.index-procs-i.result c.index-schedules-i.result
    (scheduled c.args.channels.now c.index-procs-i.result c.staging-schedule.result) c.in_ok-layout.layout c.procs.layouts.items c.push.new.self.items (omega (arith, c.procs-test.true, c.min-count.ensures)) (omega (arith, c.procs-test.true, c.min-count.ensures))
    c.index-procs-i.is c.index-schedules-i.is (scheduled_is c.args.channels.now c.index-procs-i.result c.staging-schedule.result c.index-schedules-i.result c.staging-schedule.ensures.stage c.staging-schedule.ensures.stages c.staging-schedule.ensures.last)
    c.procs.invariant c.in_ok-layout.ensures.laid c.in_ok-layout.ensures.lays c.in_ok-push.ensures.items

pub returns : goal.returns
returns c =
    let d = procs_done c.args.registers.now c.procs.registers c.args.channels.now c.args.procs.now c.args.schedules.now c.procs.i c.procs.layouts.items (omega (arith, c.procs-test.false, c.min-count.ensures)) c.procs.invariant in
    record { laid = d.0; lays = d.1 }
