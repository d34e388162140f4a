use Rattle.std.proofs.Common.{arith, ap, length, ◌≡◌}
use Rattle.block_verilog.specs.Pipelines.Pipelines.{scheduled}
use Rattle.block_verilog.proofs.OnProcs.{scheduled_is, next_begun, next_step, next_done, made_long}
use Rattle.block_verilog.proofs.procs.next_procs.Goals as goal

pub procs-init : goal.procs-init
procs-init c = λ channels each are stages. next_begun c.args.wires.now channels c.args.procs.now c.args.schedules.now c.args.layouts.now each c.args.nexts.now.items

pub procs-preserved : goal.procs-preserved
procs-preserved c = λ channels each are stages.
    next_step c.args.wires.now c.procs.wires c.proc_nexts.new.wires channels c.args.procs.now c.args.schedules.now c.args.layouts.now c.args.made.now each c.procs.i c.index-procs-i.result c.index-schedules-i.result c.staging-schedule.result c.index-layouts-i.result c.index-made-i.result
    c.args.nexts.now.items c.procs.nexts.items c.proc_nexts.new.nexts.items (omega (arith, c.procs-test.true, c.min-count.ensures, c.min.ensures, c.min-2.ensures)) (omega (arith, c.procs-test.true, c.min-count.ensures, c.min.ensures, c.min-2.ensures))
    (omega (arith, c.procs-test.true, c.min-count.ensures, c.min.ensures, c.min-2.ensures)) (omega (arith, c.procs-test.true, c.min-count.ensures, c.min.ensures, c.min-2.ensures)) c.index-procs-i.is c.index-schedules-i.is c.index-layouts-i.is c.index-made-i.is
    (scheduled_is channels c.index-procs-i.result c.staging-schedule.result c.index-schedules-i.result c.staging-schedule.ensures.stage c.staging-schedule.ensures.stages c.staging-schedule.ensures.last) are stages (c.procs.invariant channels each are stages) c.in_ok-proc_nexts.ensures

pub returns : goal.returns
returns c = λ channels each are layouts schedules many stages.
    next_done c.args.wires.now c.procs.wires channels c.args.procs.now c.args.schedules.now c.args.layouts.now each c.procs.i c.args.nexts.now.items c.procs.nexts.items
    (let long = made_long each c.args.made.now are in omega (arith, c.procs-test.false, c.procs.auto.i-end, c.min-count.ensures, c.min.ensures, c.min-2.ensures, layouts, schedules, many, long)) (c.procs.invariant channels each are stages)
