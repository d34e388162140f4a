use Rattle.std.proofs.Common.{◌≡◌, length, List, sym, ap, subst, ◌∙◌, arith}
use Rattle.ir_tree.specs.declared.package.Proc.{Proc}
use Rattle.pipe_schedule.specs.Packages.{AreSchedules}
use Rattle.pipe_schedule.proofs.Several.{one_more, all_scheduled, first_infeasible, read_at}
use Rattle.pipe_schedule.proofs.package.schedule_package.Goals as goal

pub returns-in-Err-clause-infeasible : goal.returns-in-Err-clause-infeasible
returns-in-Err-clause-infeasible c =
    let there = read_at c.args.ir.now.procs c.as_slice-procs.result.now c.procs.i c.index-procs-i.result c.as_slice-procs.ensures c.procs-test.true c.index-procs-i.is in
    first_infeasible c.args.ir.now.procs c.args.demands c.procs.i c.procs.schedules.items c.index-procs-i.result c.in-Err.cause c.procs.invariant there c.in-Err.ensures.cause

pub procs-preserved : goal.procs-preserved
procs-preserved c =
    let there = read_at c.args.ir.now.procs c.as_slice-procs.result.now c.procs.i c.index-procs-i.result c.as_slice-procs.ensures c.procs-test.true c.index-procs-i.is in
    one_more c.args.ir.now.procs c.args.demands c.procs.i c.procs.schedules.items c.push_schedule.new.schedules.items c.index-procs-i.result c.procs.invariant there c.in-Ok.ensures.pushed

pub returns-clause-schedules : goal.returns-clause-schedules
returns-clause-schedules c =
    let past = c.procs-test.false in
    let most = c.procs.auto.i-end in
    let here : c.procs.i ≡ length c.as_slice-procs.result.now = omega arith in
    let end : c.procs.i ≡ length c.args.ir.now.procs = here ∙ ap (λ (ps : List Proc). length ps) c.as_slice-procs.ensures in
    subst (AreSchedules c.args.ir.now.procs c.args.demands) (sym c.from_vec.ensures) (all_scheduled c.args.ir.now.procs c.args.demands c.procs.i c.procs.schedules.items c.procs.invariant end)
