use Rattle.std.proofs.Common.{refl, length, arith}
use Rattle.std.proofs.lemmas.Option.{slice_get_read}
use Rattle.proc_runner.proofs.Tasks.{no_tasks, more_tasks, as_many}
use Rattle.proc_runner.proofs.start.start.Goals as goal

pub new_task-requires-clause-head : goal.new_task-requires-clause-head
new_task-requires-clause-head g c =
    c.requires.run c.loop-p.p c.index-heads-p.result (slice_get_read c.args.heads.now _ c.loop-p.p c.index-heads-p.result refl c.loop-p-test.true c.index-heads-p.is)

pub loop-p-init : goal.loop-p-init
loop-p-init g c = (no_tasks g.H.Runtime.run g.H.Runtime.lines c.args.runtime.now _ c.new-tasks.ensures.items, c.requires.ends, omega arith)

pub loop-p-preserved : goal.loop-p-preserved
loop-p-preserved g c = (
  more_tasks g.H.Runtime.run g.H.Runtime.lines c.args.runtime.now c.loop-p.p c.loop-p.tasks.items c.push.new.self.items c.in_ok-task.task c.loop-p.invariant.0 c.in_ok-push.ensures.items c.in_ok-task.ensures.task.0 c.in_ok-task.ensures.task.1 c.in_ok-task.ensures.task.2,
  c.in_ok-task.ensures.ends,
  omega (arith, c.loop-p-test.true),
)

pub returns : goal.returns
returns g c = as_many g.H.Runtime.run g.H.Runtime.lines c.args.runtime.now c.loop-p.tasks.items c.loop-p.p (length c.args.heads.now) (omega (arith, c.loop-p-test.false, c.loop-p.invariant.2)) c.loop-p.invariant.0
