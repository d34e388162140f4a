use denote.RattleType.{RattleType}
use denote.Param.Send.{IsSend, sendable}
use Rattle.std.proofs.Common.{◌∙◌}
use Rattle.std.proofs.Crossing.{crosses}
use Rattle.sqlite_items.proofs.items.Items.TheSendSync.{the_send as items}
use Rattle.xb_bits.proofs.bits.Bits.TheSendSync.{the_send as bits}
use Rattle.xb_value.proofs.value.Value.TheLaws.TheKnot.{send-Value}
use Rattle.net_core.proofs.net.Site.TheSendSync as site
use Rattle.proc_task.specs.contracts.task.Task as Task
use Rattle.proc_task.proofs.port.Inlet.TheSendSync.{the_send as inlet}
use Rattle.proc_task.proofs.port.Outlet.TheSendSync.{the_send as outlet}
use Rattle.proc_runner.proofs.Tasks.{are_tasks, tasks_few}
use Rattle.proc_runner.proofs.rounds.run_to_end.Goals as goal

-- a task may go to another thread, as its parts may
task : (S H : RattleType) → IsSend S → IsSend H → IsSend (Task.the_field S H).row
task S H s h =
    let a = outlet S s in
    let b = inlet S s in
    let c = send-Value bits items in
    let d = site.the_field_send in
    search (sendable, crosses) depth 30

pub round-requires-send-T : goal.round-requires-send-T
round-requires-send-T g c κs within = search (sendable, crosses, task) depth 30

pub round-requires-clause-tasks : goal.round-requires-clause-tasks
round-requires-clause-tasks g c κs within = (c.loop.invariant.each, tasks_few g.H.Runtime.run g.H.Runtime.lines c.args.runtime.now _ c.loop.tasks.items c.loop.invariant c.requires.few)

pub outcome-requires-clause-tasks : goal.outcome-requires-clause-tasks
outcome-requires-clause-tasks g c =
    are_tasks g.H.Runtime.run g.H.Runtime.lines c.args.runtime.now _ c.requires.typed (record { each = c.in_ok-over.ensures.tasks; all = λ h. c.in_ok-over.ensures.all h ∙ c.loop.invariant.all h }) _ c.as_slice-tasks.ensures.value

pub loop-preserved-in_default : goal.loop-preserved-in_default
loop-preserved-in_default g c = record { each = c.in_ok-over.ensures.tasks; all = λ h. c.in_ok-over.ensures.all h ∙ c.loop.invariant.all h }

pub loop-preserved : goal.loop-preserved
loop-preserved g c = record { each = c.in_ok-over.ensures.tasks; all = λ h. c.in_ok-over.ensures.all h ∙ c.loop.invariant.all h }
