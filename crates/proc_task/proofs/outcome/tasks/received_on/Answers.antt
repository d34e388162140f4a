use Rattle.std.proofs.Common.{ℕ, List, ap, sym, ◌∙◌}
use Rattle.net_core.specs.declared.net.ProcHead.{ProcHead}
use Rattle.net_core.specs.Cuts.{index_of}
use Rattle.proc_task.specs.Outcome.Tasks.{task_in}
use Rattle.proc_task.specs.Outcome.Places.{head_receives}
use Rattle.proc_task.proofs.OnOutcome.Found.{is_task, receiver_is, received_there, none_received}
use Rattle.proc_task.proofs.outcome.tasks.received_on.Goals as goal

pub received_on-requires : goal.received_on-requires
received_on-requires g c = (is_task _ _ _ c.args.tasks.now c.requires.tasks _ c.in-Some.task.now (sym c.in-Some.ensures)).2

pub returns-in-Some : goal.returns-in-Some
returns-in-Some g c =
    let place = c.receiver.ensures ∙ (ap (λ (heads : List ProcHead). index_of (head_receives c.args.chan) heads) c.as_slice.ensures ∙ receiver_is c.args.net.now _ c.args.chan c.requires.run) in
    received_there _ _ _ c.args.tasks.now c.requires.tasks c.args.chan c.in-Some.task.now (ap (λ (p : ℕ). task_in p c.args.tasks.now) (sym place) ∙ sym c.in-Some.ensures) c.received_on.result c.received_on.ensures

pub returns-in-None : goal.returns-in-None
returns-in-None g c =
    let place = c.receiver.ensures ∙ (ap (λ (heads : List ProcHead). index_of (head_receives c.args.chan) heads) c.as_slice.ensures ∙ receiver_is c.args.net.now _ c.args.chan c.requires.run) in
    sym (none_received _ _ _ c.args.tasks.now c.requires.tasks _ c.args.chan (ap (λ (p : ℕ). task_in p c.args.tasks.now) (sym place) ∙ sym c.in-None.ensures))
