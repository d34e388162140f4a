use Rattle.std.proofs.Common.{ℕ, List, ap, sym, ◌∙◌}
use Rattle.net_core.specs.declared.net.ProcHead.{ProcHead}
use Rattle.net_core.specs.Cuts.{index_of}
use Rattle.proc_task.specs.Outcome.Tasks.{task_in}
use Rattle.proc_task.specs.Outcome.Places.{head_sends}
use Rattle.proc_task.proofs.OnOutcome.Found.{is_task, sender_is, words_there, none_sent}
use Rattle.proc_task.proofs.outcome.tasks.sent_on.Goals as goal

pub words_on-requires : goal.words_on-requires
words_on-requires g c = (is_task _ _ _ c.args.tasks.now c.requires.tasks _ c.in-Some.task.now (sym c.in-Some.ensures)).2

pub returns-in-Some : goal.returns-in-Some
returns-in-Some g c =
    let place = c.sender.ensures ∙ (ap (λ (heads : List ProcHead). index_of (head_sends c.args.chan) heads) c.as_slice.ensures ∙ sender_is c.args.net.now _ c.args.chan c.requires.run) in
    words_there _ _ _ c.args.tasks.now c.requires.tasks c.args.chan c.in-Some.task.now (ap (λ (p : ℕ). task_in p c.args.tasks.now) (sym place) ∙ sym c.in-Some.ensures) c.words_on.result.now c.words_on.ensures

pub returns-in-None : goal.returns-in-None
returns-in-None g c =
    let place = c.sender.ensures ∙ (ap (λ (heads : List ProcHead). index_of (head_sends c.args.chan) heads) c.as_slice.ensures ∙ sender_is c.args.net.now _ c.args.chan c.requires.run) in
    sym (none_sent _ _ _ c.args.tasks.now c.requires.tasks _ c.args.chan (ap (λ (p : ℕ). task_in p c.args.tasks.now) (sym place) ∙ sym c.in-None.ensures))
