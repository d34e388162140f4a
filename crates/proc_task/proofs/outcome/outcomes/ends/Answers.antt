use Rattle.std.proofs.Common.{◌≡◌, ◌<◌, List, [], ◌∷◌, ◌++◌, length, ap, sym, ◌∙◌, arith}
use Rattle.std.proofs.lemmas.List.{length-map}
use Rattle.std.proofs.lemmas.Option.{get_or_from_slice_get}
use Rattle.base.proofs.Lemmas.Lists.Indexed.{indexed_more}
use Rattle.net_core.specs.Cuts.{Proc, Run}
use Rattle.net_core.specs.declared.net.Net.{Net}
use Rattle.net_core.specs.declared.net.ProcHead.{ProcHead}
use Rattle.net_core.specs.declared.outcome.ProcEnd.{ProcEnd}
use Rattle.proc_task.specs.Outcome.Tasks.{cut_by, IsRunOf}
use Rattle.proc_task.specs.Outcome.Inner.Counts.{end_in}
use Rattle.proc_task.proofs.OnOutcome.Found.{is, is_task, has_task, proc_there, ends_there}
use Rattle.proc_task.proofs.outcome.outcomes.ends.Goals as goal

same_count : (net : Net) (run : Run) → IsRunOf net run → length run.procs ≡ length net.procs
same_count net run of = sym (length-map run.procs (λ (proc : Proc). proc.behavior.sites)) ∙ (ap length of.sites ∙ length-map net.procs (λ (head : ProcHead). head.sites))

pub end-requires : goal.end-requires
end-requires g c = (is_task _ _ _ c.args.tasks.now c.requires.tasks c.loop-p.p c.in-Some.task.now (sym c.in-Some.ensures)).2

pub unreachable-requires : goal.unreachable-requires
unreachable-requires g c =
    has_task _ _ _ c.args.tasks.now c.requires.tasks c.loop-p.p (omega (arith, c.loop-p-test.true, same_count c.args.net.now _ c.requires.run)) (sym c.in-None.ensures)

pub loop-p-preserved : goal.loop-p-preserved
loop-p-preserved g c =
    let run = g.H.Runtime.run c.args.runtime.now in
    let f = end_in run (cut_by run c.args.tasks.now) in
    let p = c.loop-p.p in
    let task = c.in-Some.task.now in
    let at = is g.H.Runtime.run g.H.Runtime.lines c.args.runtime.now c.args.tasks.now c.requires.tasks p task (sym c.in-Some.ensures) in
    let there = proc_there g.H.Runtime.run g.H.Runtime.lines c.args.runtime.now c.args.tasks.now c.requires.tasks p task (sym c.in-Some.ensures) in
    let within : p < length run.procs = omega (arith, c.loop-p-test.true, same_count c.args.net.now run c.requires.run) in
    let made = ends_there g.H.Runtime.run g.H.Runtime.lines c.args.runtime.now c.args.tasks.now c.requires.tasks p task (sym c.in-Some.ensures) c.in_ok-end-in-Some.field-0 c.in_ok-end-in-Some.ensures at.proc there in
    c.in_ok-push-in-Some.ensures.items
    ∙ (ap (λ (x : ProcEnd). c.loop-p.ends.items ++ x ∷ []) made
    ∙ (ap (λ (xs : List ProcEnd). xs ++ f p at.proc ∷ []) c.loop-p.invariant ∙ sym (indexed_more f run.procs p at.proc within (sym (get_or_from_slice_get run.procs p at.proc at.proc there)))))
