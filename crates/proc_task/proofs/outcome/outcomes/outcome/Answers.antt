use Rattle.std.proofs.Common.{List, length, sym, ap, ◌∙◌, subst}
use Rattle.base.specs.Lists.Indexed.{indexed}
use Rattle.base.proofs.Lemmas.Lists.Indexed.{length-indexed}
use Rattle.xb_bits.specs.Word.{Word}
use Rattle.net_core.specs.declared.net.Chan.{Chan}
use Rattle.net_core.specs.declared.outcome.ProcEnd.{ProcEnd}
use Rattle.net_core.specs.declared.outcome.Stream.{Stream}
use Rattle.net_core.specs.Outcomes.{stream_of}
use Rattle.proc_task.specs.Outcome.Inner.Counts.{AllFit, AllStay}
use Rattle.proc_task.specs.Outcome.Tasks.{cut_by}
use Rattle.proc_task.proofs.OnOutcome.Found.{within_final, opens_there}
use Rattle.proc_task.proofs.OnOutcome.Over.{is_over}
use Rattle.proc_task.proofs.OnOutcome.Ended.{fits_where_ended, stays_where_ended}
use Rattle.proc_task.proofs.outcome.outcomes.outcome.Goals as goal

pub all_fit-requires-clause-streams : goal.all_fit-requires-clause-streams
all_fit-requires-clause-streams g c =
    let run = g.H.Runtime.run c.args.runtime.now in
    ap length (c.as_slice-3.ensures.value ∙ c.in_ok-streams.ensures) ∙ (length-indexed (stream_of run (cut_by run c.args.tasks.now)) 0 c.args.net.now.chans ∙ sym (ap length c.as_slice-2.ensures))

pub all_stay-stopped-requires-clause-streams : goal.all_stay-stopped-requires-clause-streams
all_stay-stopped-requires-clause-streams g c =
    let run = g.H.Runtime.run c.args.runtime.now in
    ap length (c.as_slice-6.ensures.value ∙ c.in_ok-streams.ensures) ∙ (length-indexed (stream_of run (cut_by run c.args.tasks.now)) 0 c.args.net.now.chans ∙ sym (ap length c.as_slice-4.ensures))

pub returns-clause-outcome : goal.returns-clause-outcome
returns-clause-outcome g c =
    let run = g.H.Runtime.run c.args.runtime.now in
    let depths = c.args.depths.now in
    let fit_streams = c.as_slice-3.ensures.value ∙ sym c.from_vec.ensures in
    let stay_streams = c.as_slice-6.ensures.value ∙ sym c.from_vec.ensures in
    let stay_ends = c.as_slice-7.ensures.value ∙ sym c.from_vec-2.ensures in
    let fit = subst (λ (x : List Chan × List Stream). AllFit x.0 depths x.1) (λ i. (c.as_slice-2.ensures i, fit_streams i)) (c.all_fit.ensures.shown c.if-not-all_fit.false) in
    let stay = subst (λ (x : List Chan × List (List Word) × List Stream × List ProcEnd). AllStay x.0 x.1 depths x.2 c.activations.result x.3)
    (λ i. (c.as_slice-4.ensures i, c.as_slice-5.ensures i, stay_streams i, stay_ends i)) (c.all_stay-stopped.ensures.shown c.if-not-stopped.false) in
    is_over run c.requires.tasks.typed (cut_by run c.args.tasks.now)
    (within_final _ _ c.args.runtime.now c.args.tasks.now c.requires.tasks) (opens_there _ _ c.args.runtime.now c.args.tasks.now c.requires.tasks)
    c.args.net.now.chans c.args.inputs.now.words depths c.activations.result c.from_vec.result c.from_vec-2.result
    c.requires.run.chans c.requires.inputs.0 c.requires.depths.0 c.activations.ensures
    (c.from_vec.ensures ∙ c.in_ok-streams.ensures) (c.from_vec-2.ensures ∙ c.in_ok-ends.ensures) fit stay

pub returns-then-not-all_fit-clause-over : goal.returns-then-not-all_fit-clause-over
returns-then-not-all_fit-clause-over g c ended =
    let run = g.H.Runtime.run c.args.runtime.now in
    let fit = fits_where_ended run c.requires.tasks.typed (cut_by run c.args.tasks.now) ended (opens_there _ _ c.args.runtime.now c.args.tasks.now c.requires.tasks)
    c.as_slice-2.result.now c.args.depths.now c.as_slice-3.result.now
    (c.requires.run.chans ∙ sym c.as_slice-2.ensures) c.requires.depths.0
    (c.as_slice-3.ensures.value ∙ (c.in_ok-streams.ensures ∙ ap (λ (xs : List Chan). indexed (stream_of run (cut_by run c.args.tasks.now)) 0 xs) (sym c.as_slice-2.ensures))) in
    sym c.if-not-all_fit.true ∙ c.all_fit.ensures.only fit

pub returns-then-not-stopped-clause-over : goal.returns-then-not-stopped-clause-over
returns-then-not-stopped-clause-over g c ended =
    let run = g.H.Runtime.run c.args.runtime.now in
    let stay = stays_where_ended run c.requires.tasks.typed (cut_by run c.args.tasks.now) ended (opens_there _ _ c.args.runtime.now c.args.tasks.now c.requires.tasks)
    c.as_slice-4.result.now c.args.depths.now c.as_slice-6.result.now
    (c.requires.run.chans ∙ sym c.as_slice-4.ensures) c.requires.depths.0
    (c.as_slice-6.ensures.value ∙ (c.in_ok-streams.ensures ∙ ap (λ (xs : List Chan). indexed (stream_of run (cut_by run c.args.tasks.now)) 0 xs) (sym c.as_slice-4.ensures)))
    c.as_slice-5.result.now c.activations.result c.as_slice-7.result.now
    (c.requires.inputs.0 ∙ sym c.as_slice-5.ensures) c.activations.ensures (c.as_slice-7.ensures.value ∙ c.in_ok-ends.ensures) in
    sym c.if-not-stopped.true ∙ c.all_stay-stopped.ensures.only stay
