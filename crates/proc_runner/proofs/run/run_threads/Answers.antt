use Rattle.std.proofs.Common.{ℕ, List, length, map, refl, sym, ap, ◌∙◌, subst, arith}
use Rattle.std.specs.Prelude.{slice_get, Option}
use Rattle.std.proofs.lemmas.Result.{IfOk-weaker}
use Rattle.chan_queue.specs.declared.queue.ChanQueue.{ChanQueue}
use Rattle.net_core.specs.declared.net.ProcHead.{ProcHead}
use Rattle.net_core.specs.declared.outcome.Outcome.{Outcome}
use Rattle.net_core.specs.WellFormed.{IsOutcome, run_of}
use Rattle.net_core.proofs.Lemmas.{outcomes_fit}
use Rattle.proc_runner.specs.Inner.Opened.{AreOpened}
use Rattle.proc_runner.specs.Inner.Started.{AreLeft}
use Rattle.proc_runner.proofs.Runs.{run_typed, is_run, heads_are, all_left, procs_count}
use Rattle.proc_runner.proofs.Tasks.{as_many}
use Rattle.proc_runner.proofs.run.run_threads.Goals as goal

pub start-requires-clause-typed : goal.start-requires-clause-typed
start-requires-clause-typed g c =
    let keep = c.bodies_keep_types.ensures in
    run_typed c.args.net.now c.requires.net (map g.B.Body.behavior c.args.bodies.now) c.requires.bodies keep c.args.inputs.now.words c.requires.inputs c.args.n (omega (arith, c.ranges.n)) c.args.depths.now

pub start-requires-clause-run : goal.start-requires-clause-run
start-requires-clause-run g c p head e =
    let keep = c.bodies_keep_types.ensures in
    heads_are c.args.net.now c.requires.net (map g.B.Body.behavior c.args.bodies.now) c.requires.bodies keep c.args.inputs.now.words c.requires.inputs c.args.n (omega (arith, c.ranges.n)) c.args.depths.now
    p head (ap (λ (hs : List ProcHead). slice_get hs p) (sym c.as_slice-3.ensures) ∙ e)

pub start-requires-clause-ends : goal.start-requires-clause-ends
start-requires-clause-ends g c =
    let bs = map g.B.Body.behavior c.args.bodies.now in
    let keep = c.bodies_keep_types.ensures in
    let run = run_of c.args.net.now bs c.args.inputs.now.words c.args.n c.args.depths.now in
    let made = c.in_ok-queues.field-0 in
    let opened = subst (λ (count : ℕ). AreOpened run count made.queues.items made.sends.items made.recvs.items) (ap length c.as_slice.ensures)
    (c.in_ok-queues.ensures run (sym c.as_slice.ensures) refl (λ d. refl)) in
    let left = all_left c.args.net.now c.requires.net bs c.requires.bodies keep c.args.inputs.now.words c.requires.inputs c.args.n (omega (arith, c.ranges.n)) c.args.depths.now
    c.in_ok-senders.field-0.items c.in_ok-receivers.field-0.items made.queues.items made.sends.items made.recvs.items c.in_ok-senders.ensures c.in_ok-receivers.ensures opened in
    subst (λ (queues : List (Option (ChanQueue _))). AreLeft run queues 0 c.in_ok-senders.field-0.items c.in_ok-receivers.field-0.items made.sends.items made.recvs.items) (sym c.as_slice-2.ensures.value) left

pub run_to_end-requires-clause-typed : goal.run_to_end-requires-clause-typed
run_to_end-requires-clause-typed g c κs within =
    let keep = c.bodies_keep_types.ensures in
    run_typed c.args.net.now c.requires.net (map g.B.Body.behavior c.args.bodies.now) c.requires.bodies keep c.args.inputs.now.words c.requires.inputs c.args.n (omega (arith, c.ranges.n)) c.args.depths.now

pub run_to_end-requires-clause-run : goal.run_to_end-requires-clause-run
run_to_end-requires-clause-run g c κs within =
    let keep = c.bodies_keep_types.ensures in
    is_run c.args.net.now c.requires.net (map g.B.Body.behavior c.args.bodies.now) c.requires.bodies keep c.args.inputs.now.words c.requires.inputs c.args.n (omega (arith, c.ranges.n)) c.args.depths.now

pub run_to_end-requires-clause-tasks : goal.run_to_end-requires-clause-tasks
run_to_end-requires-clause-tasks g c κs within =
    let keep = c.bodies_keep_types.ensures in
    let count = procs_count c.args.net.now c.requires.net (map g.B.Body.behavior c.args.bodies.now) c.requires.bodies keep c.args.inputs.now.words c.requires.inputs c.args.n (omega (arith, c.ranges.n)) c.args.depths.now in
    as_many _ _ _ _ _ _ (ap length c.as_slice-3.ensures ∙ sym count) c.in_ok-tasks.ensures

pub run_to_end-requires-clause-few : goal.run_to_end-requires-clause-few
run_to_end-requires-clause-few g c κs within =
    let keep = c.bodies_keep_types.ensures in
    omega (arith, procs_count c.args.net.now c.requires.net (map g.B.Body.behavior c.args.bodies.now) c.requires.bodies keep c.args.inputs.now.words c.requires.inputs c.args.n (omega (arith, c.ranges.n)) c.args.depths.now, c.requires.net.few_procs)

pub returns-clause-fits : goal.returns-clause-fits
returns-clause-fits g c =
    let bs = map g.B.Body.behavior c.args.bodies.now in
    let keep = c.bodies_keep_types.ensures in
    let fits = outcomes_fit c.args.net.now bs c.args.inputs.now.words c.args.n c.args.depths.now c.requires.net c.requires.bodies keep c.requires.inputs (omega (arith, c.ranges.n)) in
    IfOk-weaker c.run_to_end.result _ _ (λ outcome is. subst (λ (x : Outcome). IsOutcome c.args.net.now x) (sym is) fits) c.run_to_end.ensures
