use Rattle.std.proofs.Common.{map, subst, sym, arith}
use Rattle.std.proofs.lemmas.Result.{IfOk-weaker}
use Rattle.net_core.specs.declared.outcome.Outcome.{Outcome}
use Rattle.net_core.specs.Cuts.{empty_cut, final_cut}
use Rattle.net_core.specs.WellFormed.{IsOutcome, run_of}
use Rattle.net_core.proofs.Lemmas.{each_keeps, behaviors_zipped, outcomes_fit}
use Rattle.net_run.proofs.run.run_one.Goals as goal

pub run_to_end-requires : goal.run_to_end-requires
run_to_end-requires g c =
    let bs = map g.B.Body.behavior c.args.bodies.now in
    let run = run_of c.args.net.now bs c.args.inputs.now.words c.args.n c.args.depths.now in
    let keep = each_keeps g.B.Body.behavior g.met.B.Body.keeps_types c.args.bodies.now in
    (run, empty_cut, c.in_ok-config.ensures bs c.requires.bodies keep, behaviors_zipped c.args.net.now.procs bs c.requires.bodies.count)

pub outcome-requires : goal.outcome-requires
outcome-requires g c =
    let bs = map g.B.Body.behavior c.args.bodies.now in
    let run = run_of c.args.net.now bs c.args.inputs.now.words c.args.n c.args.depths.now in
    let keep = each_keeps g.B.Body.behavior g.met.B.Body.keeps_types c.args.bodies.now in
    let same = behaviors_zipped c.args.net.now.procs bs c.requires.bodies.count in
    (run, final_cut run, c.in_ok-run_to_end.ensures run empty_cut (c.in_ok-config.ensures bs c.requires.bodies keep) same, same)

pub returns-clause-outcome : goal.returns-clause-outcome
returns-clause-outcome g c =
    let bs = map g.B.Body.behavior c.args.bodies.now in
    let run = run_of c.args.net.now bs c.args.inputs.now.words c.args.n c.args.depths.now in
    let keep = each_keeps g.B.Body.behavior g.met.B.Body.keeps_types c.args.bodies.now in
    let same = behaviors_zipped c.args.net.now.procs bs c.requires.bodies.count in
    let shown = c.in_ok-run_to_end.ensures run empty_cut (c.in_ok-config.ensures bs c.requires.bodies keep) same in
    IfOk-weaker c.outcome.result _ _ (λ outcome is. is run (final_cut run) shown same) c.outcome.ensures

pub returns-clause-fits : goal.returns-clause-fits
returns-clause-fits g c =
    let bs = map g.B.Body.behavior c.args.bodies.now in
    let run = run_of c.args.net.now bs c.args.inputs.now.words c.args.n c.args.depths.now in
    let keep = each_keeps g.B.Body.behavior g.met.B.Body.keeps_types c.args.bodies.now in
    let same = behaviors_zipped c.args.net.now.procs bs c.requires.bodies.count in
    let shown = c.in_ok-run_to_end.ensures run empty_cut (c.in_ok-config.ensures bs c.requires.bodies keep) same in
    let fits = outcomes_fit c.args.net.now bs c.args.inputs.now.words c.args.n c.args.depths.now c.requires.net c.requires.bodies keep c.requires.inputs (omega (arith, c.ranges.n)) in
    IfOk-weaker c.outcome.result _ _ (λ outcome is.
    let e = is run (final_cut run) shown same in
    subst (λ (x : Outcome). IsOutcome c.args.net.now x) (sym e) fits) c.outcome.ensures
