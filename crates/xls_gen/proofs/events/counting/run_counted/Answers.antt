use Rattle.std.proofs.Common.{◌≡◌, map, arith}
use Rattle.std.proofs.lemmas.Result.{IfOk-at_ok, IfOk-weaker}
use Rattle.net_core.specs.WellFormed.{run_of}
use Rattle.net_core.proofs.Lemmas.{each_keeps, run_fits}
use Rattle.xls_gen.specs.Events.{events_told}
use Rattle.xls_gen.proofs.OnEvents.Telling.{counted}
use Rattle.xls_gen.proofs.events.counting.run_counted.Goals as goal

pub returns-clause-events : goal.returns-clause-events
returns-clause-events g c =
    let bs = map g.B.Body.behavior c.args.bodies.now in
    let keep = each_keeps g.B.Body.behavior g.met.B.Body.keeps_types c.args.bodies.now in
    let fits = run_fits c.args.net.now c.requires.net bs c.requires.bodies keep c.args.inputs.now.words c.requires.inputs c.args.n (omega (arith, c.ranges.n)) c.args.depths.now in
    let run = run_of c.args.net.now bs c.args.inputs.now.words c.args.n c.args.depths.now in
    IfOk-weaker c.beside.result _ _ (λ pair is.
    counted run fits c.in_ok-outcome.outcome pair.1 (IfOk-at_ok (λ n. n ≡ events_told c.args.net.now.chans c.in_ok-outcome.outcome) is c.count_events-count.ensures) c.in_ok-outcome.ensures.outcome) c.beside.ensures.count
