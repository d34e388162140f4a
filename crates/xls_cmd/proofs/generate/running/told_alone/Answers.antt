use Rattle.std.proofs.Common.{map, sym, subst, ◌∙◌}
use Rattle.net_core.specs.WellFormed.{IsDepths}
use Rattle.xls_cmd.proofs.OnGen.Steps.{tells_run}
use Rattle.xls_cmd.proofs.generate.running.told_alone.Goals as goal

pub run_counted-requires-clause-depths : goal.run_counted-requires-clause-depths
run_counted-requires-clause-depths g c = subst (IsDepths c.args.net.now) (sym c.as_slice.ensures.value) c.in_ok-depths.ensures.fit

pub returns : goal.returns
returns g c =
    tells_run c.args.level c.args.inputs.now.words c.args.net.now (map g.B.Body.behavior c.args.bodies.now) c.as_slice.result.now c.in_ok-counted.counted.0 (record { line = c.in_ok-line.line; events = c.in_ok-counted.counted.1 })
    (c.as_slice.ensures.value ∙ c.in_ok-depths.ensures.depths) c.in_ok-counted.ensures.outcome c.in_ok-line.ensures c.in_ok-counted.ensures.events
