use Rattle.std.proofs.Common.{map, sym, subst, ◌∙◌}
use Rattle.std.proofs.lemmas.Result.{IfOk-weaker}
use Rattle.net_core.specs.WellFormed.{IsDepths}
use Rattle.xls_gen.specs.declared.level.Level.TheVariants.{Threads}
use Rattle.xls_cmd.proofs.OnGen.Steps.{line_is}
use Rattle.xls_cmd.proofs.generate.running.line_by_workers.Goals as goal

pub run_threads-requires-clause-depths : goal.run_threads-requires-clause-depths
run_threads-requires-clause-depths g c κs within = subst (IsDepths c.args.net.now) (sym c.as_slice.ensures.value) c.in_ok-depths.ensures.fit

pub returns : goal.returns
returns g c =
    IfOk-weaker c.outcome_line.result _ _
    (λ line is. line_is Threads c.args.inputs.now.words c.args.net.now (map g.B.Body.behavior c.args.bodies.now) c.as_slice.result.now c.in_ok-outcome.outcome line.items
    (c.as_slice.ensures.value ∙ c.in_ok-depths.ensures.depths) c.in_ok-outcome.ensures.outcome is)
    c.outcome_line.ensures
