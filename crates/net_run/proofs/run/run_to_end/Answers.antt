use Rattle.std.proofs.Common.{subst, length}
use Rattle.net_core.proofs.Lemmas.{count_behaviors}
use Rattle.net_run.specs.Rounds.{AllAdvance}
use Rattle.net_run.proofs.Going.{passes_some, round_ends}
use Rattle.net_run.proofs.run.run_to_end.Goals as goal

pub loop-preserved : goal.loop-preserved
loop-preserved g c run cut sh e =
    let at = c.loop.invariant run cut sh e in
    passes_some run at.0 (length c.args.bodies.now) c.round.new.config c.in_ok-round.field-0 (c.in_ok-round.ensures.passes run at.0 at.1 e)

pub returns : goal.returns
returns g c run cut sh e =
    let at = c.loop.invariant run cut sh e in
    let passed = c.in_ok-round.ensures.passes run at.0 at.1 e in
    let stopped = subst (λ moved. AllAdvance run at.0 (length c.args.bodies.now) c.round.new.config moved) c.if-branch.false passed in
    round_ends run at.0 (length c.args.bodies.now) c.round.new.config stopped (count_behaviors g.B.Body.behavior run c.args.bodies.now e)
