use Rattle.std.proofs.Common.{◌∙◌}
use Rattle.std.proofs.lemmas.Result.{IfOk-weaker}
use Rattle.net_tests.proofs.rounds.by_workers.Goals as goal

pub returns : goal.returns
returns g c = IfOk-weaker c.round.result _ _ (λ over all h. all h ∙ c.in_ok-tasks.ensures.2 h) c.round.ensures.all
