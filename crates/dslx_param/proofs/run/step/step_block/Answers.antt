use Rattle.std.proofs.Common.{◌≡◌}
use Rattle.std.proofs.lemmas.Result.{IfOk-weaker}
use Rattle.dslx_param.proofs.run.step.step_block.Goals as goal

pub returns-in-BindValue : goal.returns-in-BindValue
returns-in-BindValue c = IfOk-weaker c.bind_value.result _ _ (λ is h table. rw c.in-BindValue.is (h table)) c.bind_value.ensures
