use Rattle.std.proofs.Common.{◌≡◌}
use Rattle.std.proofs.lemmas.Result.{IfOk-weaker}
use Rattle.dslx_param.proofs.run.step.step_loop.Goals as goal

pub returns-in-Begin : goal.returns-in-Begin
returns-in-Begin c = IfOk-weaker c.start_loop.result _ _ (λ is h table. rw c.in-Begin.is (h table)) c.start_loop.ensures
