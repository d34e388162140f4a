use Rattle.std.proofs.Common.{◌≡◌}
use Rattle.std.proofs.lemmas.Result.{IfOk-weaker}
use Rattle.dslx_param.proofs.run.step.step_arms.Goals as goal

pub returns-in-Arms : goal.returns-in-Arms
returns-in-Arms c = IfOk-weaker c.begin_arms.result _ _ (λ is h table. rw c.in-Arms.is (h table)) c.begin_arms.ensures

pub returns-in-TakeArm : goal.returns-in-TakeArm
returns-in-TakeArm c = IfOk-weaker c.take_arm.result _ _ (λ is h table. rw c.in-TakeArm.is (h table)) c.take_arm.ensures
