use Rattle.std.proofs.Common.{◌≡◌}
use Rattle.std.proofs.lemmas.Result.{IfOk-weaker}
use Rattle.dslx_param.proofs.run.step.step_parts.Goals as goal

pub returns-in-Gather : goal.returns-in-Gather
returns-in-Gather c = IfOk-weaker c.take_part.result _ _ (λ is h table. rw c.in-Gather.is (h table)) c.take_part.ensures

pub returns-in-TakeOthers : goal.returns-in-TakeOthers
returns-in-TakeOthers c = IfOk-weaker c.take_others.result _ _ (λ is h table. rw c.in-TakeOthers.is (h table)) c.take_others.ensures

pub returns-in-GatherFields : goal.returns-in-GatherFields
returns-in-GatherFields c = IfOk-weaker c.take_field.result _ _ (λ is h table. rw c.in-GatherFields.is (h table)) c.take_field.ensures
