use Rattle.std.proofs.Common.{◌≡◌}
use Rattle.std.proofs.lemmas.Result.{IfOk-weaker}
use Rattle.dslx_param.proofs.run.make.make_last.Goals as goal

pub returns-in-Cast : goal.returns-in-Cast
returns-in-Cast c = IfOk-weaker c.cast.result _ _ (λ is h table. rw c.in-Cast.is (h table)) c.cast.ensures

pub returns-in-Slice : goal.returns-in-Slice
returns-in-Slice c = IfOk-weaker c.slice.result _ _ (λ is h table. rw c.in-Slice.is (h table)) c.slice.ensures

pub returns-in-Part : goal.returns-in-Part
returns-in-Part c = IfOk-weaker c.part.result _ _ (λ is h table. rw c.in-Part.is (h table)) c.part.ensures
