use Rattle.std.proofs.Common.{◌≡◌}
use Rattle.std.proofs.lemmas.Result.{IfOk-weaker}
use Rattle.dslx_instance_parts.proofs.order.take_part.Goals as goal

pub returns-in-Some : goal.returns-in-Some
returns-in-Some c = IfOk-weaker c.put_part.result _ _ (λ is h table. rw c.in-Some.ensures (h table)) c.put_part.ensures
