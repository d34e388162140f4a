use Rattle.std.proofs.Common.{◌≡◌}
use Rattle.std.proofs.lemmas.Result.{IfOk-weaker}
use Rattle.dslx_instance_parts.proofs.fields.take_others.Goals as goal

pub returns-in-Some : goal.returns-in-Some
returns-in-Some c = IfOk-weaker c.bind_others.result _ _ (λ is h table. rw c.in-Some.ensures (h table)) c.bind_others.ensures
