use Rattle.std.proofs.Common.{rules, ◌≡◌, ◌∙◌}
use Rattle.std.proofs.lemmas.Result.{IfOk-weaker}
use Rattle.dslx_instance_parts.proofs.Written.{begins_by_parts}
use Rattle.dslx_instance_parts.proofs.structs.begin_named.Goals as goal

pub returns : goal.returns
returns c = IfOk-weaker c.begin_with.result _ _ (λ is h table. h table ∙ search (rules, begins_by_parts)) c.begin_with.ensures
