use Rattle.std.proofs.Common.{◌∙◌}
use Rattle.std.proofs.lemmas.Result.{IfOk-weaker}
use Rattle.ir_rebuild.proofs.putting.nodes.Nodes.copy_type.Goals as goal

pub returns : goal.returns
returns c = IfOk-weaker c.type_copy.result _ _ (λ t e. e ∙ c.type_of.ensures) c.type_copy.ensures
