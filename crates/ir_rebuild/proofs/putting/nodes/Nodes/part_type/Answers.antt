use Rattle.std.proofs.Common.{ap, ◌∙◌}
use Rattle.std.proofs.lemmas.Result.{IfOk-weaker}
use Rattle.ir_rebuild.specs.Putting.Types.{part_of}
use Rattle.ir_rebuild.proofs.putting.nodes.Nodes.part_type.Goals as goal

pub returns : goal.returns
returns c = IfOk-weaker c.part_type.result _ _ (λ t e. e ∙ ap (λ u. part_of u c.args.number) c.type_of.ensures) c.part_type.ensures
