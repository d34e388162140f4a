use Rattle.std.proofs.lemmas.Result.{IfOk-weaker}
use Rattle.ir_rebuild.proofs.OnPutting.OnKinds.{concat_put}
use Rattle.std.proofs.Common.{◌≡◌, ◌+◌, ◌-◌, ◌^◌, min, ap₂, ◌∙◌}
use Rattle.ir_tree.specs.NodeTypes.Types.{bits_width}
use Rattle.ir_rebuild.specs.Putting.Given.{type_at}
use Rattle.ir_rebuild.proofs.putting.nodes.Nodes.concat.Goals as goal

pub returns : goal.returns
returns c =
    let total : c.saturating_add-width.result ≡ min (bits_width (type_at c.args.self.now c.args.a) + bits_width (type_at c.args.self.now c.args.b)) (2 ^ 128 - 1) =
    c.saturating_add-width.ensures ∙ ap₂ (λ i j. min (i + j) (2 ^ 128 - 1)) c.width.ensures c.width-2.ensures in
    IfOk-weaker c.put.result _ _ (λ o p. concat_put c.args.self.now c.put.new.self c.args.a c.args.b o c.saturating_add-width.result c.bits_type-ty.result total c.bits_type-ty.ensures p) c.put.ensures
