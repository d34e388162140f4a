use Rattle.std.proofs.Common.{ap, ◌∙◌}
use Rattle.ir_tree.specs.Rules.Fitting.{type_in, types_behind}
use Rattle.ir_rebuild.proofs.putting.nodes.Nodes.type_of.Goals as goal

pub returns : goal.returns
returns c = c.type_of.ensures ∙ ap (λ ns. type_in (types_behind c.args.self.now.state ns) c.args.operand) c.as_slice.ensures.value
