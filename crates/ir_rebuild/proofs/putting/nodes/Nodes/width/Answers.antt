use Rattle.std.proofs.Common.{ap, ◌∙◌}
use Rattle.ir_tree.specs.NodeTypes.Types.{bits_width}
use Rattle.ir_rebuild.proofs.putting.nodes.Nodes.width.Goals as goal

pub returns : goal.returns
returns c = c.bits_width.ensures ∙ ap bits_width c.type_of.ensures
