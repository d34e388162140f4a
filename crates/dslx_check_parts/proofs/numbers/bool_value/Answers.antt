use Rattle.std.proofs.Common.{refl}
use Rattle.dslx_check_leaves.proofs.Lemmas.Walking.{by_half, none}
use Rattle.dslx_check_parts.proofs.numbers.bool_value.Goals as goal

pub returns : goal.returns
returns c = by_half c.bool_node.result c.bool_node.ensures.grows c.bool_node.ensures.items c.bool_node.ensures.typed (λ j p h. none p h refl)
