use Rattle.std.proofs.Common.{refl}
use Rattle.dslx_check_leaves.proofs.Lemmas.Walking.{by_half, none}
use Rattle.dslx_check_parts.proofs.types.bool_name.Goals as goal

pub returns : goal.returns
returns c = by_half c.bool_type.result c.bool_type.ensures.grows c.bool_type.ensures.items c.bool_type.ensures.typed (λ j p h. none p h refl)
