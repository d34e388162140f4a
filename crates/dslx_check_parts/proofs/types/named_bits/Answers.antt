use Rattle.std.proofs.Common.{refl}
use Rattle.dslx_check_leaves.proofs.Lemmas.Walking.{by_half, none}
use Rattle.dslx_check_parts.proofs.types.named_bits.Goals as goal

pub returns : goal.returns
returns c = by_half c.bits_type.result c.bits_type.ensures.grows c.bits_type.ensures.items c.bits_type.ensures.typed (λ j p h. none p h refl)
