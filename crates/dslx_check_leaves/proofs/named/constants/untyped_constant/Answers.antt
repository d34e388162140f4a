use Rattle.std.proofs.Common.{refl}
use Rattle.dslx_check_leaves.proofs.named.constants.untyped_constant.Goals as goal

pub returns : goal.returns
returns c = λ names rows later. record { part = record { row = tt; ty = refl; faults = c.none.ensures; size = refl }; untyped = refl; value = refl }
