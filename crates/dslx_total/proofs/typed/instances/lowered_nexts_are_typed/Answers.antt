use Rattle.dslx_total.proofs.OnTyped.OfNexts.{next_is_typed}
use Rattle.dslx_total.proofs.typed.instances.lowered_nexts_are_typed.Goals as goal

pub returns : goal.returns
returns c = next_is_typed
