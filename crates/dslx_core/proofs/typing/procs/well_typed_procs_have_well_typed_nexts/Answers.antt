use Rattle.dslx_core.proofs.OnTyping.OnProcs.Instances.{next_is_well_typed}
use Rattle.dslx_core.proofs.typing.procs.well_typed_procs_have_well_typed_nexts.Goals as goal

pub returns : goal.returns
returns c = next_is_well_typed
