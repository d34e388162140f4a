use Rattle.dslx_core.proofs.OnTyping.OnGlobals.Whole.{all_known, all_typed}
use Rattle.dslx_core.proofs.typing.known.known.all_items_are_known.Goals as goal

pub returns-clause-complete : goal.returns-clause-complete
returns-clause-complete c = all_known

pub returns-clause-typed : goal.returns-clause-typed
returns-clause-typed c = all_typed
