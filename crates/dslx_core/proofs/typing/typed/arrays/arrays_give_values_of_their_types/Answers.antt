use Rattle.dslx_core.proofs.OnTyping.OnTyped.OfArrays.{untyped_gives, typed_gives}
use Rattle.dslx_core.proofs.typing.typed.arrays.arrays_give_values_of_their_types.Goals as goal

pub returns-clause-untyped : goal.returns-clause-untyped
returns-clause-untyped c = untyped_gives

pub returns-clause-typed : goal.returns-clause-typed
returns-clause-typed c = typed_gives
