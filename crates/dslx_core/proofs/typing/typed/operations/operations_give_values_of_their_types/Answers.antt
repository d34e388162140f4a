use Rattle.dslx_core.proofs.OnTyping.OnTyped.OfOperators.{binary_gives, prefix_gives, cast_gives}
use Rattle.dslx_core.proofs.typing.typed.operations.operations_give_values_of_their_types.Goals as goal

pub returns-clause-binary : goal.returns-clause-binary
returns-clause-binary c = binary_gives

pub returns-clause-prefix : goal.returns-clause-prefix
returns-clause-prefix c = prefix_gives

pub returns-clause-cast : goal.returns-clause-cast
returns-clause-cast c = cast_gives
