use Rattle.dslx_core.proofs.OnTyping.OnTyped.OfFunctions.{function_gives}
use Rattle.dslx_core.proofs.typing.typed.functions.functions_give_values_of_their_types.Goals as goal

pub returns : goal.returns
returns c = function_gives
