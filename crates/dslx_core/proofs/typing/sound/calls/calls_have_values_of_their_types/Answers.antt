use Rattle.dslx_core.proofs.OnTyping.OnSound.OfBuiltins.{builtin_has}
use Rattle.dslx_core.proofs.OnTyping.OnSound.OfFunctions.{function_has}
use Rattle.dslx_core.proofs.typing.sound.calls.calls_have_values_of_their_types.Goals as goal

pub returns-clause-builtin : goal.returns-clause-builtin
returns-clause-builtin c = builtin_has

pub returns-clause-function : goal.returns-clause-function
returns-clause-function c = function_has
