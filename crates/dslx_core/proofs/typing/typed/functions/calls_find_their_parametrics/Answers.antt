use Rattle.dslx_core.proofs.OnTyping.OnTyped.OfParametricArgs.{parametric_args_found, inferred_alike}
use Rattle.dslx_core.proofs.typing.typed.functions.calls_find_their_parametrics.Goals as goal

pub returns-clause-found : goal.returns-clause-found
returns-clause-found c = parametric_args_found

pub returns-clause-inferred : goal.returns-clause-inferred
returns-clause-inferred c = inferred_alike
