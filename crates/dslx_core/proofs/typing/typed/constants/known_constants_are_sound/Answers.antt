use Rattle.dslx_core.proofs.OnTyping.OnTyped.OfConstants.{constant_is_denoted, denoted_is_known, size_is_denoted, bound_is_denoted, bound_in_type_env}
use Rattle.dslx_core.proofs.typing.typed.constants.known_constants_are_sound.Goals as goal

pub returns-clause-value : goal.returns-clause-value
returns-clause-value c = constant_is_denoted

pub returns-clause-binding : goal.returns-clause-binding
returns-clause-binding c = bound_in_type_env

pub returns-clause-size : goal.returns-clause-size
returns-clause-size c = size_is_denoted

pub returns-clause-bound : goal.returns-clause-bound
returns-clause-bound c = bound_is_denoted

pub returns-clause-known : goal.returns-clause-known
returns-clause-known c = denoted_is_known
