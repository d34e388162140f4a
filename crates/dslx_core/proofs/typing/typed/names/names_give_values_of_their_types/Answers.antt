use Rattle.dslx_core.proofs.OnTyping.OnTyped.OfNames.{name_gives, bool_gives, number_gives}
use Rattle.dslx_core.proofs.typing.typed.names.names_give_values_of_their_types.Goals as goal

pub returns-clause-name : goal.returns-clause-name
returns-clause-name c = name_gives

pub returns-clause-truth : goal.returns-clause-truth
returns-clause-truth c = bool_gives

pub returns-clause-number : goal.returns-clause-number
returns-clause-number c = number_gives
