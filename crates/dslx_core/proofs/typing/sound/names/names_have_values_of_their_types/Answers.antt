use Rattle.dslx_core.proofs.OnTyping.OnSound.OfNames.{name_has, member_has, bool_has, number_has}
use Rattle.dslx_core.proofs.typing.sound.names.names_have_values_of_their_types.Goals as goal

pub returns-clause-name : goal.returns-clause-name
returns-clause-name c = name_has

pub returns-clause-member : goal.returns-clause-member
returns-clause-member c = member_has

pub returns-clause-truth : goal.returns-clause-truth
returns-clause-truth c = bool_has

pub returns-clause-number : goal.returns-clause-number
returns-clause-number c = number_has
