use Rattle.dslx_core.proofs.OnTyping.OnSound.OfConstants.{constant_has, count_has}
use Rattle.dslx_core.proofs.typing.sound.constants.constants_have_values.Goals as goal

pub returns-clause-value : goal.returns-clause-value
returns-clause-value c = constant_has

pub returns-clause-count : goal.returns-clause-count
returns-clause-count c = count_has
