use Rattle.dslx_core.proofs.OnTyping.OnSound.OfControl.{if_has, let_has, bare_has, block_has}
use Rattle.dslx_core.proofs.OnTyping.OnSound.OfLoops.{loop_has}
use Rattle.dslx_core.proofs.typing.sound.control.control_has_values_of_its_types.Goals as goal

pub returns-clause-branches : goal.returns-clause-branches
returns-clause-branches c = if_has

pub returns-clause-binding : goal.returns-clause-binding
returns-clause-binding c = let_has

pub returns-clause-bare : goal.returns-clause-bare
returns-clause-bare c = bare_has

pub returns-clause-block : goal.returns-clause-block
returns-clause-block c = block_has

pub returns-clause-turns : goal.returns-clause-turns
returns-clause-turns c = loop_has
