use Rattle.dslx_core.proofs.OnTyping.OnTyped.OfFunctions.{turn_gives, for_gives}
use Rattle.dslx_core.proofs.typing.typed.loops.loops_give_values_of_their_types.Goals as goal

pub returns-clause-turns : goal.returns-clause-turns
returns-clause-turns c = turn_gives

pub returns-clause-whole : goal.returns-clause-whole
returns-clause-whole c = for_gives
