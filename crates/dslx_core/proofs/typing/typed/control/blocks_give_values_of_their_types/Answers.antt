use Rattle.dslx_core.proofs.OnTyping.OnTyped.OfControl.{let_keeps, statements_keep, block_gives}
use Rattle.dslx_core.proofs.typing.typed.control.blocks_give_values_of_their_types.Goals as goal

pub returns-clause-binding : goal.returns-clause-binding
returns-clause-binding c = let_keeps

pub returns-clause-statements : goal.returns-clause-statements
returns-clause-statements c = statements_keep

pub returns-clause-whole : goal.returns-clause-whole
returns-clause-whole c = block_gives
