use Rattle.dslx_core.proofs.OnTyping.OnTyping.OfItems.{expressions_reach, instances_reach, items_reach}
use Rattle.dslx_core.proofs.typing.typing.reached.items_reach_what_they_mention.Goals as goal

pub returns-clause-instance : goal.returns-clause-instance
returns-clause-instance c = instances_reach

pub returns-clause-expression : goal.returns-clause-expression
returns-clause-expression c = expressions_reach

pub returns-clause-item : goal.returns-clause-item
returns-clause-item c = items_reach
