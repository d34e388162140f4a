use Rattle.dslx_core.proofs.OnTyping.OnDepends.Levels.{instances_settle, uses_settle}
use Rattle.dslx_core.proofs.typing.depends.depends.what_is_known_settles.Goals as goal

pub returns-clause-items : goal.returns-clause-items
returns-clause-items c = uses_settle

pub returns-clause-instances : goal.returns-clause-instances
returns-clause-instances c = instances_settle
