use Rattle.std.proofs.Common.{◌∙◌}
use Rattle.dslx_check_judge.proofs.OnItems.OnConstants.{none_written, some_written}
use Rattle.dslx_check_judge.proofs.items.constants.written_type.Goals as goal

pub returns-in-None : goal.returns-in-None
returns-in-None c = none_written c.in-None.is

pub returns-in_ok-typing-in-Some : goal.returns-in_ok-typing-in-Some
returns-in_ok-typing-in-Some c = some_written c.in-Some.ty c.in-Some.is c.in_ok-typing-in-Some.ensures
