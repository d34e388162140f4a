use Rattle.dslx_core.proofs.OnTyping.OnTyping.Least.{checked_least, reached_least}
use Rattle.dslx_core.proofs.typing.typing.reached.what_is_checked_is_least.Goals as goal

pub returns-clause-any : goal.returns-clause-any
returns-clause-any c = reached_least

pub returns-clause-text : goal.returns-clause-text
returns-clause-text c = checked_least
