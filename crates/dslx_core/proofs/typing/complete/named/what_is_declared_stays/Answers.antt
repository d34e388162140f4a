use Rattle.dslx_core.proofs.OnTyping.OnComplete.OfTypes.{declared_stays, gives_still}
use Rattle.dslx_core.proofs.typing.complete.named.what_is_declared_stays.Goals as goal

pub returns-clause-types : goal.returns-clause-types
returns-clause-types c = declared_stays

pub returns-clause-values : goal.returns-clause-values
returns-clause-values c = gives_still
