use Rattle.dslx_core.proofs.OnTyping.OnComplete.OfConstants.{constant_has_value}
use Rattle.dslx_core.proofs.typing.complete.named.constants_are_known.Goals as goal

pub returns : goal.returns
returns c = constant_has_value
