use Rattle.dslx_core.proofs.OnTyping.OnTyped.OfTypes.{one_type}
use Rattle.dslx_core.proofs.typing.typed.types.a_value_has_one_type.Goals as goal

pub returns : goal.returns
returns c = one_type
