use Rattle.dslx_core.proofs.OnTyping.OnTyped.OneName.{one_of_text}
use Rattle.dslx_core.proofs.typing.typed.types.equal_types_of_a_text_are_one.Goals as goal

pub returns : goal.returns
returns c = one_of_text
