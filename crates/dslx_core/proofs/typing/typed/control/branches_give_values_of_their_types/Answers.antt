use Rattle.dslx_core.proofs.OnTyping.OnTyped.OfControl.{if_gives}
use Rattle.dslx_core.proofs.typing.typed.control.branches_give_values_of_their_types.Goals as goal

pub returns : goal.returns
returns c = if_gives
