use Rattle.dslx_core.proofs.OnTyping.OnTyping.OfItems.{instances_reach_down}
use Rattle.dslx_core.proofs.typing.typing.reached.instances_reach_what_is_below.Goals as goal

pub returns : goal.returns
returns c = instances_reach_down
