use Rattle.dslx_core.proofs.OnTyping.OnTyped.OfMatches.{match_gives}
use Rattle.dslx_core.proofs.typing.typed.control.matches_give_values_of_their_types.Goals as goal

pub returns : goal.returns
returns c = match_gives
