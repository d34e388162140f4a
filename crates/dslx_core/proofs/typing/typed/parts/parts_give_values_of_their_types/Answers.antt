use Rattle.dslx_core.proofs.OnTyping.OnTyped.OfAggregates.{index_gives}
use Rattle.dslx_core.proofs.OnTyping.OnTyped.OfParts.{slice_gives, part_gives}
use Rattle.dslx_core.proofs.typing.typed.parts.parts_give_values_of_their_types.Goals as goal

pub returns-clause-index : goal.returns-clause-index
returns-clause-index c = index_gives

pub returns-clause-slice : goal.returns-clause-slice
returns-clause-slice c = slice_gives

pub returns-clause-part : goal.returns-clause-part
returns-clause-part c = part_gives
