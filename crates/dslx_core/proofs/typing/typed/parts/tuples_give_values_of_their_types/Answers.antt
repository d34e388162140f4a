use Rattle.dslx_core.proofs.OnTyping.OnTyped.OfAggregates.{tuple_gives, tuple_part_given}
use Rattle.dslx_core.proofs.typing.typed.parts.tuples_give_values_of_their_types.Goals as goal

pub returns-clause-whole : goal.returns-clause-whole
returns-clause-whole c = tuple_gives

pub returns-clause-element : goal.returns-clause-element
returns-clause-element c = tuple_part_given
