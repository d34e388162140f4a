use Rattle.dslx_core.proofs.OnTyping.OnSound.OfAggregates.{tuple_has, element_has, untyped_has, typed_has, struct_has}
use Rattle.dslx_core.proofs.typing.sound.aggregates.aggregates_have_values_of_their_types.Goals as goal

pub returns-clause-tuple : goal.returns-clause-tuple
returns-clause-tuple c = tuple_has

pub returns-clause-element : goal.returns-clause-element
returns-clause-element c = element_has

pub returns-clause-untyped : goal.returns-clause-untyped
returns-clause-untyped c = untyped_has

pub returns-clause-typed : goal.returns-clause-typed
returns-clause-typed c = typed_has

pub returns-clause-whole : goal.returns-clause-whole
returns-clause-whole c = struct_has
