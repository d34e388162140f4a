use Rattle.dslx_core.proofs.OnTyping.OnSound.OfOperations.{binary_has, prefix_has, cast_has, index_has, part_has, field_has}
use Rattle.dslx_core.proofs.OnTyping.OnSound.OfConstants.{slice_has}
use Rattle.dslx_core.proofs.typing.sound.operations.operators_have_values_of_their_types.Goals as goal

pub returns-clause-binary : goal.returns-clause-binary
returns-clause-binary c = binary_has

pub returns-clause-prefix : goal.returns-clause-prefix
returns-clause-prefix c = prefix_has

pub returns-clause-cast : goal.returns-clause-cast
returns-clause-cast c = cast_has

pub returns-clause-index : goal.returns-clause-index
returns-clause-index c = index_has

pub returns-clause-part : goal.returns-clause-part
returns-clause-part c = part_has

pub returns-clause-slice : goal.returns-clause-slice
returns-clause-slice c = slice_has

pub returns-clause-field : goal.returns-clause-field
returns-clause-field c = field_has
