use Rattle.dslx_core.proofs.OnTyping.OnLaws.Typed.{binary_typed, prefix_typed, cast_typed}
use Rattle.dslx_core.proofs.typing.laws.operations_have_values_of_their_types.Goals as goal

pub returns-clause-binary : goal.returns-clause-binary
returns-clause-binary c = λ o span left right v w e. binary_typed o span left right v w e

pub returns-clause-prefix : goal.returns-clause-prefix
returns-clause-prefix c = λ o v e. prefix_typed o v e

pub returns-clause-cast : goal.returns-clause-cast
returns-clause-cast c = λ t v a e. cast_typed t v a e
