use Rattle.dslx_core.proofs.OnTyping.OnSound.OfTypes.{plain_has_den, wide_has_den, name_has_den, tuple_has_den, array_has_den}
use Rattle.dslx_core.proofs.typing.sound.types.written_types_are_known.Goals as goal

pub returns-clause-plain : goal.returns-clause-plain
returns-clause-plain c = plain_has_den

pub returns-clause-wide : goal.returns-clause-wide
returns-clause-wide c = wide_has_den

pub returns-clause-name : goal.returns-clause-name
returns-clause-name c = name_has_den

pub returns-clause-tuple : goal.returns-clause-tuple
returns-clause-tuple c = tuple_has_den

pub returns-clause-array : goal.returns-clause-array
returns-clause-array c = array_has_den
