use Rattle.dslx_core.proofs.OnTyping.OnTyped.OfWritten.{bits_mean, wide_means, name_means, tuple_means, array_means}
use Rattle.dslx_core.proofs.typing.typed.written.known_types_are_sound.Goals as goal

pub returns-clause-bits : goal.returns-clause-bits
returns-clause-bits c = bits_mean

pub returns-clause-wide : goal.returns-clause-wide
returns-clause-wide c = wide_means

pub returns-clause-name : goal.returns-clause-name
returns-clause-name c = name_means

pub returns-clause-tuple : goal.returns-clause-tuple
returns-clause-tuple c = tuple_means

pub returns-clause-array : goal.returns-clause-array
returns-clause-array c = array_means
