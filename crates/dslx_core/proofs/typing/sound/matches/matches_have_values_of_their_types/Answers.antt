use Rattle.dslx_core.proofs.OnTyping.OnSound.OfMatch.{match_has}
use Rattle.dslx_core.proofs.OnTyping.OnSound.OfNarrow.{narrow_come}
use Rattle.dslx_core.proofs.typing.sound.matches.matches_have_values_of_their_types.Goals as goal

pub returns-clause-whole : goal.returns-clause-whole
returns-clause-whole c = match_has

pub returns-clause-narrow : goal.returns-clause-narrow
returns-clause-narrow c = narrow_come
