use Rattle.dslx_core.proofs.OnTyping.OnSound.OfShapes.{wild_gives, bool_pattern_gives, number_pattern_gives, member_pattern_gives, name_pattern_gives, tuple_pattern_gives}
use Rattle.dslx_core.proofs.typing.sound.patterns.patterns_keep_places_typed.Goals as goal

pub returns-clause-wild : goal.returns-clause-wild
returns-clause-wild c = wild_gives

pub returns-clause-truth : goal.returns-clause-truth
returns-clause-truth c = bool_pattern_gives

pub returns-clause-number : goal.returns-clause-number
returns-clause-number c = number_pattern_gives

pub returns-clause-member : goal.returns-clause-member
returns-clause-member c = member_pattern_gives

pub returns-clause-name : goal.returns-clause-name
returns-clause-name c = name_pattern_gives

pub returns-clause-tuple : goal.returns-clause-tuple
returns-clause-tuple c = tuple_pattern_gives
