use Rattle.dslx_core.proofs.OnTyping.OnTyped.OfPatterns.{one_value_keeps, name_pattern_keeps, tuple_pattern_keeps}
use Rattle.dslx_core.proofs.typing.typed.patterns.patterns_keep_names_typed.Goals as goal

pub returns-clause-one : goal.returns-clause-one
returns-clause-one c = one_value_keeps

pub returns-clause-name : goal.returns-clause-name
returns-clause-name c = name_pattern_keeps

pub returns-clause-tuple : goal.returns-clause-tuple
returns-clause-tuple c = tuple_pattern_keeps
