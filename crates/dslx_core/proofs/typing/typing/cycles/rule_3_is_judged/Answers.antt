use Rattle.dslx_core.proofs.OnTyping.OnCycles.Joined.{block_of_text_judged, expression_judged, written_type_judged}
use Rattle.dslx_core.proofs.typing.typing.cycles.rule_3_is_judged.Goals as goal

pub returns-clause-expression : goal.returns-clause-expression
returns-clause-expression c = expression_judged

pub returns-clause-block : goal.returns-clause-block
returns-clause-block c = block_of_text_judged

pub returns-clause-written : goal.returns-clause-written
returns-clause-written c = written_type_judged
