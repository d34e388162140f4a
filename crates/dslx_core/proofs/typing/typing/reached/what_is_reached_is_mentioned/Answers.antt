use Rattle.dslx_core.proofs.OnTyping.OnTyping.Joined.{block_of_text_reaches, expression_reaches, written_type_reaches}
use Rattle.dslx_core.proofs.typing.typing.reached.what_is_reached_is_mentioned.Goals as goal

pub returns-clause-expression : goal.returns-clause-expression
returns-clause-expression c = expression_reaches

pub returns-clause-block : goal.returns-clause-block
returns-clause-block c = block_of_text_reaches

pub returns-clause-written : goal.returns-clause-written
returns-clause-written c = written_type_reaches
