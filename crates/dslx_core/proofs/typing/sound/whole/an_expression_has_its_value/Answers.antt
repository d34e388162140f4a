use Rattle.dslx_core.proofs.OnTyping.OnSound.Bodies.{function_has_value}
use Rattle.dslx_core.proofs.OnTyping.OnSound.Joined.{expression_has, block_of_text_has}
use Rattle.dslx_core.proofs.typing.sound.whole.an_expression_has_its_value.Goals as goal

pub returns-clause-expression : goal.returns-clause-expression
returns-clause-expression c = expression_has

pub returns-clause-block : goal.returns-clause-block
returns-clause-block c = block_of_text_has

pub returns-clause-function : goal.returns-clause-function
returns-clause-function c = function_has_value
