use Rattle.dslx_total.proofs.OnTyped.Joined.{block_is_typed, expression_is_typed}
use Rattle.dslx_total.proofs.typed.expressions.lowered_expressions_are_typed.Goals as goal

pub returns-clause-expression : goal.returns-clause-expression
returns-clause-expression c = expression_is_typed

pub returns-clause-block : goal.returns-clause-block
returns-clause-block c = block_is_typed
