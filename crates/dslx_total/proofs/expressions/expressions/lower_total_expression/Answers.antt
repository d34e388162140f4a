use Rattle.dslx_total.proofs.OnExpressions.Joined.{block_is_lowered, expression_is_lowered, type_is_lowered, type_is_wide}
use Rattle.dslx_total.proofs.expressions.expressions.lower_total_expression.Goals as goal

pub returns-clause-expression : goal.returns-clause-expression
returns-clause-expression c = expression_is_lowered

pub returns-clause-block : goal.returns-clause-block
returns-clause-block c = block_is_lowered

pub returns-clause-ty : goal.returns-clause-ty
returns-clause-ty c = type_is_lowered

pub returns-clause-wide : goal.returns-clause-wide
returns-clause-wide c = type_is_wide
