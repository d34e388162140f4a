use Rattle.dslx_core.proofs.OnLowering.Joined.{block_of_text_means, expression_means, type_of_text_means}
use Rattle.dslx_core.proofs.lowering.expressions.lower_preserves_expressions.Goals as goal

pub returns-clause-expression : goal.returns-clause-expression
returns-clause-expression c = expression_means

pub returns-clause-block : goal.returns-clause-block
returns-clause-block c = block_of_text_means

pub returns-clause-ty : goal.returns-clause-ty
returns-clause-ty c = type_of_text_means
