use Rattle.dslx_core.proofs.Lemmas.Typing.Laws.Reaching.{reaches_bounded, reaches_mentioned, reaches_on}
use Rattle.dslx_core.proofs.typing.laws.reaching_takes_no_more_than_the_items.Goals as goal

pub returns-clause-bounded : goal.returns-clause-bounded
returns-clause-bounded c = reaches_bounded

pub returns-clause-mentioned : goal.returns-clause-mentioned
returns-clause-mentioned c = reaches_mentioned

pub returns-clause-on : goal.returns-clause-on
returns-clause-on c = reaches_on
