use Rattle.dslx_core.proofs.Lemmas.Typing.Laws.Reaching.{item_ranked}
use Rattle.dslx_core.proofs.typing.laws.items_have_ranks.Goals as goal

pub returns : goal.returns
returns c = item_ranked
