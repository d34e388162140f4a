use Rattle.net_core.proofs.Lemmas.{outcomes_fit}
use Rattle.net_core.proofs.laws.outcomes_fit.Goals as goal

pub returns : goal.returns
returns c = outcomes_fit
