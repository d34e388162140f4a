use Rattle.net_core.proofs.Lemmas.{steps_stay_within}
use Rattle.net_core.proofs.laws.steps_stay_within.Goals as goal

pub returns : goal.returns
returns c = steps_stay_within
