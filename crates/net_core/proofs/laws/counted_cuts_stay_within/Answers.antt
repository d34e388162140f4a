use Rattle.net_core.proofs.Lemmas.{counted_cuts_stay_within}
use Rattle.net_core.proofs.laws.counted_cuts_stay_within.Goals as goal

pub returns : goal.returns
returns c = counted_cuts_stay_within
