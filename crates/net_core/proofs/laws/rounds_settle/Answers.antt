use Rattle.net_core.proofs.Lemmas.{rounds_settle}
use Rattle.net_core.proofs.laws.rounds_settle.Goals as goal

pub returns : goal.returns
returns c = rounds_settle
