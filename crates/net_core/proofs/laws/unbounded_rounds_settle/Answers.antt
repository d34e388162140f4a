use Rattle.net_core.proofs.Lemmas.{unbounded_rounds_settle}
use Rattle.net_core.proofs.laws.unbounded_rounds_settle.Goals as goal

pub returns : goal.returns
returns c = unbounded_rounds_settle
