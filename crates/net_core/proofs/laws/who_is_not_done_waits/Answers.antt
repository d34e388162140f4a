use Rattle.net_core.proofs.Lemmas.{who_is_not_done_waits}
use Rattle.net_core.proofs.laws.who_is_not_done_waits.Goals as goal

pub returns : goal.returns
returns c = who_is_not_done_waits
