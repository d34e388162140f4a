use Rattle.net_core.proofs.Lemmas.{traces_grow}
use Rattle.net_core.proofs.laws.traces_grow.Goals as goal

pub returns : goal.returns
returns c = traces_grow
