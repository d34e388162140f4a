use Rattle.net_core.proofs.Lemmas.{traces_go_on_by_the_next}
use Rattle.net_core.proofs.laws.traces_go_on_by_the_next.Goals as goal

pub returns : goal.returns
returns c = traces_go_on_by_the_next
