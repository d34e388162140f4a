use Rattle.net_core.proofs.Lemmas.{more_activations_go_on}
use Rattle.net_core.proofs.laws.more_activations_go_on.Goals as goal

pub returns : goal.returns
returns c = more_activations_go_on
