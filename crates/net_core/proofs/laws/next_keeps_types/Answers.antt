use Rattle.net_core.proofs.Lemmas.{next_keeps_types}
use Rattle.net_core.proofs.laws.next_keeps_types.Goals as goal

pub returns : goal.returns
returns c = next_keeps_types
