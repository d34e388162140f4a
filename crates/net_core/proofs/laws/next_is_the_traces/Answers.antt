use Rattle.net_core.proofs.Lemmas.{next_is_the_traces}
use Rattle.net_core.proofs.laws.next_is_the_traces.Goals as goal

pub returns : goal.returns
returns c = next_is_the_traces
