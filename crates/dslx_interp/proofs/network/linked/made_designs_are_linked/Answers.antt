use Rattle.dslx_interp.proofs.OnNetwork.OnLinked.{linked_if_made}
use Rattle.dslx_interp.proofs.network.linked.made_designs_are_linked.Goals as goal

pub returns : goal.returns
returns c = linked_if_made
