use Rattle.dslx_interp.proofs.OnNetwork.OnReceived.{receives_if_made}
use Rattle.dslx_interp.proofs.network.linked.made_designs_receive_words.Goals as goal

pub returns : goal.returns
returns c = receives_if_made
