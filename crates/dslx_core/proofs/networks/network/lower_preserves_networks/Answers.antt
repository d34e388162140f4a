use Rattle.dslx_core.proofs.OnNetworks.Networks.{networks_alike}
use Rattle.dslx_core.proofs.networks.network.lower_preserves_networks.Goals as goal

pub returns : goal.returns
returns c = networks_alike
