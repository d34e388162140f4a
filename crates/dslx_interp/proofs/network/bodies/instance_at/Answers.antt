use Rattle.dslx_interp.proofs.OnNetwork.OnFamily.Bounds.{found_at}
use Rattle.dslx_interp.proofs.network.bodies.instance_at.Goals as goal

pub returns : goal.returns
returns c = found_at c.args.instances.now c.args.number c.requires.0 c.index-instances-number.result c.requires.1 c.index-instances-number.is
