use Rattle.std.proofs.Common.{◌≡◌, [], drop}
use Rattle.dslx_interp.specs.Network.Inner.Counts.{counts_from}
use Rattle.dslx_interp.proofs.network.count.counts_of.Given as goal

abbrev pub invariant-instances : goal.invariant-instances
invariant-instances l = counts_from l.counts.items (drop l.instance-index l.instances) ≡ counts_from [] l.instances
