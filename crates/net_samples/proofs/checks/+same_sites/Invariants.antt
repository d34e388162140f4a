use Rattle.std.proofs.Common.{length}
use Rattle.net_samples.proofs.checks.+same_sites.Given as goal

abbrev pub decreases-same_sites : goal.decreases-same_sites
decreases-same_sites l = length l.sites.now
