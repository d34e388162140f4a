use Rattle.std.proofs.Common.{length}
use Rattle.net_samples.proofs.checks.+own_ends.Given as goal

abbrev pub decreases-own_ends : goal.decreases-own_ends
decreases-own_ends l = length l.heads.now
