use Rattle.std.proofs.Common.{length}
use Rattle.net_samples.proofs.checks.+each_given.Given as goal

abbrev pub decreases-each_given : goal.decreases-each_given
decreases-each_given l = length l.chans.now
