use Rattle.net_samples.proofs.blocks.machine.Machine.+walk.Given as goal

abbrev pub decreases-walk : goal.decreases-walk
decreases-walk l = l.left
