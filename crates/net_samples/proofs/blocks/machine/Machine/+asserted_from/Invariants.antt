use Rattle.net_samples.proofs.blocks.machine.Machine.+asserted_from.Given as goal

abbrev pub decreases-asserted_from : goal.decreases-asserted_from
decreases-asserted_from l = l.left
