use Rattle.net_samples.proofs.blocks.machine.Machine.+moves_before.Given as goal

abbrev pub decreases-moves_before : goal.decreases-moves_before
decreases-moves_before l = l.behind
