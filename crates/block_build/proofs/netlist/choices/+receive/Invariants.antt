use Rattle.std.proofs.Common.{length}
use Rattle.block_build.proofs.netlist.choices.+receive.Given as goal

abbrev pub decreases-receive : goal.decreases-receive
decreases-receive l = length l.widths.now
