use Rattle.std.proofs.Common.{length}
use Rattle.block_build.proofs.netlist.layout.+lay_copy.Given as goal

abbrev pub decreases-lay_copy : goal.decreases-lay_copy
decreases-lay_copy l = length l.widths.now
