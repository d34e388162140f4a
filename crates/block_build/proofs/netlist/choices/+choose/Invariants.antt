use Rattle.std.proofs.Common.{length}
use Rattle.block_build.proofs.netlist.choices.+choose.Given as goal

abbrev pub decreases-choose : goal.decreases-choose
decreases-choose l = length l.widths.now
