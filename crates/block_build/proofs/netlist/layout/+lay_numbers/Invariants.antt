use Rattle.std.proofs.Common.{length}
use Rattle.block_build.proofs.netlist.layout.+lay_numbers.Given as goal

abbrev pub decreases-lay_numbers : goal.decreases-lay_numbers
decreases-lay_numbers l = length l.widths.now
