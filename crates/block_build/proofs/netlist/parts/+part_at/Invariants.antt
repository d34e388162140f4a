use Rattle.std.proofs.Common.{length}
use Rattle.block_build.proofs.netlist.parts.+part_at.Given as goal

abbrev pub decreases-part_at : goal.decreases-part_at
decreases-part_at l = length l.parts.now
