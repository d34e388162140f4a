use Rattle.std.proofs.Common.{length}
use Rattle.ir_tree.proofs.node_types.types.+same_numbers.Given as goal

abbrev pub decreases-same_numbers : goal.decreases-same_numbers
decreases-same_numbers l = length l.numbers.now
