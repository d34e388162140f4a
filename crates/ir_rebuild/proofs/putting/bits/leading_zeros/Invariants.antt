use Rattle.ir_rebuild.proofs.OnPutting.Counting.{CountsSo, leading}
use Rattle.ir_rebuild.proofs.putting.bits.leading_zeros.Given as goal

abbrev pub invariant-places : goal.invariant-places
invariant-places l = CountsSo leading l.fn.nodes l.nodes l.i l.width l.a l.count
