use Rattle.ir_rebuild.proofs.OnPutting.Counting.{CountsSo, trailing}
use Rattle.ir_rebuild.proofs.putting.bits.trailing_zeros.Given as goal

abbrev pub invariant-places : goal.invariant-places
invariant-places l = CountsSo trailing l.fn.nodes l.nodes l.i l.width l.a l.count
