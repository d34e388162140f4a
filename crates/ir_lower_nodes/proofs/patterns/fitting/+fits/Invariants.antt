use Rattle.ir_lower_nodes.proofs.OnPatterns.OnFits.{FitsSo}
use Rattle.ir_lower_nodes.proofs.patterns.fitting.+fits.Given as goal

abbrev pub invariant-fits_each-shapes : goal.invariant-fits_each-shapes
invariant-fits_each-shapes l = FitsSo l.shapes l.tuple l.i l.fn.nodes l.nodes l.fit
