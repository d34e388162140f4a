use Rattle.ir_lower_nodes.proofs.OnPatterns.OnFits.{AnySo}
use Rattle.ir_lower_nodes.proofs.patterns.fitting.fits_several.Given as goal

abbrev pub invariant-shapes : goal.invariant-shapes
invariant-shapes l = AnySo l.shapes l.a l.i l.fn.nodes l.nodes l.fit
