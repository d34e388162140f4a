use Rattle.ir_rebuild.proofs.OnPutting.OnTests.{PartsSo, ElementsSo}
use Rattle.ir_rebuild.proofs.putting.equality.+equals.Given as goal

abbrev pub invariant-equal_parts-parts : goal.invariant-equal_parts-parts
invariant-equal_parts-parts l = PartsSo l.fn.nodes l.nodes l.wanted l.i l.tuple l.equal

abbrev pub invariant-equal_elements-elements : goal.invariant-equal_elements-elements
invariant-equal_elements-elements l = ElementsSo l.fn.nodes l.nodes l.wanted l.i l.array l.equal
