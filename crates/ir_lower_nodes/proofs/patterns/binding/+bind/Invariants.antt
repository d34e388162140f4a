use Rattle.ir_lower_nodes.specs.Patterns.Given.{AddsOperands}
use Rattle.ir_lower_nodes.proofs.OnPatterns.OnBound.{BindsSo}
use Rattle.ir_lower_nodes.proofs.patterns.binding.+bind.Given as goal

abbrev pub invariant-bind_each-shapes : goal.invariant-bind_each-shapes
invariant-bind_each-shapes l = AddsOperands l.fn.slots.items l.slots.items × BindsSo l.shapes l.tuple l.i l.fn.nodes l.nodes l.fn.slots.items l.slots.items
