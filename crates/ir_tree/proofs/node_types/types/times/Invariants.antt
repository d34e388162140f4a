use Rattle.std.proofs.Common.{◌≡◌, ◌-◌, drop, length}
use Rattle.ir_tree.specs.NodeTypes.Inner.Scaled.{scaled}
use Rattle.ir_tree.proofs.node_types.types.times.Given as goal

abbrev pub invariant-sizes : goal.invariant-sizes
invariant-sizes l = l.total ≡ scaled l.fn.count (drop (length l.sizes - l.i) l.sizes)
