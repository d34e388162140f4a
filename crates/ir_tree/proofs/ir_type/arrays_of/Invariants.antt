use Rattle.std.proofs.Common.{◌≡◌, ◌-◌, drop, length}
use Rattle.ir_tree.specs.Types.{arrays_of}
use Rattle.ir_tree.proofs.ir_type.arrays_of.Given as goal

abbrev pub invariant-sizes : goal.invariant-sizes
invariant-sizes l = l.ty ≡ arrays_of (drop (length l.sizes - l.i) l.sizes) l.fn.element
