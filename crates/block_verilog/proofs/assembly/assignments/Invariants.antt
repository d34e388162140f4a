use Rattle.std.proofs.Common.{◌≡◌, ◌++◌}
use Rattle.std.specs.Vec.Iter.{into_iter_items}
use Rattle.block_build.specs.Netlist.Wires.{assigned}
use Rattle.block_verilog.proofs.assembly.assignments.Given as goal

abbrev pub invariant-wires : goal.invariant-wires
invariant-wires l = (l.made ≡ assigned l.first l.yielded) × (l.fn.wires.items ≡ l.yielded ++ into_iter_items l.wire-iterator)
