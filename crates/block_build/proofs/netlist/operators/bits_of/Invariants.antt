use Rattle.std.proofs.Common.{◌≡◌}
use Rattle.block_build.specs.Netlist.Added.{next_number, Puts}
use Rattle.block_build.specs.Netlist.Leaves.{nets}
use Rattle.block_build.specs.Netlist.Operators.{bit_wires}
use Rattle.block_build.proofs.netlist.operators.bits_of.Given as goal

abbrev pub invariant-each : goal.invariant-each
invariant-each l = (l.bits.items ≡ nets (next_number l.initial.wires) l.i) × Puts l.initial.wires l.wires (bit_wires l.width l.signal.0 0 l.i)
