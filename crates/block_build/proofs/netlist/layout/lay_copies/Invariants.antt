use Rattle.std.proofs.Common.{◌-◌}
use Rattle.block_build.specs.Netlist.ProcRegisters.{copy_registers}
use Rattle.block_build.proofs.OnNetlist.OnLaying.{LaidLeft}
use Rattle.block_build.proofs.netlist.layout.lay_copies.Given as goal

abbrev pub invariant-stages : goal.invariant-stages
invariant-stages l = LaidLeft l.fn.registers l.registers (copy_registers l.widths.items (l.count - l.counter)) (copy_registers l.widths.items l.count)
