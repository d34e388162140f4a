use Rattle.std.proofs.Common.{replicate}
use Rattle.block_build.specs.Netlist.Registers.{Lays, zero_register}
use Rattle.block_build.proofs.netlist.registers.RegisterList.zeros.Given as goal

abbrev pub invariant-registers : goal.invariant-registers
invariant-registers l = Lays l.fn.self l.self (replicate l.counter (zero_register l.width))
