use Rattle.std.proofs.Common.{◌-◌}
use Rattle.block_build.specs.Netlist.ProcRegisters.{full_registers}
use Rattle.block_build.proofs.OnNetlist.OnLaying.{LaidLeft}
use Rattle.block_build.proofs.netlist.layout.lay_full.Given as goal

abbrev pub invariant-stages : goal.invariant-stages
invariant-stages l = LaidLeft l.fn.registers l.registers (full_registers l.stage (l.stages - l.stage)) (full_registers 0 l.stages)
