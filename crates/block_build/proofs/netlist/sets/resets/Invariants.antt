use Rattle.std.proofs.Common.{◌≡◌, take}
use Rattle.block_build.specs.Netlist.Registers.{resets_of}
use Rattle.block_build.proofs.netlist.sets.resets.Given as goal

abbrev pub invariant-registers : goal.invariant-registers
invariant-registers l = l.resets.items ≡ resets_of (take l.register-index l.registers)
