use Rattle.std.proofs.Common.{◌≡◌, ◌+◌, ◌++◌, map, drop}
use Rattle.vlog_tree.specs.Signals.{declared_own}
use Rattle.block_verilog.specs.Assembly.{registers_declared}
use Rattle.block_verilog.proofs.assembly.declare_registers.Given as goal

abbrev pub invariant-registers : goal.invariant-registers
invariant-registers l = map declared_own l.declarations ++ registers_declared (l.first + l.i) (drop l.i l.registers) ≡ map declared_own l.initial.declarations ++ registers_declared l.first l.registers
