use Rattle.std.proofs.Common.{◌≡◌, ◌+◌, ◌++◌, map, drop}
use Rattle.vlog_tree.specs.Signals.{declared_own}
use Rattle.block_verilog.specs.Assembly.{wires_declared}
use Rattle.block_verilog.proofs.assembly.declare_wires.Given as goal

abbrev pub invariant-wires : goal.invariant-wires
invariant-wires l = map declared_own l.declarations ++ wires_declared (l.first + l.i) (drop l.i l.wires) ≡ map declared_own l.initial.declarations ++ wires_declared l.first l.wires
