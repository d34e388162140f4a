use Rattle.std.proofs.Common.{◌≡◌, ◌++◌, map, drop}
use Rattle.vlog_tree.specs.Signals.{declared_port}
use Rattle.block_verilog.specs.Ports.{ports_of, module_ports}
use Rattle.block_verilog.proofs.ports.module_ports.Given as goal

abbrev pub invariant-channels : goal.invariant-channels
invariant-channels l = map declared_port l.ports ++ ports_of (drop l.i l.channels) ≡ module_ports l.channels
