use Rattle.std.proofs.Common.{◌≡◌, ◌++◌, drop}
use Rattle.block_verilog.specs.Assembly.{port_drivers}
use Rattle.block_verilog.proofs.assembly.drive_all_ports.Given as goal

abbrev pub invariant-channels : goal.invariant-channels
invariant-channels l = l.made ++ port_drivers (drop l.i l.channels) (drop l.i l.ports) (drop l.i l.ends) ≡ l.initial.made ++ port_drivers l.channels l.ports l.ends
