use Rattle.std.proofs.Common.{◌≡◌, ◌++◌, drop}
use Rattle.block_verilog.specs.Ports.{ports_from}
use Rattle.block_verilog.proofs.ports.port_numbers.Given as goal

abbrev pub invariant-channels : goal.invariant-channels
invariant-channels l = l.numbers.items ++ ports_from l.next (drop l.i l.channels) ≡ ports_from l.first l.channels
