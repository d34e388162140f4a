use Rattle.std.proofs.Common.{ap}
use Rattle.block_build.specs.Netlist.Gates.{net}
use Rattle.block_build.proofs.netlist.wires.WireList.driven.Goals as goal

pub returns : goal.returns
returns c = record { number = ap net c.in_ok-wire.ensures.number; puts = c.in_ok-wire.ensures.puts }
