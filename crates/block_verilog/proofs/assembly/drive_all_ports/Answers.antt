use Rattle.std.proofs.Common.{arith}
use Rattle.block_verilog.proofs.OnAssembly.{drivers_done}
use Rattle.block_verilog.proofs.assembly.drive_all_ports.Goals as goal

pub returns : goal.returns
returns c =
    drivers_done c.args.channels.now c.args.ports.now c.args.ends.now c.channels.i c.args.made.now c.channels.made (omega (arith, c.channels-test.false, c.min-count.ensures, c.min.ensures)) c.channels.invariant
