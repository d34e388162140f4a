use Rattle.block_verilog.proofs.OnStreams.OnNetworks.{scheduled_are_legal}
use Rattle.block_verilog.proofs.streams.laws.built_modules_are_hardware.Goals as goal

pub returns : goal.returns
returns c m ir clock schedules depths verified scheduled made = record { clock = clock; verified = verified; legal = scheduled_are_legal clock ir.procs schedules scheduled; made = made }
