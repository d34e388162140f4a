use Rattle.block_verilog.proofs.OnQueues.{FifosLeft}
use Rattle.block_verilog.proofs.queues.lay_fifos.Given as goal

abbrev pub invariant-channels : goal.invariant-channels
invariant-channels l = FifosLeft l.fn.registers l.registers l.depths l.channels l.i l.fifos.items
