use Rattle.block_verilog.specs.Queues.{AreShown}
use Rattle.block_verilog.proofs.OnQueues.{NextsLeft}
use Rattle.block_verilog.proofs.queues.fifo_nexts.Given as goal

abbrev pub invariant-channels : goal.invariant-channels
invariant-channels l = AreShown l.fifos l.views → NextsLeft l.initial.wires l.wires l.fifos l.views l.ends l.i l.initial.nexts.items l.nexts.items
