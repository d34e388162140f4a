use Rattle.block_build.proofs.OnNetlist.OnBuffers.{SlotsPut}
use Rattle.block_build.proofs.netlist.fifos.Fifo.go_on.Given as goal

abbrev pub invariant-slots : goal.invariant-slots
invariant-slots l = SlotsPut l.fn.wires l.wires l.self l.fn.view l.ends l.x l.fn.nexts.items l.nexts.items
