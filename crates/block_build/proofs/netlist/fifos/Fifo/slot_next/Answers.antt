use Rattle.block_build.proofs.OnNetlist.OnBuffers.{slot_put}
use Rattle.block_build.proofs.netlist.fifos.Fifo.slot_next.Goals as goal

pub returns : goal.returns
returns c =
    let s = slot_put c.choice-2.result c.args.wires.now c.binary.new.self c.both.new.self c.choice.new.self c.choice-2.new.self c.args.self.now c.args.x c.args.flow c.args.word c.number.result c.slot_behind.result c.slot.result
    c.in_ok-free.free c.in_ok-comes.comes c.in_ok-shifted.shifted c.number.ensures c.slot_behind.ensures c.slot.ensures
    c.in_ok-free.ensures c.in_ok-comes.ensures c.in_ok-shifted.ensures c.choice-2.ensures in
    record { signal = s.0; puts = s.1 }
