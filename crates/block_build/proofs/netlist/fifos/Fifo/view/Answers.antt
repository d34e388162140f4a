use Rattle.block_build.proofs.OnNetlist.OnBuffers.{view_put}
use Rattle.block_build.proofs.netlist.fifos.Fifo.view.Goals as goal

pub returns : goal.returns
returns c =
    let s = view_put c.args.wires.now c.binary.new.self c.binary-2.new.self c.args.self.now c.number.result c.number-2.result c.in_ok-valid.valid c.slot.result c.in_ok-room.room c.number.ensures c.number-2.ensures c.slot.ensures
    c.in_ok-valid.ensures c.in_ok-room.ensures in
    record { signals = s.signals; puts = s.puts }
