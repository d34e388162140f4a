use Rattle.block_build.proofs.OnNetlist.OnBuffers.{grown_put}
use Rattle.block_build.proofs.netlist.fifos.Fifo.grown.Goals as goal

pub returns : goal.returns
returns c =
    let s = grown_put c.choice.result c.args.wires.now c.binary.new.self c.choice.new.self c.args.self.now.count_width c.args.takes c.args.between c.number.result c.in_ok-more.more c.number.ensures c.in_ok-more.ensures c.choice.ensures in
    record { signal = s.0; puts = s.1 }
