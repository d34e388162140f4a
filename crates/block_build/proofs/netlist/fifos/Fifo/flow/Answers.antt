use Rattle.block_build.proofs.OnNetlist.OnBuffers.{flow_put}
use Rattle.block_build.proofs.netlist.fifos.Fifo.flow.Goals as goal

pub returns : goal.returns
returns c =
    let s = flow_put c.args.wires.now c.both.new.self c.both-2.new.self c.binary.new.self c.choice.new.self c.grown.new.wires c.args.self.now c.args.view c.args.ends c.number.result c.in_ok-gives.gives c.in_ok-takes.takes c.in_ok-less.less
    c.in_ok-between.between c.in_ok-count.count c.number.ensures c.in_ok-gives.ensures c.in_ok-takes.ensures c.in_ok-less.ensures c.in_ok-between.ensures c.in_ok-count.ensures.signal c.in_ok-count.ensures.puts in
    record { signals = s.signals; number = s.number; puts = s.puts }
