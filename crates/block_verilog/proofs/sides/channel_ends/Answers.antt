use Rattle.block_verilog.proofs.OnEnds.{ends_put}
use Rattle.block_verilog.proofs.sides.channel_ends.Goals as goal

pub returns : goal.returns
returns c =
    ends_put c.args.wires.now c.some_at.new.wires c.some_at-2.new.wires c.word_at.new.wires c.args.made.now c.args.reader c.args.writer c.args.channel c.args.width c.in_ok-ready.ready c.in_ok-offered.offered c.in_ok-word.word
    c.in_ok-ready.ensures c.in_ok-offered.ensures c.in_ok-word.ensures
