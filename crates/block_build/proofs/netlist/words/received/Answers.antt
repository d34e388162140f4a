use Rattle.std.proofs.Common.{sym}
use Rattle.block_build.proofs.OnNetlist.OnWords.{received_put}
use Rattle.block_build.proofs.netlist.words.received.Goals as goal

pub returns-in-Some : goal.returns-in-Some
returns-in-Some c =
    received_put c.numbers_in.result c.args.wires.now c.numbers_in.new.wires c.args.channels.now c.args.channel c.in-Some.channel.now c.args.word.0 c.args.on (sym c.in-Some.ensures) c.numbers_in.ensures
