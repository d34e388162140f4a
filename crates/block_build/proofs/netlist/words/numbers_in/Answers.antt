use Rattle.block_build.proofs.OnNetlist.OnWords.{cut_from}
use Rattle.block_build.proofs.netlist.words.numbers_in.Goals as goal

pub returns : goal.returns
returns c =
    cut_from c.args.wires.now c.receive.new.wires c.args.ty.now c.args.word.0 c.width_of-all.result c.args.on c.deref.result.now c.in_ok-widths.widths.items c.new-numbers.result.items c.receive.new.numbers.items c.from_vec.result
    c.deref.ensures.value c.in_ok-widths.ensures c.width_of-all.ensures c.new-numbers.ensures.items c.from_vec.ensures c.in_ok-receive.ensures
