use Rattle.block_build.proofs.OnNetlist.OnNexts.{site_put}
use Rattle.block_build.proofs.netlist.nexts.site_next.Goals as goal

pub returns : goal.returns
returns c =
    let both = site_put c.kept_next.result c.args.wires.now c.done_next.new.wires c.kept_next.new.wires c.args.site c.args.goes c.args.moves c.in_ok-done.done c.args.nexts.now.items c.push.new.self.items c.kept_next.new.nexts.items
    c.in_ok-done.ensures.signal c.in_ok-done.ensures.puts c.in_ok-push.ensures.items c.kept_next.ensures.nexts c.kept_next.ensures.puts in
    record { nexts = both.0; puts = both.1 }
