use Rattle.std.proofs.Common.{sym, ◌∙◌}
use Rattle.block_build.proofs.OnNetlist.OnNexts.{literal_put, value_put}
use Rattle.block_build.proofs.netlist.nexts.node_next.Goals as goal

pub returns-then-is_literal : goal.returns-then-is_literal
returns-then-is_literal c =
    let d = literal_put c.args.wires.now c.args.moves.now c.args.node.now c.args.place.now c.args.last c.args.nexts.now.items (sym c.is_literal.ensures ∙ c.if-is_literal.true) in
    record { nexts = d.nexts_are; puts = d.puts }

pub returns-in_ok-widths : goal.returns-in_ok-widths
returns-in_ok-widths c =
    let d = value_put c.copy_nexts.result c.args.wires.now c.copy_nexts.new.wires c.args.moves.now c.args.node.now c.args.place.now c.args.last c.as_slice.result.now c.args.nexts.now.items c.copy_nexts.new.nexts.items
    (sym c.is_literal.ensures ∙ c.if-is_literal.false) (c.as_slice.ensures.value ∙ c.in_ok-widths.ensures) c.copy_nexts.ensures.nexts c.copy_nexts.ensures.puts in
    record { nexts = d.0; puts = d.1 }
