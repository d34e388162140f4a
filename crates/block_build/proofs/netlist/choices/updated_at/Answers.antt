use Rattle.std.proofs.Common.{sym, ◌∙◌}
use Rattle.block_build.proofs.OnNetlist.OnChoosing.{updated_picked}
use Rattle.block_build.proofs.netlist.choices.updated_at.Goals as goal

pub returns-then-has_number : goal.returns-then-has_number
returns-then-has_number c =
    updated_picked c.pick.result c.args.wires.now c.pick.new.wires c.args.index c.literal.result c.args.bits c.args.i c.args.widths.now c.args.element.now c.args.old.now (sym c.has_number.ensures ∙ c.if-has_number.true) c.literal.ensures c.pick.ensures.shows
