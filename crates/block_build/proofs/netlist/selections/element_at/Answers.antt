use Rattle.std.proofs.Common.{length, ◌∙◌}
use Rattle.block_build.proofs.OnNetlist.OnSelections.{element_last, no_elements}
use Rattle.block_build.proofs.netlist.selections.element_at.Goals as goal

pub returns-in-empty : goal.returns-in-empty
returns-in-empty c = no_elements c.args.wires.now c.args.number.atom c.args.number.width (length c.args.widths.now) c.args.elements.now c.new.result c.in-empty.len_below c.new.ensures

pub returns-in_ok-last-in-len1-up : goal.returns-in_ok-last-in-len1-up
returns-in_ok-last-in-len1-up c =
    element_last c.select.result c.args.wires.now c.select.new.wires c.args.number.atom c.args.number.width (length c.args.widths.now) c.args.elements.now c.last-item.result c.in_ok-last-in-len1-up.last c.numbers_of-most.result
    c.in-len1-up.len_at_least c.last-item.is (c.in_ok-last-in-len1-up.ensures ∙ c.as_slice.ensures) c.numbers_of-most.ensures c.select.ensures
