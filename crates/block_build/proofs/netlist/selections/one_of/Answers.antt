use Rattle.std.proofs.Common.{◌∙◌, length}
use Rattle.block_build.proofs.OnNetlist.OnSelections.{chosen_put}
use Rattle.block_build.proofs.netlist.selections.one_of.Goals as goal

pub returns : goal.returns
returns c =
    chosen_put c.select.result c.args.wires.now c.select.new.wires c.args.number.atom c.args.number.width (length c.args.widths.now) c.deref.result.now c.in_ok-other.other c.args.scope c.args.cases.now c.args.other
    (c.deref.ensures.value ∙ c.in_ok-values.ensures) c.in_ok-other.ensures c.select.ensures
