use Rattle.std.proofs.Common.{ap, ◌∙◌}
use Rattle.block_build.specs.Netlist.Leaves.{all_leaves}
use Rattle.block_build.proofs.OnNetlist.OnNumbers.{concat_put}
use Rattle.block_build.proofs.netlist.numbers.concat.Goals as goal

pub returns : goal.returns
returns c =
    concat_put c.one.result c.args.wires.now c.joined.new.wires c.args.scope c.args.operands.now c.in_ok-shown.shown.items c.as_slice.result.now c.in_ok-result.result
    c.in_ok-shown.ensures (c.as_slice.ensures ∙ c.in_ok-atoms.ensures ∙ ap all_leaves c.deref.ensures.value) c.in_ok-result.ensures c.one.ensures
