use Rattle.std.proofs.Common.{◌++◌, sym}
use Rattle.xb_bits.specs.Word.{Word}
use Rattle.ir_tree.specs.NodeValues.{optional_value}
use Rattle.ir_tree.specs.Operations.{of_one, on_word, chosen}
use Rattle.ir_tree.specs.Rules.Fitting.{sel_fits}
use Rattle.ir_tree.specs.NodeValues.{operand_value}
use Rattle.block_build.specs.Netlist.Nodes.{optional_read}
use Rattle.block_build.specs.Netlist.Pure.{scope_types}
use Rattle.std.proofs.Common.{map}
use Rattle.block_build.proofs.OnNetlist.OnSelections.{first_put, first_none}
use Rattle.block_build.proofs.netlist.nodes.selected.Goals as goal

pub returns-in-Some : goal.returns-in-Some
returns-in-Some c =
    first_put c.selected.result c.args.wires.now c.selected.new.wires c.args.scope c.args.operands.now (c.args.cases.now ++ optional_read c.args.default) c.in-Some.selector.now c.args.ty.now
    (λ os. sel_fits c.args.cases.now c.args.default (scope_types c.args.scope) os c.args.ty.now)
    (λ s values vs. of_one (on_word (λ (x : Word). optional_value s values (chosen c.args.cases.now c.args.default x.value))) vs) (sym c.in-Some.ensures) c.selected.ensures

pub returns-in-None : goal.returns-in-None
returns-in-None c =
    first_none c.args.wires.now c.args.scope c.args.operands.now (c.args.cases.now ++ optional_read c.args.default) c.args.ty.now (sel_fits c.args.cases.now c.args.default (scope_types c.args.scope) c.args.operands.now c.args.ty.now)
    (λ s values. of_one (on_word (λ (x : Word). optional_value s values (chosen c.args.cases.now c.args.default x.value))) (map (operand_value s values) c.args.operands.now)) c.new.result (sym c.in-None.ensures)
