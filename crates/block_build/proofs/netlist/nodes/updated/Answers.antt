use Rattle.std.proofs.Common.{◌∷◌, [], map, sym}
use Rattle.delay_model.specs.declared.op.Op.TheVariants as op
use Rattle.ir_tree.specs.NodeValues.{operand_value}
use Rattle.ir_tree.specs.Operations.{index_value}
use Rattle.ir_tree.specs.Rules.Fitting.{index_fits}
use Rattle.block_build.specs.Netlist.Pure.{scope_types}
use Rattle.block_build.proofs.OnNetlist.OnSelections.{updated_put, both_none, second_none}
use Rattle.block_build.proofs.netlist.nodes.updated.Goals as goal

pub returns-in-Some-at : goal.returns-in-Some-at
returns-in-Some-at c =
    updated_put c.updated.result c.args.wires.now c.updated.new.wires c.args.scope c.args.operands.now c.in-Some-at.array.now c.in-Some.element.now c.args.index c.args.ty.now (sym c.in-Some-at.ensures) (sym c.in-Some.ensures) c.updated.ensures

pub returns-in-None-at : goal.returns-in-None-at
returns-in-None-at c =
    both_none c.args.wires.now c.args.scope c.args.operands.now (c.args.index ∷ []) c.args.ty.now (index_fits op.ArrayUpdate c.args.index (scope_types c.args.scope) c.args.operands.now c.args.ty.now)
    (λ s values. index_value op.ArrayUpdate (operand_value s values c.args.index) (map (operand_value s values) c.args.operands.now)) c.new.result (sym c.in-None-at.ensures)

pub returns-in-None : goal.returns-in-None
returns-in-None c =
    second_none c.args.wires.now c.args.scope c.args.operands.now (c.args.index ∷ []) c.args.ty.now (index_fits op.ArrayUpdate c.args.index (scope_types c.args.scope) c.args.operands.now c.args.ty.now)
    (λ s values. index_value op.ArrayUpdate (operand_value s values c.args.index) (map (operand_value s values) c.args.operands.now)) c.new-in-None.result (sym c.in-None.ensures)
