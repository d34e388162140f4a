use Rattle.std.proofs.Common.{◌∷◌, [], map, sym}
use Rattle.delay_model.specs.declared.op.Op.TheVariants as op
use Rattle.ir_tree.specs.NodeValues.{operand_value}
use Rattle.ir_tree.specs.Operations.{index_value}
use Rattle.ir_tree.specs.Rules.Fitting.{index_fits}
use Rattle.block_build.specs.Netlist.Pure.{scope_types}
use Rattle.block_build.proofs.OnNetlist.OnSelections.{first_put, first_none}
use Rattle.block_build.proofs.netlist.nodes.element.Goals as goal

pub returns-in-Some : goal.returns-in-Some
returns-in-Some c =
    first_put c.element.result c.args.wires.now c.element.new.wires c.args.scope c.args.operands.now (c.args.index ∷ []) c.in-Some.array.now c.args.ty.now
    (λ os. index_fits op.ArrayIndex c.args.index (scope_types c.args.scope) os c.args.ty.now) (λ s values vs. index_value op.ArrayIndex (operand_value s values c.args.index) vs) (sym c.in-Some.ensures) c.element.ensures

pub returns-in-None : goal.returns-in-None
returns-in-None c =
    first_none c.args.wires.now c.args.scope c.args.operands.now (c.args.index ∷ []) c.args.ty.now (index_fits op.ArrayIndex c.args.index (scope_types c.args.scope) c.args.operands.now c.args.ty.now)
    (λ s values. index_value op.ArrayIndex (operand_value s values c.args.index) (map (operand_value s values) c.args.operands.now)) c.new.result (sym c.in-None.ensures)
