use Rattle.std.proofs.Common.{sym, subst}
use Rattle.std.specs.Prelude.{IfOk}
use Rattle.delay_model.specs.Signatures.{count_of}
use Rattle.ir_tree.specs.Operations.{plain_value}
use Rattle.ir_tree.specs.Rules.Fitting.{plain_fits}
use Rattle.block_build.specs.Netlist.Added.{AddsWires}
use Rattle.block_build.specs.Netlist.Pure.{scope_types, ShowsOperation}
use Rattle.block_build.proofs.OnNetlist.OnPure.{tuple_put, array_put, plain_default}
use Rattle.block_build.proofs.netlist.nodes.plain.Goals as goal

pub returns-in-Binary : goal.returns-in-Binary
returns-in-Binary c =
    subst (λ o. IfOk c.binary.result (λ own. AddsWires c.args.wires.now c.binary.new.wires (λ v. ShowsOperation v c.args.scope (count_of o) c.args.operands.now (plain_fits o (scope_types c.args.scope) c.args.operands.now) (plain_value o) own))) (sym c.in-Binary.is) c.binary.ensures

pub returns-in-Unary : goal.returns-in-Unary
returns-in-Unary c =
    subst (λ o. IfOk c.unary.result (λ own. AddsWires c.args.wires.now c.unary.new.wires (λ v. ShowsOperation v c.args.scope (count_of o) c.args.operands.now (plain_fits o (scope_types c.args.scope) c.args.operands.now) (plain_value o) own))) (sym c.in-Unary.is) c.unary.ensures

pub returns-in-Compare : goal.returns-in-Compare
returns-in-Compare c =
    subst (λ o. IfOk c.compare.result (λ own. AddsWires c.args.wires.now c.compare.new.wires (λ v. ShowsOperation v c.args.scope (count_of o) c.args.operands.now (plain_fits o (scope_types c.args.scope) c.args.operands.now) (plain_value o) own))) (sym c.in-Compare.is) c.compare.ensures

pub returns-in-Shift : goal.returns-in-Shift
returns-in-Shift c =
    subst (λ o. IfOk c.shift.result (λ own. AddsWires c.args.wires.now c.shift.new.wires (λ v. ShowsOperation v c.args.scope (count_of o) c.args.operands.now (plain_fits o (scope_types c.args.scope) c.args.operands.now) (plain_value o) own))) (sym c.in-Shift.is) c.shift.ensures

pub returns-in-Reduce : goal.returns-in-Reduce
returns-in-Reduce c =
    subst (λ o. IfOk c.reduce.result (λ own. AddsWires c.args.wires.now c.reduce.new.wires (λ v. ShowsOperation v c.args.scope (count_of o) c.args.operands.now (plain_fits o (scope_types c.args.scope) c.args.operands.now) (plain_value o) own))) (sym c.in-Reduce.is) c.reduce.ensures

pub returns-in-Concat : goal.returns-in-Concat
returns-in-Concat c =
    subst (λ o. IfOk c.concat.result (λ own. AddsWires c.args.wires.now c.concat.new.wires (λ v. ShowsOperation v c.args.scope (count_of o) c.args.operands.now (plain_fits o (scope_types c.args.scope) c.args.operands.now) (plain_value o) own))) (sym c.in-Concat.is) c.concat.ensures

pub returns-in-Tuple : goal.returns-in-Tuple
returns-in-Tuple c = tuple_put c.gathered.result c.args.wires.now c.args.scope c.args.op c.args.operands.now c.in-Tuple.is c.gathered.ensures

pub returns-in-Array : goal.returns-in-Array
returns-in-Array c = array_put c.gathered-in-Array.result c.args.wires.now c.args.scope c.args.op c.args.operands.now c.in-Array.is c.gathered-in-Array.ensures

pub returns-in_default : goal.returns-in_default
returns-in_default c =
    plain_default c.args.wires.now c.args.scope c.args.op c.args.operands.now c.new.result c.in_default.not-Binary c.in_default.not-Unary c.in_default.not-Compare c.in_default.not-Shift c.in_default.not-Reduce
    c.in_default.not-Concat c.in_default.not-Tuple c.in_default.not-Array c.new.ensures
