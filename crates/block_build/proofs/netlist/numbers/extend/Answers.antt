use Rattle.std.proofs.Common.{◌≤◌}
use Rattle.delay_model.specs.declared.op.Op.TheVariants as op
use Rattle.ir_tree.specs.Operations.{extend_word, longer_value}
use Rattle.ir_tree.specs.Types.{bounded}
use Rattle.ir_tree.specs.Rules.Fitting.{extend_fits}
use Rattle.block_build.specs.Netlist.Pure.{scope_types}
use Rattle.block_build.specs.Netlist.Results.{GivesOne}
use Rattle.block_build.proofs.OnNetlist.OnNumbers.{one_put, extend_one, extend_bounded}
use Rattle.block_build.proofs.netlist.numbers.extend.Goals as goal

pub returns : goal.returns
returns c =
    one_put c.one.result c.args.wires.now c.extend.new.wires c.args.scope c.args.operands.now c.in_ok-a.a c.in_ok-result.result
    (λ v x. x.width ≤ bounded c.args.width → bounded c.args.width ≤ 128 → GivesOne v x.width (λ m. extend_word c.args.operation m (bounded c.args.width)) x.atom c.in_ok-result.result)
    (λ os. extend_fits c.args.width (scope_types c.args.scope) os) (longer_value (op.Extend c.args.operation) c.args.width)
    c.in_ok-a.ensures (extend_bounded c.args.wires.now c.extend.new.wires c.args.operation c.in_ok-a.a.width c.bounded.result c.args.width c.in_ok-a.a.atom c.in_ok-result.result c.bounded.ensures c.in_ok-result.ensures)
    c.one.ensures (λ v p. extend_one v c.args.scope c.args.operation c.args.width p c.in_ok-result.result)
