use Rattle.delay_model.specs.declared.op.Op.TheVariants as op
use Rattle.ir_tree.specs.Rules.Fitting.{plain_fits}
use Rattle.ir_tree.specs.Operations.{bit, holds, plain_value}
use Rattle.block_build.specs.Netlist.Pure.{scope_types}
use Rattle.block_build.specs.Netlist.Results.{GivesTwo}
use Rattle.block_build.proofs.OnNetlist.OnNumbers.{two_put, compare_two}
use Rattle.block_build.proofs.netlist.numbers.compare.Goals as goal

pub returns : goal.returns
returns c =
    two_put c.one.result c.args.wires.now c.compare.new.wires c.args.scope c.args.operands.now c.in_ok-a.a c.in_ok-b.b c.in_ok-result.result
    (λ v x y. GivesTwo v x.width x.width (λ m n. bit (holds c.args.operation m n)) x.atom y.atom c.in_ok-result.result) (λ os. plain_fits (op.Compare c.args.operation) (scope_types c.args.scope) os) (plain_value (op.Compare c.args.operation))
    c.in_ok-a.ensures c.in_ok-b.ensures c.in_ok-result.ensures c.one.ensures (λ v p q. compare_two v c.args.scope c.args.operation p q c.in_ok-result.result)
