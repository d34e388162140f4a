use Rattle.delay_model.specs.declared.op.Op.TheVariants as op
use Rattle.ir_tree.specs.Rules.Fitting.{plain_fits}
use Rattle.ir_tree.specs.Operations.{unary_word, plain_value}
use Rattle.block_build.specs.Netlist.Pure.{scope_types}
use Rattle.block_build.specs.Netlist.Results.{GivesOne}
use Rattle.block_build.proofs.OnNetlist.OnNumbers.{one_put, unary_one}
use Rattle.block_build.proofs.netlist.numbers.unary.Goals as goal

pub returns : goal.returns
returns c =
    one_put c.one.result c.args.wires.now c.unary.new.wires c.args.scope c.args.operands.now c.in_ok-a.a c.in_ok-result.result
    (λ v x. GivesOne v x.width (unary_word c.args.operation) x.atom c.in_ok-result.result) (λ os. plain_fits (op.Unary c.args.operation) (scope_types c.args.scope) os) (plain_value (op.Unary c.args.operation))
    c.in_ok-a.ensures c.in_ok-result.ensures c.one.ensures (λ v p. unary_one v c.args.scope c.args.operation p c.in_ok-result.result)
