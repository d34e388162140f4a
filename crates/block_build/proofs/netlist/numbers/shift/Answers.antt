use Rattle.std.specs.Prelude.{ℕ}
use Rattle.delay_model.specs.declared.op.Op.TheVariants as op
use Rattle.ir_tree.specs.Rules.Fitting.{plain_fits}
use Rattle.ir_tree.specs.Operations.{shift_word, plain_value}
use Rattle.block_build.specs.Netlist.Pure.{scope_types}
use Rattle.block_build.specs.Netlist.Results.{GivesTwo}
use Rattle.block_build.proofs.OnNetlist.OnNumbers.{two_put, shift_two}
use Rattle.block_build.proofs.netlist.numbers.shift.Goals as goal

pub returns : goal.returns
returns c =
    two_put c.one.result c.args.wires.now c.shift.new.wires c.args.scope c.args.operands.now c.in_ok-a.a c.in_ok-b.b c.in_ok-result.result
    (λ v x y. (u : ℕ) → GivesTwo v x.width u (shift_word c.args.operation) x.atom y.atom c.in_ok-result.result) (λ os. plain_fits (op.Shift c.args.operation) (scope_types c.args.scope) os) (plain_value (op.Shift c.args.operation))
    c.in_ok-a.ensures c.in_ok-b.ensures c.in_ok-result.ensures c.one.ensures (λ v p q. shift_two v c.args.scope c.args.operation p q c.in_ok-result.result)
