use Rattle.std.proofs.Common.{sym, ap}
use Rattle.ir_tree.specs.Operations.{reduce_word}
use Rattle.vlog_tree.specs.declared.expression.Unary.TheVariants as unary
use Rattle.block_build.proofs.OnNetlist.OnOperating.{reduce_put}
use Rattle.block_build.proofs.netlist.operators.reduce.Goals as goal

pub returns-in-And : goal.returns-in-And
returns-in-And c =
    reduce_put c.unary.result c.args.wires.now c.unary.new.self c.args.operation c.args.a unary.AllOnes (λ p. sym (ap (λ o. reduce_word o p) c.in-And.is)) c.unary.ensures

pub returns-in-Or : goal.returns-in-Or
returns-in-Or c =
    reduce_put c.unary-in-Or.result c.args.wires.now c.unary-in-Or.new.self c.args.operation c.args.a unary.SomeOne (λ p. sym (ap (λ o. reduce_word o p) c.in-Or.is)) c.unary-in-Or.ensures

pub returns-in-Xor : goal.returns-in-Xor
returns-in-Xor c =
    reduce_put c.unary-in-Xor.result c.args.wires.now c.unary-in-Xor.new.self c.args.operation c.args.a unary.Parity (λ p. sym (ap (λ o. reduce_word o p) c.in-Xor.is)) c.unary-in-Xor.ensures
