use Rattle.std.proofs.Common.{sym, ap, subst}
use Rattle.std.specs.Prelude.{IfOk}
use Rattle.ir_tree.specs.Operations.{unary_word}
use Rattle.vlog_tree.specs.declared.expression.Unary.TheVariants as unary
use Rattle.block_build.specs.Netlist.Added.{AddsWires}
use Rattle.block_build.specs.Netlist.Results.{GivesOne}
use Rattle.block_build.proofs.OnNetlist.OnOperating.{unary_put}
use Rattle.block_build.proofs.netlist.operators.unary.Goals as goal

pub returns-in-Not : goal.returns-in-Not
returns-in-Not c =
    unary_put c.unary.result c.args.wires.now c.unary.new.self c.args.width c.args.a unary.Complement (unary_word c.args.operation) (λ p. sym (ap (λ o. unary_word o p) c.in-Not.is)) c.unary.ensures

pub returns-in-Neg : goal.returns-in-Neg
returns-in-Neg c =
    unary_put c.unary-in-Neg.result c.args.wires.now c.unary-in-Neg.new.self c.args.width c.args.a unary.Negate (unary_word c.args.operation) (λ p. sym (ap (λ o. unary_word o p) c.in-Neg.is)) c.unary-in-Neg.ensures

pub returns-in-Reverse : goal.returns-in-Reverse
returns-in-Reverse c =
    subst (λ o. IfOk c.reversed.result (λ r. AddsWires c.args.wires.now c.reversed.new.wires (λ v. GivesOne v c.args.width (unary_word o) c.args.a r))) (sym c.in-Reverse.is) c.reversed.ensures
