use Rattle.std.proofs.Common.{sym, ap, subst}
use Rattle.std.specs.Prelude.{IfOk}
use Rattle.ir_tree.specs.Operations.{binary_word}
use Rattle.vlog_tree.specs.declared.expression.Binary.TheVariants as binary
use Rattle.block_build.specs.Netlist.Added.{AddsWires}
use Rattle.block_build.specs.Netlist.Results.{GivesTwo}
use Rattle.block_build.proofs.OnNetlist.OnOperating.{operator_put}
use Rattle.block_build.proofs.netlist.operators.binary.Goals as goal

pub returns-in-Add : goal.returns-in-Add
returns-in-Add c =
    operator_put c.binary.result c.args.wires.now c.binary.new.self c.args.width c.args.width c.args.width c.args.a c.args.b binary.Add (binary_word c.args.operation)
    (λ p q. sym (ap (λ o. binary_word o p q) c.in-Add.is)) c.binary.ensures

pub returns-in-Sub : goal.returns-in-Sub
returns-in-Sub c =
    operator_put c.binary-in-Sub.result c.args.wires.now c.binary-in-Sub.new.self c.args.width c.args.width c.args.width c.args.a c.args.b binary.Subtract (binary_word c.args.operation)
    (λ p q. sym (ap (λ o. binary_word o p q) c.in-Sub.is)) c.binary-in-Sub.ensures

pub returns-in-Umul : goal.returns-in-Umul
returns-in-Umul c =
    operator_put c.binary-in-Umul.result c.args.wires.now c.binary-in-Umul.new.self c.args.width c.args.width c.args.width c.args.a c.args.b binary.Multiply (binary_word c.args.operation)
    (λ p q. sym (ap (λ o. binary_word o p q) c.in-Umul.is)) c.binary-in-Umul.ensures

pub returns-in-And : goal.returns-in-And
returns-in-And c =
    operator_put c.binary-in-And.result c.args.wires.now c.binary-in-And.new.self c.args.width c.args.width c.args.width c.args.a c.args.b binary.And (binary_word c.args.operation)
    (λ p q. sym (ap (λ o. binary_word o p q) c.in-And.is)) c.binary-in-And.ensures

pub returns-in-Or : goal.returns-in-Or
returns-in-Or c =
    operator_put c.binary-in-Or.result c.args.wires.now c.binary-in-Or.new.self c.args.width c.args.width c.args.width c.args.a c.args.b binary.Or (binary_word c.args.operation)
    (λ p q. sym (ap (λ o. binary_word o p q) c.in-Or.is)) c.binary-in-Or.ensures

pub returns-in-Xor : goal.returns-in-Xor
returns-in-Xor c =
    operator_put c.binary-in-Xor.result c.args.wires.now c.binary-in-Xor.new.self c.args.width c.args.width c.args.width c.args.a c.args.b binary.Xor (binary_word c.args.operation)
    (λ p q. sym (ap (λ o. binary_word o p q) c.in-Xor.is)) c.binary-in-Xor.ensures

pub returns-in-Udiv : goal.returns-in-Udiv
returns-in-Udiv c =
    subst (λ o. IfOk c.quotient.result (λ r. AddsWires c.args.wires.now c.quotient.new.wires (λ v. GivesTwo v c.args.width c.args.width (binary_word o) c.args.a c.args.b r))) (sym c.in-Udiv.is) c.quotient.ensures

pub returns-in-Umod : goal.returns-in-Umod
returns-in-Umod c =
    subst (λ o. IfOk c.remainder.result (λ r. AddsWires c.args.wires.now c.remainder.new.wires (λ v. GivesTwo v c.args.width c.args.width (binary_word o) c.args.a c.args.b r))) (sym c.in-Umod.is) c.remainder.ensures
