use Rattle.std.proofs.Common.{sym, ap, ◌∙◌}
use Rattle.std.specs.Prelude.{not}
use Rattle.xb_bits.specs.Operations as bits
use Rattle.ir_tree.specs.Operations.{holds, bit}
use Rattle.vlog_tree.specs.declared.expression.Binary.TheVariants as binary
use Rattle.vlog_tree.specs.declared.expression.Order.TheVariants as order
use Rattle.block_build.proofs.OnNetlist.OnOperators.{equal_is, less_is, not_greater_is, greater_is, not_less_is}
use Rattle.block_build.proofs.OnNetlist.OnOperating.{operator_put, signed_compared}
use Rattle.block_build.proofs.netlist.operators.compare.Goals as goal

pub returns-in-Eq : goal.returns-in-Eq
returns-in-Eq c =
    operator_put c.binary.result c.args.wires.now c.binary.new.self 1 c.args.width c.args.width c.args.a c.args.b binary.Equal (λ x y. bit (holds c.args.operation x y))
    (λ p q. ap bit (equal_is p q) ∙ sym (ap (λ o. bit (holds o p q)) c.in-Eq.is)) c.binary.ensures

pub returns-in-Ne : goal.returns-in-Ne
returns-in-Ne c =
    operator_put c.binary-in-Ne.result c.args.wires.now c.binary-in-Ne.new.self 1 c.args.width c.args.width c.args.a c.args.b binary.NotEqual (λ x y. bit (holds c.args.operation x y))
    (λ p q. ap (λ t. bit (not t)) (equal_is p q) ∙ sym (ap (λ o. bit (holds o p q)) c.in-Ne.is)) c.binary-in-Ne.ensures

pub returns-in-Ult : goal.returns-in-Ult
returns-in-Ult c =
    operator_put c.binary-in-Ult.result c.args.wires.now c.binary-in-Ult.new.self 1 c.args.width c.args.width c.args.a c.args.b (binary.Ordered order.Less) (λ x y. bit (holds c.args.operation x y))
    (λ p q. ap bit (less_is (bits.cmp_u p q)) ∙ sym (ap (λ o. bit (holds o p q)) c.in-Ult.is)) c.binary-in-Ult.ensures

pub returns-in-Ule : goal.returns-in-Ule
returns-in-Ule c =
    operator_put c.binary-in-Ule.result c.args.wires.now c.binary-in-Ule.new.self 1 c.args.width c.args.width c.args.a c.args.b (binary.Ordered order.LessOrEqual) (λ x y. bit (holds c.args.operation x y))
    (λ p q. ap bit (not_greater_is (bits.cmp_u p q)) ∙ sym (ap (λ o. bit (holds o p q)) c.in-Ule.is)) c.binary-in-Ule.ensures

pub returns-in-Ugt : goal.returns-in-Ugt
returns-in-Ugt c =
    operator_put c.binary-in-Ugt.result c.args.wires.now c.binary-in-Ugt.new.self 1 c.args.width c.args.width c.args.a c.args.b (binary.Ordered order.Greater) (λ x y. bit (holds c.args.operation x y))
    (λ p q. ap bit (greater_is (bits.cmp_u p q)) ∙ sym (ap (λ o. bit (holds o p q)) c.in-Ugt.is)) c.binary-in-Ugt.ensures

pub returns-in-Uge : goal.returns-in-Uge
returns-in-Uge c =
    operator_put c.binary-in-Uge.result c.args.wires.now c.binary-in-Uge.new.self 1 c.args.width c.args.width c.args.a c.args.b (binary.Ordered order.GreaterOrEqual) (λ x y. bit (holds c.args.operation x y))
    (λ p q. ap bit (not_less_is (bits.cmp_u p q)) ∙ sym (ap (λ o. bit (holds o p q)) c.in-Uge.is)) c.binary-in-Uge.ensures

pub returns-in-Slt : goal.returns-in-Slt
returns-in-Slt c =
    signed_compared c.signed.result c.args.wires.now c.signed.new.wires c.args.width order.Less c.args.operation c.args.a c.args.b
    (λ p q. less_is (bits.cmp_s p q) ∙ sym (ap (λ o. holds o p q) c.in-Slt.is)) c.signed.ensures

pub returns-in-Sle : goal.returns-in-Sle
returns-in-Sle c =
    signed_compared c.signed-in-Sle.result c.args.wires.now c.signed-in-Sle.new.wires c.args.width order.LessOrEqual c.args.operation c.args.a c.args.b
    (λ p q. not_greater_is (bits.cmp_s p q) ∙ sym (ap (λ o. holds o p q) c.in-Sle.is)) c.signed-in-Sle.ensures

pub returns-in-Sgt : goal.returns-in-Sgt
returns-in-Sgt c =
    signed_compared c.signed-in-Sgt.result c.args.wires.now c.signed-in-Sgt.new.wires c.args.width order.Greater c.args.operation c.args.a c.args.b
    (λ p q. greater_is (bits.cmp_s p q) ∙ sym (ap (λ o. holds o p q) c.in-Sgt.is)) c.signed-in-Sgt.ensures

pub returns-in-Sge : goal.returns-in-Sge
returns-in-Sge c =
    signed_compared c.signed-in-Sge.result c.args.wires.now c.signed-in-Sge.new.wires c.args.width order.GreaterOrEqual c.args.operation c.args.a c.args.b
    (λ p q. not_less_is (bits.cmp_s p q) ∙ sym (ap (λ o. holds o p q) c.in-Sge.is)) c.signed-in-Sge.ensures
