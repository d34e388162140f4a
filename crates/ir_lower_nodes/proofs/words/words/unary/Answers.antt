use Rattle.std.proofs.Common.{ap}
use Rattle.std.proofs.lemmas.Result.{IfOk-weaker}
use Rattle.xb_bits.specs.Operations as op
use Rattle.dslx_core.specs.CoreValues.{unary_word}
use Rattle.dslx_core.specs.Types.Typing.{unary_type}
use Rattle.ir_lower_nodes.proofs.OnWords.OnWords.{unary_put}
use Rattle.ir_lower_nodes.proofs.words.words.unary.Goals as goal

pub returns-in-Neg : goal.returns-in-Neg
returns-in-Neg c = IfOk-weaker c.unary.result _ _ (λ o call. unary_put c.args.nodes.now c.unary.new.self c.args.op c.args.a o op.neg (λ w. w) (λ w. ap (λ k. unary_type k w) c.in-Neg.is) (λ x. ap (λ k. unary_word k x) c.in-Neg.is) call) c.unary.ensures

pub returns-in-Not : goal.returns-in-Not
returns-in-Not c = IfOk-weaker c.unary-in-Not.result _ _ (λ o call. unary_put c.args.nodes.now c.unary-in-Not.new.self c.args.op c.args.a o op.not (λ w. w) (λ w. ap (λ k. unary_type k w) c.in-Not.is) (λ x. ap (λ k. unary_word k x) c.in-Not.is) call) c.unary-in-Not.ensures

pub returns-in-Clz : goal.returns-in-Clz
returns-in-Clz c = IfOk-weaker c.leading_zeros.result _ _ (λ o call. unary_put c.args.nodes.now c.leading_zeros.new.nodes c.args.op c.args.a o op.clz (λ w. w) (λ w. ap (λ k. unary_type k w) c.in-Clz.is) (λ x. ap (λ k. unary_word k x) c.in-Clz.is) call) c.leading_zeros.ensures

pub returns-in-Ctz : goal.returns-in-Ctz
returns-in-Ctz c = IfOk-weaker c.trailing_zeros.result _ _ (λ o call. unary_put c.args.nodes.now c.trailing_zeros.new.nodes c.args.op c.args.a o op.ctz (λ w. w) (λ w. ap (λ k. unary_type k w) c.in-Ctz.is) (λ x. ap (λ k. unary_word k x) c.in-Ctz.is) call) c.trailing_zeros.ensures

pub returns-in-Rev : goal.returns-in-Rev
returns-in-Rev c = IfOk-weaker c.unary-in-Rev.result _ _ (λ o call. unary_put c.args.nodes.now c.unary-in-Rev.new.self c.args.op c.args.a o op.rev (λ w. w) (λ w. ap (λ k. unary_type k w) c.in-Rev.is) (λ x. ap (λ k. unary_word k x) c.in-Rev.is) call) c.unary-in-Rev.ensures

pub returns-in-AndReduce : goal.returns-in-AndReduce
returns-in-AndReduce c = IfOk-weaker c.reduce.result _ _ (λ o call. unary_put c.args.nodes.now c.reduce.new.self c.args.op c.args.a o op.and_reduce (λ w. 1) (λ w. ap (λ k. unary_type k w) c.in-AndReduce.is) (λ x. ap (λ k. unary_word k x) c.in-AndReduce.is) call) c.reduce.ensures

pub returns-in-OrReduce : goal.returns-in-OrReduce
returns-in-OrReduce c = IfOk-weaker c.reduce-in-OrReduce.result _ _ (λ o call. unary_put c.args.nodes.now c.reduce-in-OrReduce.new.self c.args.op c.args.a o op.or_reduce (λ w. 1) (λ w. ap (λ k. unary_type k w) c.in-OrReduce.is) (λ x. ap (λ k. unary_word k x) c.in-OrReduce.is) call) c.reduce-in-OrReduce.ensures

pub returns-in-XorReduce : goal.returns-in-XorReduce
returns-in-XorReduce c = IfOk-weaker c.reduce-in-XorReduce.result _ _ (λ o call. unary_put c.args.nodes.now c.reduce-in-XorReduce.new.self c.args.op c.args.a o op.xor_reduce (λ w. 1) (λ w. ap (λ k. unary_type k w) c.in-XorReduce.is) (λ x. ap (λ k. unary_word k x) c.in-XorReduce.is) call) c.reduce-in-XorReduce.ensures
