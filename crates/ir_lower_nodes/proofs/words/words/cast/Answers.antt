use Rattle.std.proofs.Common.{ap}
use Rattle.std.proofs.lemmas.Result.{IfOk-weaker}
use Rattle.delay_model.specs.declared.op.Extend.TheVariants as extend
use Rattle.dslx_meaning.specs.Operators.{cast_word}
use Rattle.dslx_core.specs.CoreValues.{is_signed_read}
use Rattle.ir_lower_nodes.proofs.OnWords.OnWords.{cast_put}
use Rattle.ir_lower_nodes.proofs.words.words.cast.Goals as goal

pub returns-in-Unsigned : goal.returns-in-Unsigned
returns-in-Unsigned c =
    IfOk-weaker c.resize.result _ _
    (λ o call. cast_put c.args.nodes.now c.resize.new.nodes c.args.sign extend.Zero c.args.a o c.from-width.result c.args.width c.from-width.ensures (λ x. ap (λ s. cast_word (is_signed_read s) c.args.width x) c.in-Unsigned.is) call)
    c.resize.ensures

pub returns-in-Signed : goal.returns-in-Signed
returns-in-Signed c =
    IfOk-weaker c.resize-in-Signed.result _ _
    (λ o call. cast_put c.args.nodes.now c.resize-in-Signed.new.nodes c.args.sign extend.Sign c.args.a o c.from-width.result c.args.width c.from-width.ensures (λ x. ap (λ s. cast_word (is_signed_read s) c.args.width x) c.in-Signed.is) call)
    c.resize-in-Signed.ensures
