use Rattle.std.proofs.lemmas.Result.{IfOk-weaker}
use Rattle.ir_lower_nodes.proofs.OnWords.OnLiterals.{literal_put}
use Rattle.ir_lower_nodes.proofs.words.literals.literal.Goals as goal

pub returns : goal.returns
returns c =
    IfOk-weaker c.literal.result _ _
    (λ o call. literal_put c.args.nodes.now c.literal.new.self o c.args.value.now c.in_ok-ty.ty c.in_ok-ty-2.ty c.in_ok-constant.constant c.in_ok-ty.ensures c.in_ok-ty-2.ensures c.in_ok-constant.ensures call)
    c.literal.ensures
