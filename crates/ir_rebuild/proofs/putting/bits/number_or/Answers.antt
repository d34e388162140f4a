use Rattle.std.proofs.lemmas.Result.{IfOk-weaker}
use Rattle.ir_rebuild.proofs.OnPutting.Counting.{number_or_put}
use Rattle.ir_rebuild.proofs.putting.bits.number_or.Goals as goal

pub returns : goal.returns
returns c =
    IfOk-weaker c.choose.result _ _
    (λ o third. number_or_put c.args.nodes.now c.slice.new.self c.number.new.self c.choose.new.self c.args.place c.args.width c.args.number c.args.a c.args.other c.in_ok-bit.bit c.in_ok-number.number o c.in_ok-bit.ensures c.in_ok-number.ensures third)
    c.choose.ensures
