use Rattle.std.proofs.Common.{arith}
use Rattle.std.proofs.lemmas.Result.{IfOk-weaker}
use Rattle.ir_rebuild.proofs.OnPutting.Counting.{resized_same, resized_shorter, resized_longer}
use Rattle.ir_rebuild.proofs.putting.bits.resize.Goals as goal

pub returns-then-width-own : goal.returns-then-width-own
returns-then-width-own c = λ w built h some most. resized_same c.args.nodes.now c.args.op c.args.a c.width-own.result c.args.width c.width-own.ensures c.if-width-own.true w built h

pub returns-then-width-own-2 : goal.returns-then-width-own-2
returns-then-width-own-2 c =
    IfOk-weaker c.slice.result _ _
    (λ o call w built h some most. resized_shorter c.args.nodes.now c.args.op c.args.a c.width-own.result c.args.width c.width-own.ensures c.slice.new.self o c.if-width-own-2.true call w built h some)
    c.slice.ensures

pub returns-else-width-own-2 : goal.returns-else-width-own-2
returns-else-width-own-2 c =
    IfOk-weaker c.extend.result _ _
    (λ o call w built h some most. resized_longer c.args.nodes.now c.args.op c.args.a c.width-own.result c.args.width c.width-own.ensures c.extend.new.self o (omega (arith, c.if-width-own.false, c.if-width-own-2.false)) call w built h most)
    c.extend.ensures
