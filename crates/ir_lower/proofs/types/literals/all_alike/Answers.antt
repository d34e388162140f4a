use Rattle.std.proofs.Common.{refl}
use Rattle.ir_lower.proofs.OnTypes.OnSame.{alike_next, alike_whole}
use Rattle.ir_lower.proofs.types.literals.all_alike.Goals as goal

pub rest-init : goal.rest-init
rest-init c = refl

pub rest-preserved : goal.rest-preserved
rest-preserved c = alike_next c.args.first.now c.ty-item.result c.args.rest.now c.rest.ty-index c.rest-test.true c.ty-item.is (c.is.ensures.0 c.if-not-is.false) c.rest.invariant

pub returns : goal.returns
returns c = λ so. alike_whole c.args.first.now c.args.rest.now c.rest.ty-index c.rest-test.false c.rest.invariant
