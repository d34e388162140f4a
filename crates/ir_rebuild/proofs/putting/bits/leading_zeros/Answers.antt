use Rattle.std.proofs.Common.{arith}
use Rattle.ir_rebuild.proofs.OnPutting.Counting.{leading_first, leading_step, leading_last}
use Rattle.ir_rebuild.proofs.putting.bits.leading_zeros.Goals as goal

pub places-init : goal.places-init
places-init c = leading_first c.args.nodes.now c.number.new.self c.width-width.result c.args.a c.in_ok-count.count c.in_ok-count.ensures

pub places-preserved : goal.places-preserved
places-preserved c = leading_step c.args.nodes.now c.places.nodes c.number_or.new.nodes c.args.a c.places.count c.in_ok-count-2.count c.places.i c.width-width.result c.places-test.true c.in_ok-count-2.ensures c.places.invariant

pub returns : goal.returns
returns c = leading_last c.args.nodes.now c.places.nodes c.width-width.result c.places.i c.args.a c.places.count c.width-width.ensures (omega (arith, c.places-test.false, c.places.auto.i-end)) c.places.invariant
