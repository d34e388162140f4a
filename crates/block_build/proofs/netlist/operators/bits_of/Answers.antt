use Rattle.std.proofs.Common.{arith}
use Rattle.block_build.proofs.OnNetlist.OnOperating.{bits_kept}
use Rattle.block_build.proofs.netlist.operators.bits_of.Goals as goal

pub each-preserved : goal.each-preserved
each-preserved c =
    bits_kept c.args.wires.now c.each.wires c.simple.new.self c.each.bits.items c.push.new.self.items c.in_ok-simple.field-0 c.part.result c.args.width c.args.signal.0 c.each.i
    c.each.invariant.0 c.each.invariant.1 c.in_ok-simple.ensures (c.part.ensures (omega (arith, c.each-test.true, c.ranges.width.fits))) c.in_ok-push.ensures.items
