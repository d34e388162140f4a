use Rattle.std.proofs.Common.{arith}
use Rattle.ir_lower_nodes.proofs.OnPatterns.OnFits.{any_start, any_step, any_last}
use Rattle.ir_lower_nodes.proofs.patterns.fitting.fits_several.Goals as goal

pub shapes-init : goal.shapes-init
shapes-init c = any_start c.args.nodes.now c.number.new.self c.args.a c.in_ok-fit.fit c.args.shapes.now c.in_ok-fit.ensures

pub shapes-preserved : goal.shapes-preserved
shapes-preserved c =
    any_step c.args.nodes.now c.shapes.nodes c.fits.new.nodes c.binary.new.self c.args.a c.shapes.fit c.in_ok-one.one c.in_ok-fit-2.fit c.shapes.i c.index-shapes-i.result c.args.shapes.now
    c.shapes-test.true c.index-shapes-i.is c.shapes.invariant c.in_ok-one.ensures c.in_ok-fit-2.ensures

pub returns : goal.returns
returns c = any_last c.args.nodes.now c.shapes.nodes c.args.a c.shapes.fit c.shapes.i c.args.shapes.now (omega (arith, c.shapes-test.false, c.shapes.auto.i-end)) c.shapes.invariant
