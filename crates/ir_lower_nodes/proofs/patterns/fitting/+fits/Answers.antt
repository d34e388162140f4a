use Rattle.std.proofs.Common.{sym, ap, ◌∙◌, arith}
use Rattle.std.proofs.lemmas.Result.{IfOk-weaker}
use Rattle.dslx_core.specs.declared.expr.Shape as shape
use Rattle.ir_lower_nodes.proofs.OnPatterns.OnFits.{equal_fits, tuple_fits, fits_first, fits_step, fits_last}
use Rattle.ir_lower_nodes.proofs.patterns.fitting.+fits.Goals as goal

pub fits-returns-in-Equal : goal.fits-returns-in-Equal
fits-returns-in-Equal t c =
    IfOk-weaker c.equals.result _ _
    (λ o call. equal_fits c.args.nodes.now c.equals.new.nodes c.args.a o c.args.shape.now _ c.in-Equal.is call)
    c.equals.ensures

pub fits-returns-in-Tuple : goal.fits-returns-in-Tuple
fits-returns-in-Tuple t c =
    IfOk-weaker c.fits_each.result _ _
    (λ o call. tuple_fits c.args.nodes.now c.fits_each.new.nodes c.args.a o c.args.shape.now c.as_slice.result.now (c.in-Tuple.is ∙ ap shape.Tuple (sym c.as_slice.ensures)) call)
    c.fits_each.ensures

pub fits_each-shapes-init : goal.fits_each-shapes-init
fits_each-shapes-init t c = fits_first c.args.nodes.now c.number.new.self c.args.tuple c.in_ok-fit.fit c.args.shapes.now c.in_ok-fit.ensures

pub fits_each-shapes-preserved : goal.fits_each-shapes-preserved
fits_each-shapes-preserved t c =
    fits_step c.args.nodes.now c.shapes.nodes c.element.new.self c.fits.new.nodes c.binary.new.self c.args.tuple c.shapes.fit c.in_ok-part.part c.in_ok-one.one c.in_ok-fit-2.fit c.shapes.i c.index-shapes-i.result c.args.shapes.now
    c.shapes-test.true c.index-shapes-i.is c.shapes.invariant c.in_ok-part.ensures c.in_ok-one.ensures c.in_ok-fit-2.ensures

pub fits_each-returns : goal.fits_each-returns
fits_each-returns t c = fits_last c.args.nodes.now c.shapes.nodes c.args.tuple c.shapes.fit c.shapes.i c.args.shapes.now (omega (arith, c.shapes-test.false, c.shapes.auto.i-end)) c.shapes.invariant
