use Rattle.std.proofs.Common.{arith}
use Rattle.dslx_check_facts.proofs.Lemmas.Walks.{misses_refl, misses_trans}
use Rattle.dslx_check_facts.specs.Walks.{shown}
use Rattle.dslx_check_leaves.proofs.fits.fits.some_fits.Goals as goal
use Rattle.dslx_check_leaves.specs.Fits.Fits.{IsFine}
use Rattle.dslx_check_leaves.proofs.OnFits.Among.{each_at}
use Rattle.dslx_check_leaves.proofs.OnFits.OnFits.Several.{pattern_there, some_begin, some_end, some_more, some_so}

pub patterns-init : goal.patterns-init
patterns-init c = some_begin (misses_refl (shown c.args.w.now))

pub patterns-preserved : goal.patterns-preserved
patterns-preserved c = some_more IsFine c.patterns.pattern-index c.pattern-item.result c.patterns.invariant (omega arith) c.pattern-item.is
    (λ context t all. each_at (IsFine context t) c.args.patterns.now c.patterns.pattern-index c.pattern-item.result all (omega arith) c.pattern-item.is)
    c.in_ok-is_fit.ensures.misses (pattern_there c.in_ok-is_fit.ensures.is) c.if-is_fit.false

pub returns-then-is_fit-clause-misses : goal.returns-then-is_fit-clause-misses
returns-then-is_fit-clause-misses c = misses_trans _ _ _ c.patterns.invariant.misses c.in_ok-is_fit.ensures.misses

pub returns-then-is_fit-clause-is : goal.returns-then-is_fit-clause-is
returns-then-is_fit-clause-is c = record {
  fit = some_so IsFine c.patterns.pattern-index c.pattern-item.result c.patterns.invariant (omega arith) c.pattern-item.is
      (λ context t all. each_at (IsFine context t) c.args.patterns.now c.patterns.pattern-index c.pattern-item.result all (omega arith) c.pattern-item.is)
      c.in_ok-is_fit.ensures.misses (pattern_there c.in_ok-is_fit.ensures.is) c.if-is_fit.true;
}

pub returns-clause-misses : goal.returns-clause-misses
returns-clause-misses c = c.patterns.invariant.misses

pub returns-clause-is : goal.returns-clause-is
returns-clause-is c = record { fit = some_end c.patterns.pattern-index (omega arith) c.patterns.invariant }
