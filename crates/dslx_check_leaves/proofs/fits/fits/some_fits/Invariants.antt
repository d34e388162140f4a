use Rattle.dslx_check_facts.specs.Walks.{shown}
use Rattle.dslx_check_leaves.proofs.fits.fits.some_fits.Given as goal
use Rattle.dslx_check_leaves.specs.Fits.Fits.{AllFine, fits_there}
use Rattle.dslx_check_leaves.proofs.OnFits.OnFits.Several.{SomeLeft}

abbrev pub invariant-patterns : goal.invariant-patterns
invariant-patterns l = SomeLeft l.f (shown l.fn.w) (shown l.w) l.ty l.patterns AllFine (λ context p. fits_there context l.value p) l.pattern-index
