use Rattle.dslx_check_facts.specs.Walks.{shown}
use Rattle.dslx_check_leaves.proofs.fits.fits.+fits.Given as goal
use Rattle.dslx_check_leaves.proofs.OnFits.OnFits.Parts.{PartsSoFar}

abbrev pub invariant-all_fit-parts : goal.invariant-all_fit-parts
invariant-all_fit-parts l = PartsSoFar l.f (shown l.fn.w) (shown l.w) l.ty l.parts l.values l.i
