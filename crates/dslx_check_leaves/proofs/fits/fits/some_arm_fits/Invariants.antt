use Rattle.dslx_check_facts.specs.Walks.{shown}
use Rattle.dslx_check_leaves.proofs.fits.fits.some_arm_fits.Given as goal
use Rattle.dslx_check_leaves.specs.Fits.Fits.{ArmsFine, arm_fits}
use Rattle.dslx_check_leaves.proofs.OnFits.OnFits.Several.{SomeLeft}

abbrev pub invariant-arms : goal.invariant-arms
invariant-arms l = SomeLeft l.f (shown l.fn.w) (shown l.w) l.ty l.arms ArmsFine (λ context a. arm_fits context l.value a) l.arm-index
