use Rattle.std.proofs.Common.{arith}
use Rattle.dslx_check_leaves.proofs.fits.fits.arm_catches.Goals as goal
use Rattle.dslx_check_leaves.proofs.OnFits.OnFits.Catching.{one_catches}

pub returns-then-is_caught : goal.returns-then-is_caught
returns-then-is_caught c = λ e. one_catches c.patterns.pattern-index c.pattern-item.result (omega arith) c.pattern-item.is (c.catches-is_caught.ensures c.if-is_caught.true)
