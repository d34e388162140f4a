use Rattle.std.proofs.Common.{List, arith, subst}
use Rattle.dslx_tree.specs.declared.pattern.Pattern.{Pattern}
use Rattle.dslx_check_leaves.proofs.fits.fits.catches_all.Goals as goal
use Rattle.dslx_check_leaves.specs.Fits.Fits.{CatchesValue}
use Rattle.dslx_check_leaves.proofs.OnFits.OnFits.Catching.{arm_catches}

pub returns-then-is_caught : goal.returns-then-is_caught
returns-then-is_caught c = λ e. arm_catches c.arms.arm-index c.arm-item.result (omega arith) c.arm-item.is
    (subst (λ (ps : List Pattern). CatchesValue c.args.f.now ps) c.as_slice.ensures (c.arm_catches-is_caught.ensures c.if-is_caught.true))
