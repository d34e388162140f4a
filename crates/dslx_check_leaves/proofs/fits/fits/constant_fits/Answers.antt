use Rattle.std.proofs.Common.{◌∙◌, ap, sym}
use Rattle.dslx_check_leaves.proofs.fits.fits.constant_fits.Goals as goal
use Rattle.dslx_check_leaves.specs.Fits.Fits.{is_value}

pub returns-then-is_there-clause-is : goal.returns-then-is_there-clause-is
returns-then-is_there-clause-is c = λ known later agrees none.
    c.is_same.ensures ∙ ap (λ o. is_value o c.args.value.now) (c.kept_value-other.ensures ∙ agrees.constant c.args.item (sym c.in_ok-is_there.ensures.known ∙ c.if-is_there.true))

pub returns-else-is_there-clause-is : goal.returns-else-is_there-clause-is
returns-else-is_there-clause-is c = λ known later agrees none.
    sym (ap (λ o. is_value o c.args.value.now) (agrees.no_constant c.args.item (c.in_ok-is_there.ensures.loops none (sym c.in_ok-is_there.ensures.known ∙ c.if-is_there.false))))
