use Rattle.std.proofs.Common.{◌∙◌}
use Rattle.std.proofs.lemmas.Result.{IfOk-weaker}
use Rattle.dslx_check_leaves.proofs.fits.items.first_name.Goals as goal
use Rattle.dslx_check_leaves.proofs.OnFits.OnItems.{first_called}

pub returns-then-first-item : goal.returns-then-first-item
returns-then-first-item c = IfOk-weaker c.copy_name.result _ _ (λ n h. h ∙ first_called c.args.f.now c.args.item c.in-Some.first c.args.name.now c.in-Some.field-0-1.now c.if-first-item.true c.in-Some.ensures) c.copy_name.ensures
