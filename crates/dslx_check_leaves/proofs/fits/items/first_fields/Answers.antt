use Rattle.std.proofs.Common.{◌∙◌}
use Rattle.std.proofs.lemmas.Result.{IfOk-weaker}
use Rattle.dslx_check_leaves.proofs.fits.items.first_fields.Goals as goal
use Rattle.dslx_check_leaves.proofs.OnFits.OnItems.{first_fields}

pub returns-then-first-item : goal.returns-then-first-item
returns-then-first-item c = IfOk-weaker c.field_names.result _ _ (λ n h. h ∙ first_fields c.args.f.now c.args.item c.in-Some.first c.args.name.now c.in-Some.structure.now c.if-first-item.true c.in-Some.ensures) c.field_names.ensures
