use Rattle.dslx_tree.specs.declared.item.Definition.TheVariants as d
use Rattle.dslx_check_leaves.proofs.fits.items.first_enum.Goals as goal
use Rattle.dslx_check_leaves.proofs.OnFits.OnItems.{first_meant}

pub returns-then-first-item : goal.returns-then-first-item
returns-then-first-item c = first_meant c.args.f.now c.args.item c.in-Some.first c.args.name.now (d.Enum c.in-Some.choice.now) c.if-first-item.true c.in-Some.ensures
