use Rattle.std.proofs.Common.{◌∙◌, sym}
use Rattle.dslx_tree.specs.declared.pattern.Shape.TheVariants as on_shape
use Rattle.dslx_check_leaves.proofs.fits.fits.catches.Goals as goal
use Rattle.dslx_check_leaves.proofs.OnFits.OnFits.Catching.{name_catches, wild_catches}

pub returns-in-Wild : goal.returns-in-Wild
returns-in-Wild c = λ e. wild_catches c.args.p.now (c.in-Wild.is ∙ sym on_shape.rolls-Wild)

pub returns-in-Name : goal.returns-in-Name
returns-in-Name c = λ e. name_catches c.args.p.now c.in-Name.name c.is_constant.result (c.in-Name.is ∙ sym (on_shape.rolls-Name c.in-Name.name)) c.is_constant.ensures e
