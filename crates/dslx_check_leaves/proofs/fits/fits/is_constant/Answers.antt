use Rattle.std.proofs.Common.{◌∙◌, ap, sym}
use Rattle.dslx_meaning.specs.Items.{is_constant_item}
use Rattle.dslx_check_facts.proofs.Lemmas.Items.{means}
use Rattle.dslx_check_facts.specs.Firsts.{meant_by}
use Rattle.dslx_check_leaves.proofs.fits.fits.is_constant.Goals as goal
use Rattle.dslx_check_leaves.proofs.OnFits.OnItems.{not_constant}

pub returns-in-Some : goal.returns-in-Some
returns-in-Some c = λ known later agrees. sym (agrees.is_constant c.args.name.now ∙ ap is_constant_item (means c.args.f.now later known c.args.name.now agrees ∙ c.in-Some.ensures.meant))

pub returns-in-None : goal.returns-in-None
returns-in-None c = λ known later agrees.
    sym (agrees.is_constant c.args.name.now ∙ ap is_constant_item (means c.args.f.now later known c.args.name.now agrees) ∙ not_constant (meant_by c.args.f.now c.args.name.now) c.in-None.ensures)
