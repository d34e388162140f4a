use Rattle.std.proofs.Common.{◌∙◌, ap, sym}
use Rattle.std.specs.Prelude.{if◌then◌else◌, true}
use Rattle.std.proofs.lemmas.Result.{IfOk-weaker}
use Rattle.dslx_meaning.specs.Items.{is_constant_item}
use Rattle.dslx_check_facts.proofs.Lemmas.Items.{means}
use Rattle.dslx_check_facts.proofs.Lemmas.Walks.{misses_refl}
use Rattle.dslx_check_facts.specs.Firsts.{meant_by}
use Rattle.dslx_check_facts.specs.Walks.{shown}
use Rattle.dslx_check_leaves.proofs.fits.fits.name_fits.Goals as goal
use Rattle.dslx_check_leaves.specs.Fits.Fits.{is_value}
use Rattle.dslx_check_leaves.proofs.OnFits.OnItems.{not_constant}

pub returns-in-None-clause-misses : goal.returns-in-None-clause-misses
returns-in-None-clause-misses c = misses_refl (shown c.args.w.now)

pub returns-in-None-clause-is : goal.returns-in-None-clause-is
returns-in-None-clause-is c = λ known later agrees none.
    sym (ap (λ b. if b then is_value (known.items.constant c.args.name.now) c.args.value.now else true)
    (agrees.is_constant c.args.name.now ∙ ap is_constant_item (means c.args.f.now later known c.args.name.now agrees) ∙ not_constant (meant_by c.args.f.now c.args.name.now) c.in-None.ensures))

pub returns-in-Some-clause-is : goal.returns-in-Some-clause-is
returns-in-Some-clause-is c = IfOk-weaker c.constant_fits.result _ _ (λ b h. λ known later agrees none.
    h known later agrees none ∙ ap (λ n. is_value (known.items.constant n) c.args.value.now) c.in-Some.ensures.called
    ∙ sym (ap (λ b. if b then is_value (known.items.constant c.args.name.now) c.args.value.now else true)
    (agrees.is_constant c.args.name.now ∙ ap is_constant_item (means c.args.f.now later known c.args.name.now agrees ∙ c.in-Some.ensures.meant)))) c.constant_fits.ensures.is
