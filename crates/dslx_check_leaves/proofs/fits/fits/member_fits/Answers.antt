use Rattle.std.proofs.Common.{◌∙◌, ap, sym}
use Rattle.dslx_meaning.specs.Items.{as_enum}
use Rattle.dslx_check_facts.proofs.Lemmas.Items.{means}
use Rattle.dslx_check_facts.proofs.Lemmas.Walks.{misses_refl}
use Rattle.dslx_check_facts.specs.Walks.{shown}
use Rattle.dslx_check_leaves.proofs.fits.fits.member_fits.Goals as goal
use Rattle.dslx_check_leaves.specs.Fits.Fits.{is_value}

pub returns-in-None-clause-misses : goal.returns-in-None-clause-misses
returns-in-None-clause-misses c = misses_refl (shown c.args.w.now)

pub returns-in-None-clause-is : goal.returns-in-None-clause-is
returns-in-None-clause-is c = λ known later agrees none.
    sym (ap (λ o. is_value o c.args.value.now) (agrees.not_enum c.args.choice.now.name c.args.member.now.name (ap as_enum (means c.args.f.now later known c.args.choice.now.name agrees) ∙ c.in-None.ensures)))

pub returns-in_ok-other-in-Some-clause-is : goal.returns-in_ok-other-in-Some-clause-is
returns-in_ok-other-in-Some-clause-is c = λ known later agrees none.
    c.is_same.ensures ∙ ap (λ o. is_value o c.args.value.now) (c.in_ok-other-in-Some.ensures.value known later agrees none (ap as_enum c.in-Some.ensures.at))
    ∙ ap (λ n. is_value (known.items.member n c.args.member.now.name) c.args.value.now) c.in-Some.ensures.called
