use Rattle.std.proofs.Common.{◌∙◌, None, Some, refl, ap, sym}
use Rattle.std.specs.Option.{option_copied}
use Rattle.dslx_check_facts.proofs.Lemmas.Walks.{misses_refl}
use Rattle.dslx_check_facts.specs.Walks.{OnlyMisses, shown}
use Rattle.dslx_check_leaves.proofs.fits.fits.member_matches.Goals as goal
use Rattle.dslx_check_leaves.proofs.OnFits.OnFits.Asked.{misses_then, on_ok}
use Rattle.dslx_check_leaves.proofs.OnFits.OnFits.Members.{one_member}
use Rattle.dslx_check_leaves.proofs.OnFits.OnWords.{both_ok}

pub returns-in-Some-clause-is : goal.returns-in-Some-clause-is
returns-in-Some-clause-is c = both_ok c.some_arm_fits.result (on_ok (OnlyMisses (shown c.member_value.new.w) (shown c.some_arm_fits.new.w)) c.some_arm_fits.result c.some_arm_fits.ensures.misses) c.some_arm_fits.ensures.is (λ b m h.
    one_member c.args.item c.args.choice.now c.args.name.now (Some c.in-Some.value.now) c.in_ok-value.ensures.misses m
    (λ known later agrees none is. sym (ap option_copied c.in-Some.is) ∙ c.in_ok-value.ensures.value known later agrees none is) h.fit)

pub returns-in-None-clause-is : goal.returns-in-None-clause-is
returns-in-None-clause-is c =
    one_member c.args.item c.args.choice.now c.args.name.now None c.in_ok-value.ensures.misses (misses_refl (shown c.member_value.new.w))
    (λ known later agrees none is. sym (ap option_copied c.in-None.is) ∙ c.in_ok-value.ensures.value known later agrees none is) (λ known later context t asked none fine. refl)

pub returns-in-Some-clause-misses : goal.returns-in-Some-clause-misses
returns-in-Some-clause-misses c = misses_then (shown c.args.w.now) (shown c.member_value.new.w) (shown c.some_arm_fits.new.w) c.some_arm_fits.result c.in_ok-value.ensures.misses c.some_arm_fits.ensures.misses
