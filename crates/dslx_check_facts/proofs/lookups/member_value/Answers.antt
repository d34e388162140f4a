use Rattle.std.proofs.Common.{◌≡◌, ◌∙◌, sym}
use Rattle.std.specs.Option.{option_copied}
use Rattle.dslx_check_facts.proofs.OnLookups.{member_there, no_member_there}
use Rattle.dslx_check_facts.proofs.lookups.member_value.Goals as goal

pub returns-in-Some-clause-value : goal.returns-in-Some-clause-value
returns-in-Some-clause-value c = λ known later agrees missing is.
    member_there c.args.f.now later known c.args.item c.args.choice.now c.args.name.now c.in-Some.member (option_copied c.member_there.result) agrees
    (sym c.in_ok-is_known.ensures.known ∙ c.if-branch.true) is (sym c.member_number.ensures ∙ c.in-Some.is) c.member_there.ensures

pub returns-in-None-clause-value : goal.returns-in-None-clause-value
returns-in-None-clause-value c = λ known later agrees missing is.
    no_member_there c.args.f.now later known c.args.item c.args.choice.now c.args.name.now agrees
    (sym c.in_ok-is_known.ensures.known ∙ c.if-branch.true) is (sym c.member_number.ensures ∙ c.in-None.is)
