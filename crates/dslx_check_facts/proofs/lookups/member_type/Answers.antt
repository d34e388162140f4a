use Rattle.std.proofs.Common.{◌≡◌, ◌∙◌, sym, ap}
use Rattle.std.specs.Option.{option_copied}
use Rattle.dslx_meaning.specs.Lists.{and_then}
use Rattle.dslx_check_facts.specs.Known.{item_names}
use Rattle.dslx_check_facts.specs.Walks.{shown}
use Rattle.dslx_check_facts.proofs.Lemmas.Walks.{misses_grows, misses_trans, nothing_missing}
use Rattle.dslx_check_facts.proofs.lookups.member_type.Goals as goal

pub returns-in_ok-ty-in-Some-clause-misses : goal.returns-in_ok-ty-in-Some-clause-misses
returns-in_ok-ty-in-Some-clause-misses c =
    misses_trans (shown c.args.w.now) (shown c.member_value.new.w) (shown c.named_type.new.w) c.in_ok-member_value.ensures.misses c.in_ok-ty-in-Some.ensures.misses

pub returns-in_ok-ty-in-Some-clause-ty : goal.returns-in_ok-ty-in-Some-clause-ty
returns-in_ok-ty-in-Some-clause-ty c = λ known later agrees missing is.
    let before = nothing_missing (shown c.member_value.new.w) (shown c.named_type.new.w) (misses_grows (shown c.member_value.new.w) (shown c.named_type.new.w) c.in_ok-ty-in-Some.ensures.misses) missing in
    c.in_ok-ty-in-Some.ensures.ty known later agrees missing
    ∙ ap (λ o. and_then o (λ v. known.items.type_named ((item_names c.args.f.now).item c.args.item)))
    (sym (ap option_copied c.in-Some.is) ∙ c.in_ok-member_value.ensures.value known later agrees before is)

pub returns-in-None-clause-ty : goal.returns-in-None-clause-ty
returns-in-None-clause-ty c = λ known later agrees missing is.
    ap (λ o. and_then o (λ v. known.items.type_named ((item_names c.args.f.now).item c.args.item)))
    (sym (ap option_copied c.in-None.is) ∙ c.in_ok-member_value.ensures.value known later agrees missing is)
