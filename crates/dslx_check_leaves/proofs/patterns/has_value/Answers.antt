use Rattle.std.proofs.Common.{◌≡◌, []}
use Rattle.std.specs.Option.{option_copied}
use Rattle.dslx_check_facts.proofs.Lemmas.Walks.{misses_refl}
use Rattle.dslx_check_facts.specs.Walks.{shown}
use Rattle.dslx_check_leaves.proofs.Lemmas.OnOneValue.{member_there, no_member}
use Rattle.dslx_check_leaves.proofs.patterns.has_value.Goals as goal

pub returns-in-None-clause-misses : goal.returns-in-None-clause-misses
returns-in-None-clause-misses c = misses_refl (shown c.args.w.now)

pub returns-in-None-clause-is : goal.returns-in-None-clause-is
returns-in-None-clause-is c = λ known later agrees none. no_member c.args.choice.now.name c.args.member.now.name c.in-None.ensures known later agrees

pub returns-in_ok-value-in-Some-clause-is : goal.returns-in_ok-value-in-Some-clause-is
returns-in_ok-value-in-Some-clause-is c = λ known later agrees none.
    member_there c.args.choice.now.name c.args.member.now.name c.in-Some.item c.in-Some.declared.now (option_copied c.in_ok-value-in-Some.value) c.is_there.result ((shown c.member_value.new.w).missing ≡ [])
    c.in-Some.ensures c.in_ok-value-in-Some.ensures.value c.is_there.ensures known later agrees none
