use Rattle.std.proofs.Common.{ap, not}
use Rattle.dslx_meaning.specs.Rules.RuleNumbers as rule
use Rattle.dslx_meaning.specs.Rules.TypeEnvs.{breaks_if}
use Rattle.dslx_check_facts.specs.Walks.{shown}
use Rattle.dslx_check_facts.proofs.Lemmas.Walks.{misses_refl}
use Rattle.dslx_check_facts.proofs.OnUses.{member_of_enum, no_enum}
use Rattle.dslx_check_facts.proofs.names.member_typing.Goals as goal

pub returns-in-None-clause-misses : goal.returns-in-None-clause-misses
returns-in-None-clause-misses c = misses_refl (shown c.args.w.now)

pub returns-in-None-clause-judged : goal.returns-in-None-clause-judged
returns-in-None-clause-judged c =
    no_enum c.args.f.now c.args.s.now (shown c.args.w.now) c.args.choice.now c.args.member.now c.breaks-faults.result c.unlimited.result c.in-None.ensures c.breaks-faults.ensures c.unlimited.ensures

pub returns-in_ok-ty-in-Some-clause-judged : goal.returns-in_ok-ty-in-Some-clause-judged
returns-in_ok-ty-in-Some-clause-judged c =
    member_of_enum c.args.f.now c.args.s.now (shown c.args.w.now) (shown c.member_type.new.w) c.args.choice.now c.args.member.now c.in-Some.item c.in-Some.declared.now c.in_ok-ty-in-Some.ty
    c.is_cyclic-is_cyclic.result (not c.has_member-lacks.result) c.and-faults.result c.unlimited-in-Some.result
    c.in-Some.ensures c.in_ok-ty-in-Some.ensures.misses c.in_ok-ty-in-Some.ensures.row c.in_ok-ty-in-Some.ensures.ty c.is_cyclic-is_cyclic.ensures (ap not c.has_member-lacks.ensures)
    (c.and-faults.ensures (breaks_if c.is_cyclic-is_cyclic.result rule.NO_ITEM_REACHES_ITSELF c.args.choice.now.span) (breaks_if (not c.has_member-lacks.result) rule.NAME_IS_DECLARED c.args.member.now.span)
    c.breaks_if-cyclic.ensures c.breaks_if.ensures)
    c.unlimited-in-Some.ensures
