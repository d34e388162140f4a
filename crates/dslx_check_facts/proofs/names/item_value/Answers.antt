use Rattle.dslx_check_facts.specs.Walks.{shown}
use Rattle.dslx_check_facts.proofs.Lemmas.Walks.{misses_refl}
use Rattle.dslx_check_facts.proofs.OnUses.{constant_item, no_item}
use Rattle.dslx_check_facts.proofs.names.item_value.Goals as goal

pub returns-in-None-clause-misses : goal.returns-in-None-clause-misses
returns-in-None-clause-misses c = misses_refl (shown c.args.w.now)

pub returns-in-None-clause-judged : goal.returns-in-None-clause-judged
returns-in-None-clause-judged c =
    no_item c.args.f.now c.args.s.now (shown c.args.w.now) c.args.span c.args.name.now c.breaks-faults.result c.settled.result c.in-None.ensures c.breaks-faults.ensures c.settled.ensures

pub returns-in_ok-ty-in-Some-clause-judged : goal.returns-in_ok-ty-in-Some-clause-judged
returns-in_ok-ty-in-Some-clause-judged c =
    constant_item c.args.f.now c.args.s.now (shown c.args.w.now) (shown c.constant_type.new.w) c.args.span c.args.name.now c.in-Some.item c.in-Some.field-0-1.now c.in_ok-ty-in-Some.ty
    c.is_cyclic-is_cyclic.result c.breaks_if-faults.result c.settled-in-Some.result
    c.in-Some.ensures c.in_ok-ty-in-Some.ensures.misses c.in_ok-ty-in-Some.ensures.row c.in_ok-ty-in-Some.ensures.ty c.is_cyclic-is_cyclic.ensures c.breaks_if-faults.ensures c.settled-in-Some.ensures
