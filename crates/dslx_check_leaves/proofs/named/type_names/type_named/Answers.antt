use Rattle.dslx_check_facts.specs.Walks.{shown}
use Rattle.dslx_check_facts.proofs.Lemmas.Walks.{misses_refl}
use Rattle.dslx_check_leaves.proofs.OnNamed.OnTypeNames.{no_type_named, type_named_typing}
use Rattle.dslx_check_leaves.proofs.named.type_names.type_named.Goals as goal

pub returns-in-None-clause-misses : goal.returns-in-None-clause-misses
returns-in-None-clause-misses c = misses_refl (shown c.args.w.now)

pub returns-in-None-clause-judged : goal.returns-in-None-clause-judged
returns-in-None-clause-judged c =
    no_type_named c.args.f.now c.args.s.now (shown c.args.w.now) c.args.span c.args.name.now c.breaks-faults.result c.settled.result c.in-None.ensures c.breaks-faults.ensures c.settled.ensures

pub returns-in_ok-ty-in-Some-clause-judged : goal.returns-in_ok-ty-in-Some-clause-judged
returns-in_ok-ty-in-Some-clause-judged c =
    type_named_typing c.args.f.now c.args.s.now (shown c.args.w.now) (shown c.named_type.new.w) c.args.span c.args.name.now c.in-Some.item c.in_ok-ty-in-Some.ty
    c.is_cyclic-is_cyclic.result c.breaks_if-faults.result c.settled-in-Some.result
    c.in-Some.ensures c.in_ok-ty-in-Some.ensures.misses c.in_ok-ty-in-Some.ensures.row c.in_ok-ty-in-Some.ensures.ty c.is_cyclic-is_cyclic.ensures c.breaks_if-faults.ensures c.settled-in-Some.ensures
