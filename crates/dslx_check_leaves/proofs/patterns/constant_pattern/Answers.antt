use Rattle.dslx_check_leaves.proofs.Lemmas.OnOneValue.{constant_walked}
use Rattle.dslx_check_leaves.proofs.patterns.constant_pattern.Goals as goal

pub returns : goal.returns
returns c = constant_walked c.in_ok-own_type.own_type c.args.span c.args.may_fail c.args.item c.in_ok-own_type.ensures.misses c.in_ok-own_type.ensures.row c.in_ok-own_type.ensures.ty c.is_cyclic-is_cyclic.ensures c.breaks_if-faults.ensures
    c.unlimited-own.ensures c.has_type-is_known.ensures c.value_pattern.ensures
