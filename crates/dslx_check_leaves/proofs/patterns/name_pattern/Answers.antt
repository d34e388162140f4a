use Rattle.std.proofs.lemmas.Result.{IfOk-weaker}
use Rattle.dslx_check_leaves.proofs.Lemmas.OnOneValue.{constant_named, name_walked, pattern_as}
use Rattle.dslx_check_leaves.proofs.patterns.name_pattern.Goals as goal

pub returns-in-Some : goal.returns-in-Some
returns-in-Some c = IfOk-weaker c.constant_pattern.result _ _ (λ j h.
    pattern_as (λ known later agrees. constant_named c.args.span c.args.may_fail c.args.name.now c.in-Some.item c.in-Some.field-0-1.now c.args.s.now known later c.in-Some.ensures agrees) h) c.constant_pattern.ensures

pub returns-in_ok-bind-in-None : goal.returns-in_ok-bind-in-None
returns-in_ok-bind-in-None c = name_walked c.args.span c.args.may_fail c.args.name.now c.in-None.ensures c.in_ok-bind-in-None.ensures c.has-is_before.ensures c.local_name_faults-faults.ensures c.bound_pattern.ensures.bound
