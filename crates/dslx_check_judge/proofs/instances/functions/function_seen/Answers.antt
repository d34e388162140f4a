use Rattle.dslx_check_judge.proofs.OnInstances.OnInstances.{function_walked}
use Rattle.dslx_check_judge.proofs.instances.functions.function_seen.Goals as goal

pub returns : goal.returns
returns c = function_walked c.args.item c.args.function.now c.args.values.now _ _ _ c.as_slice-parametrics.ensures c.as_slice-fields.ensures c.as_slice.ensures.value c.new-s.ensures c.in_ok-declared.ensures c.in_ok-arguments.ensures c.in_ok-result.ensures
    c.in_ok-bind_arguments.ensures c.in_ok-body.ensures c.and-front.ensures c.and-outside.ensures c.and-faults.ensures
