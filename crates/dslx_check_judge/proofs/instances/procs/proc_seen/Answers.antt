use Rattle.dslx_check_judge.proofs.OnInstances.OnInstances.{proc_walked}
use Rattle.dslx_check_judge.proofs.instances.procs.proc_seen.Goals as goal

pub returns : goal.returns
returns c = proc_walked c.args.item c.args.process.now c.args.values.now _ _ _ _ c.as_slice.ensures c.as_slice-2.ensures c.as_slice-3.ensures.value c.as_slice-4.ensures.value c.new-s.ensures c.in_ok-declared.ensures c.in_ok-members.ensures c.in_ok-config.ensures
    c.in_ok-state.ensures c.in_ok-bind_members.ensures c.in_ok-inside.ensures c.and-front.ensures c.and-wired.ensures c.and-outside.ensures c.and-faults.ensures
