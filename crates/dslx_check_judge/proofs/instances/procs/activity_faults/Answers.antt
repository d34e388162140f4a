use Rattle.std.proofs.Common.{[], refl}
use Rattle.dslx_check_judge.proofs.OnInstances.OnInstances.{activity_walked}
use Rattle.dslx_check_judge.proofs.instances.procs.activity_faults.Goals as goal

pub returns : goal.returns
returns c = activity_walked c.args.process.now _ c.in_ok-init.ensures (λ known later context agrees same. c.local_name-name.ensures known later context [] agrees same refl) c.in_ok-bind.ensures c.in_ok-body.ensures c.as_slice.ensures
    c.count_sites-sites.ensures c.passes_count-limit.ensures c.and.ensures c.and-2.ensures c.and-3.ensures
