-- the keys that were seen are of such instances, and differ
use Rattle.dslx_check_facts.specs.Walks.{shown}
use Rattle.dslx_check.proofs.OnFound.{AreMet}
use Rattle.dslx_check.proofs.found.are_many.Given as goal

abbrev pub invariant-instances : goal.invariant-instances
invariant-instances l = AreMet (shown l.work.walk) l.instances.keys l.keys.keys
