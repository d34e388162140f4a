-- those that are left are still to be added
use Rattle.std.proofs.Common.{◌≡◌, drop}
use Rattle.dslx_check.specs.Finds.{with_new}
use Rattle.dslx_check.proofs.found.add_all.Given as goal

abbrev pub invariant-instances : goal.invariant-instances
invariant-instances l = with_new l.all.keys (drop l.instance-index l.instances) ≡ with_new l.fn.all.keys l.instances
