use Rattle.std.proofs.Common.{◌≡◌, ◌++◌}
use Rattle.std.specs.Vec.Iter.{into_iter_items}
use Rattle.dslx_core.specs.Networks.Assembly.{instances_alone}
use Rattle.dslx_elab.proofs.design.instances_alone.Given as goal

abbrev pub invariant-procs : goal.invariant-procs
invariant-procs l = (l.instances.items ≡ instances_alone l.yielded) × (l.fn.procs.items ≡ l.yielded ++ into_iter_items l.proc-iterator)
