use Rattle.std.proofs.Common.{◌≡◌, ◌++◌, ◌-◌}
use Rattle.block_build.specs.Netlist.Leaves.{repeated}
use Rattle.block_build.proofs.netlist.leaves.push_times.Given as goal

abbrev pub invariant-elements : goal.invariant-elements
invariant-elements l = l.widths.items ++ repeated (l.count - l.counter) l.own ≡ l.initial.widths.items ++ repeated l.count l.own
