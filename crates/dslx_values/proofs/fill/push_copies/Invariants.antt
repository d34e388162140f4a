use Rattle.std.proofs.Common.{◌≡◌, ◌++◌}
use Rattle.dslx_meaning.specs.Lists.{repeated}
use Rattle.dslx_values.proofs.fill.push_copies.Given as goal

abbrev pub invariant-copies : goal.invariant-copies
invariant-copies l = l.values ≡ l.initial.values ++ repeated l.counter l.value
