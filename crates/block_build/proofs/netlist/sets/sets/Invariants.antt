use Rattle.std.proofs.Common.{◌≡◌, ◌+◌, ◌++◌, drop}
use Rattle.block_build.specs.Netlist.Registers.{sets_from}
use Rattle.block_build.proofs.netlist.sets.sets.Given as goal

abbrev pub invariant-sets : goal.invariant-sets
invariant-sets l = l.sets ++ sets_from (l.first + l.i) (drop l.i l.values) ≡ sets_from l.first l.values
