use Rattle.std.proofs.Common.{◌≡◌, ◌++◌, drop}
use Rattle.block_build.specs.Netlist.Leaves.{all_leaves}
use Rattle.block_build.proofs.netlist.scopes.all_of.Given as goal

abbrev pub invariant-values : goal.invariant-values
invariant-values l = l.all.items ++ all_leaves (drop l.value-index l.values) ≡ all_leaves l.values
