use Rattle.std.proofs.Common.{◌≡◌, ◌++◌, map, drop}
use Rattle.block_build.specs.Netlist.Leaves.{all_leaves, literals_of}
use Rattle.block_build.proofs.netlist.leaves.+literals.Given as goal

abbrev pub invariant-push_all_literals-parts : goal.invariant-push_all_literals-parts
invariant-push_all_literals-parts l = l.atoms.items ++ all_leaves (map literals_of (drop l.part-index l.parts)) ≡ l.initial.atoms.items ++ all_leaves (map literals_of l.parts)
