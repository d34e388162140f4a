use Rattle.std.proofs.Common.{◌≡◌, ◌++◌, map, drop}
use Rattle.block_build.specs.Netlist.Leaves.{all_leaves, leaf_widths}
use Rattle.block_build.proofs.netlist.leaves.+widths.Given as goal

abbrev pub invariant-push_all_widths-parts : goal.invariant-push_all_widths-parts
invariant-push_all_widths-parts l = l.widths.items ++ all_leaves (map leaf_widths (drop l.part-index l.parts)) ≡ l.initial.widths.items ++ all_leaves (map leaf_widths l.parts)
