use Rattle.std.proofs.Common.{◌≡◌, ◌-◌, ◌^◌, min, max, drop, map}
use Rattle.ir_tree.specs.NodeTypes.Types.{levels_of, max_of}
use Rattle.ir_tree.proofs.node_types.types.+levels_of.Given as goal

abbrev pub invariant-parts : goal.invariant-parts
invariant-parts l = min (max l.most (max_of (map levels_of (drop l.part-index l.part-items)))) (2 ^ 64 - 1) ≡ min (max_of (map levels_of l.part-items)) (2 ^ 64 - 1)
