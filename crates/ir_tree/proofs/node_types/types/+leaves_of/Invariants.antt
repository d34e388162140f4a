use Rattle.std.proofs.Common.{◌≡◌, ◌+◌, ◌-◌, ◌^◌, ◌<◌, min, sum, map, drop}
use Rattle.xb_value.specs.Width.{leaf_count}
use Rattle.ir_tree.specs.Types.{ty_of}
use Rattle.ir_tree.proofs.node_types.types.+leaves_of.Given as goal

abbrev pub invariant-parts : goal.invariant-parts
invariant-parts l =
    record {
      fits : l.total < 2 ^ 64;
      total : min (l.total + sum (map leaf_count (map ty_of (drop l.part-index l.part-items)))) (2 ^ 64 - 1) ≡ min (sum (map leaf_count (map ty_of l.part-items))) (2 ^ 64 - 1);
    }
