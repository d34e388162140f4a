use Rattle.std.proofs.Common.{◌≡◌, ◌+◌, ◌-◌, ◌^◌, ◌<◌, min, sum, map, drop}
use Rattle.xb_value.specs.Width.{leaf_count}
use Rattle.xb_value.proofs.ty.+leaves.Given as goal

abbrev pub invariant-parts : goal.invariant-parts
invariant-parts l =
    record {
      fits : l.total < 2 ^ 64;
      total : min (l.total + sum (map leaf_count (drop l.part-index l.part-items))) (2 ^ 64 - 1) ≡ min (sum (map leaf_count l.part-items)) (2 ^ 64 - 1);
    }
