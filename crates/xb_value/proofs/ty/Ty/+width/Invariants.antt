use Rattle.std.proofs.Common.{◌≡◌, ◌+◌, ◌-◌, ◌^◌, ◌<◌, min, sum, map, drop}
use Rattle.xb_value.specs.Width.{width_of}
use Rattle.xb_value.proofs.ty.Ty.+width.Given as goal

abbrev pub invariant-parts : goal.invariant-parts
invariant-parts l =
    record {
      fits : l.width < 2 ^ 64;
      total : min (l.width + sum (map width_of (drop l.part-index l.part-items))) (2 ^ 64 - 1) ≡ min (sum (map width_of l.part-items)) (2 ^ 64 - 1);
    }
