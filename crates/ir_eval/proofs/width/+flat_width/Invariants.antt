use Rattle.std.proofs.Common.{◌≡◌, ◌+◌, ◌-◌, ◌^◌, ◌<◌, min, map, drop}
use Rattle.xb_value.specs.Flat.{flat_of, joined}
use Rattle.ir_eval.proofs.width.+flat_width.Given as goal

abbrev pub invariant-joined_width-parts : goal.invariant-joined_width-parts
invariant-joined_width-parts l =
    record {
      fits : l.width < 2 ^ 64;
      total : min (l.width + (joined (map flat_of (drop l.part-index l.parts))).width) (2 ^ 64 - 1) ≡ min (joined (map flat_of l.parts)).width (2 ^ 64 - 1);
    }
