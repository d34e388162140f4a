use Rattle.std.proofs.Common.{◌≡◌, ◌+◌, ◌*◌, ◌^◌, ◌<◌, map, drop}
use Rattle.xb_value.specs.Flat.{flat_of, joined}
use Rattle.xb_value.proofs.flat_word.+pack.Given as goal

abbrev pub invariant-pack_all-parts : goal.invariant-pack_all-parts
invariant-pack_all-parts l =
    let left = joined (map flat_of (drop l.part-index l.parts)) in
    let all = joined (map flat_of l.parts) in
    record {
      width : l.packed.width + left.width ≡ l.fn.high.width + all.width;
      number : l.packed.number * 2 ^ left.width + left.value ≡ l.fn.high.number * 2 ^ all.width + all.value;
      in_range : l.packed.number < 2 ^ l.packed.width;
    }
