use Rattle.std.proofs.Common.{◌+◌, ◌*◌, ◌^◌, map, drop, ap, sym, ◌∙◌, arith}
use Rattle.xb_bits.specs.Word.{Word}
use Rattle.xb_value.specs.Flat.{flat_of, joined}
use Rattle.xb_value.proofs.Words.{joined-drop, beside-beside}
use Rattle.xb_value.proofs.flat_word.+pack.Goals as goal

pub pack_all-parts-preserved : goal.pack_all-parts-preserved
pack_all-parts-preserved t c =
    let v = c.part-item.result in
    let later = joined (map flat_of (drop (c.parts.part-index + 1) c.args.parts.now)) in
    let here = joined-drop c.args.parts.now c.parts.part-index v c.parts-test.true c.part-item.is in
    record {
      width = omega (arith, ap (λ (x : Word). x.width) here, c.parts.invariant.width, c.pack-packed.ensures.width);
      number =
          ap (λ n. n * 2 ^ later.width + later.value) c.pack-packed.ensures.number
          ∙ beside-beside c.parts.packed.number (flat_of v).width (flat_of v).value later.width later.value
          ∙ sym (ap (λ (x : Word). c.parts.packed.number * 2 ^ x.width + x.value) here)
          ∙ c.parts.invariant.number;
      in_range = c.pack-packed.ensures.in_range;
    }
