use Rattle.std.proofs.Common.{◌≤◌, ◌+◌, arith, ap}
use Rattle.xb_bits.specs.Word.{word}
use Rattle.xb_bits.proofs.Joins.{or_joined_128, joined_below}
use Rattle.xb_bits.proofs.parts.concat.Goals as goal

pub invariant_of-result : goal.invariant_of-result
invariant_of-result c =
    let room : c.a.inside.width + c.b.inside.width ≤ 128 = rw (← c.a.view_is, ← c.b.view_is) at c.requires in
    record {
      some_width = omega arith;
      most_width = room;
      in_range =
          rw (or_joined_128 c.a.inside.width c.b.inside.width c.a.inside.value c.b.inside.value c.a.invariant.in_range c.b.invariant.in_range room)
          (joined_below c.a.inside.width c.b.inside.width c.a.inside.value c.b.inside.value c.a.invariant.in_range c.b.invariant.in_range);
    }

pub returns : goal.returns
returns c =
    let room : c.a.inside.width + c.b.inside.width ≤ 128 = rw (← c.a.view_is, ← c.b.view_is) at c.requires in
    rw (← c.a.view_is, ← c.b.view_is)
    (ap (word (c.a.inside.width + c.b.inside.width))
    (or_joined_128 c.a.inside.width c.b.inside.width c.a.inside.value c.b.inside.value c.a.invariant.in_range c.b.invariant.in_range room))
