use Rattle.std.proofs.Common.{ap, ◌∙◌}
use Rattle.std.specs.Int.{bit_at}
use Rattle.xb_bits.proofs.BitLemmas.{reversed_below, bit_at-reversed}
use Rattle.xb_bits.proofs.bit_positions.rev.Goals as goal

pub invariant_of-result : goal.invariant_of-result
invariant_of-result c = record {
  some_width = c.a.invariant.some_width;
  most_width = c.a.invariant.most_width;
  in_range = rw c.reversed.ensures (reversed_below c.a.inside.width c.a.inside.value);
}

pub returns-clause-bit_positions : goal.returns-clause-bit_positions
returns-clause-bit_positions c =
    rw (← c.a.view_is)
    (λ i h. ap (λ n. bit_at n i) c.reversed.ensures ∙ bit_at-reversed c.a.inside.width c.a.inside.value i h)
