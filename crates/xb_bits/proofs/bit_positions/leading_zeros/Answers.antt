use Rattle.std.proofs.Common.{◌-◌, sym}
use Rattle.std.specs.Int.{leading_zeros, w128}
use Rattle.xb_bits.proofs.BitLemmas.{leading_in_128, leading_zero_count_is}
use Rattle.xb_bits.proofs.bit_positions.leading_zeros.Goals as goal

pub overflow_sub-result-2 : goal.overflow_sub-result-2
overflow_sub-result-2 c =
    rw c.from.ensures (leading_in_128 c.args.width c.args.number c.requires.most_width c.requires.in_range).0

pub returns-clause-value : goal.returns-clause-value
returns-clause-value c =
    rw c.from.ensures
    (sym (leading_zero_count_is c.args.width c.args.number (leading_zeros w128 c.args.number - (128 - c.args.width))
    (leading_in_128 c.args.width c.args.number c.requires.most_width c.requires.in_range).1))

pub returns-clause-above : goal.returns-clause-above
returns-clause-above c =
    let both = leading_in_128 c.args.width c.args.number c.requires.most_width c.requires.in_range in
    rw c.from.ensures both.1.above

pub returns-clause-highest : goal.returns-clause-highest
returns-clause-highest c =
    let both = leading_in_128 c.args.width c.args.number c.requires.most_width c.requires.in_range in
    rw c.from.ensures both.1.highest
