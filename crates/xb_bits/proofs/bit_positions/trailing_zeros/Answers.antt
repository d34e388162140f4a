use Rattle.std.proofs.Common.{◌<◌, arith, sym, ◌∙◌, ap}
use Rattle.std.specs.Int.{trailing_zeros, w128}
use Rattle.xb_bits.specs.BitPositions.{trailing_zero_count}
use Rattle.xb_bits.proofs.BitLemmas.{IsTrailing, trailing_in_128, trailing_of_zero, trailing_zero_count_is}
use Rattle.xb_bits.proofs.bit_positions.trailing_zeros.Goals as goal

first_one : (c : goal.Else-number-eq0) → IsTrailing c.args.width c.args.number (trailing_zeros w128 c.args.number)
first_one c =
    let some : 0 < c.args.number = omega (arith, c.if-number-eq0.false) in
    trailing_in_128 c.args.width c.args.number c.requires.most_width some c.requires.in_range

pub returns-then-number-eq0-clause-value : goal.returns-then-number-eq0-clause-value
returns-then-number-eq0-clause-value c =
    c.from.ensures
    ∙ sym (ap (trailing_zero_count c.args.width) c.if-number-eq0.true ∙ trailing_zero_count_is c.args.width 0 c.args.width (trailing_of_zero c.args.width))

pub returns-else-number-eq0-clause-value : goal.returns-else-number-eq0-clause-value
returns-else-number-eq0-clause-value c =
    sym (trailing_zero_count_is c.args.width c.args.number (trailing_zeros w128 c.args.number) (first_one c))

pub returns-else-number-eq0-clause-within : goal.returns-else-number-eq0-clause-within
returns-else-number-eq0-clause-within c = (first_one c).within

pub returns-else-number-eq0-clause-below : goal.returns-else-number-eq0-clause-below
returns-else-number-eq0-clause-below c = (first_one c).below

pub returns-else-number-eq0-clause-lowest : goal.returns-else-number-eq0-clause-lowest
returns-else-number-eq0-clause-lowest c = (first_one c).lowest
