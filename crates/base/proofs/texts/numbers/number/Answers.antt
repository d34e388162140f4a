use Rattle.std.proofs.Common.{◌+◌}
use Rattle.base.proofs.OnTexts.Digits.{one_more_digit, passed}
use Rattle.base.proofs.texts.numbers.number.Goals as goal

pub returns-in-None : goal.returns-in-None
returns-in-None c =
    passed c.args.radix c.args.digits.now (c.loop-digit.digit-index + 1) _ _ c.requires
    (one_more_digit c.args.radix c.args.digits.now c.loop-digit.digit-index _ _ c.loop-digit-test.true c.loop-digit.invariant c.digit_value.ensures)
    c.in-None.ensures

pub loop-digit-preserved : goal.loop-digit-preserved
loop-digit-preserved c =
    let next = one_more_digit c.args.radix c.args.digits.now c.loop-digit.digit-index _ _ c.loop-digit-test.true c.loop-digit.invariant c.digit_value.ensures in
    let is = c.in-Some.ensures in
    cc
