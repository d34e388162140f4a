use Rattle.base.proofs.OnTexts.Digits.{digits_more, digits_done}
use Rattle.base.proofs.texts.numbers.push_hex.Goals as goal

pub digits-preserved : goal.digits-preserved
digits-preserved c = digits_more _ _ _ _ _ _ c.digits-test.true c.digits.invariant c.in_ok-push_digit.ensures

pub returns : goal.returns
returns c = digits_done _ _ _ _ _ c.digits-test.false c.digits.invariant
