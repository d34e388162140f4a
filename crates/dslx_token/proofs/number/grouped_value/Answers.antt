use Rattle.std.proofs.Common.{arith, ◌*◌, ◌≡◌, ◌∙◌, ap, get_or}
use Rattle.std.specs.Char.{digit_value}
use Rattle.dslx_token.proofs.Digits.{all_read, so_far_le}
use Rattle.dslx_token.specs.Lexical.{grouped_value}
use Rattle.dslx_token.proofs.number.grouped_value.Goals as goal

pub returns-in_err-shifted : goal.returns-in_err-shifted
returns-in_err-shifted c =
    let le = so_far_le c.args.radix c.loop-digit.value c.loop-digit.digit-index (grouped_value c.args.radix c.args.digits.now) c.args.digits.now c.requires (omega arith) c.if-digit-ne95.true c.loop-digit.invariant.left in
    rw c.from_residual.ensures (λ h. c.in_err-shifted.ensures {u = tt} (let same : c.from.result ≡ c.args.radix = c.from.ensures in rw same (omega (arith, le, h))))

pub returns-in_err-value : goal.returns-in_err-value
returns-in_err-value c =
    let le = so_far_le c.args.radix c.loop-digit.value c.loop-digit.digit-index (grouped_value c.args.radix c.args.digits.now) c.args.digits.now c.requires (omega arith) c.if-digit-ne95.true c.loop-digit.invariant.left in
    let same : c.from.result ≡ c.args.radix = c.from.ensures in
    let shifted : c.in_ok-shifted.shifted ≡ c.loop-digit.value * c.args.radix = c.in_ok-shifted.ensures.1 ∙ ap (λ r. c.loop-digit.value * r) same in
    let digit : c.from-then-digit-ne95.result ≡ digit_value (get_or c.args.digits.now c.loop-digit.digit-index 0) = c.from-then-digit-ne95.ensures ∙ c.digit_value.ensures in
    rw c.from_residual-in_err-value.ensures (λ h. c.in_err-value.ensures {u = tt} (omega (arith, le, h, shifted, digit)))

pub returns : goal.returns
returns c =
    let done = all_read c.args.radix c.loop-digit.value c.loop-digit.digit-index (grouped_value c.args.radix c.args.digits.now) c.args.digits.now c.loop-digit-test.false c.loop-digit.invariant.left in
    (omega (arith, done, c.loop-digit.invariant.in_range), done)
