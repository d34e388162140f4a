use Rattle.std.proofs.Common.{◌≡◌, ◌≤◌, ◌∙◌, ◌^◌, ◌-◌, ◌/◌, ℕ, ap, sym, subst, arith}
use Rattle.std.specs.Str.Parse.{digits_value}
use Rattle.vlog_text.proofs.OnToken.Powers.{left_same}
use Rattle.vlog_text.proofs.token.power.is_below_large.Goals as goal

pub power-preserved : goal.power-preserved
power-preserved c =
    let step : c.from-left.result ≤ c.power.left = omega (arith, c.power-test.true, c.min-step.ensures, c.from-left.ensures) in
    let divided = c.in_ok-number-2.ensures.value in
    let items = c.deref.ensures.value in
    record {
      digits = c.in_ok-number-2.ensures.digits;
      large = omega (arith, c.power-test.true, c.min-step.ensures, c.from-left.ensures);
      same = left_same (digits_value 10 c.args.digits.now) c.args.power (digits_value 10 c.power.number.items) c.power.left c.from-left.result (digits_value 10 c.in_ok-number-2.number.items) step
          (divided ∙ (ap (λ ds. digits_value 10 ds / 2 ^ c.min-step.result) items ∙ ap (λ k. digits_value 10 c.power.number.items / 2 ^ k) (sym c.from-left.ensures)))
          c.power.invariant.same;
    }
