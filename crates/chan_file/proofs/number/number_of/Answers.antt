use Rattle.std.proofs.Common.{◌≡◌, ◌∙◌, get_or, arith}
use Rattle.std.specs.Char.{digit_value}
use Rattle.chan_file.proofs.Numbers.{more_fits, below_more, all_more, value_more}
use Rattle.chan_file.proofs.number.number_of.Goals as goal

pub overflow_mul-number : goal.overflow_mul-number
overflow_mul-number c =
    omega (arith, more_fits c.digits.number c.digits.byte-index c.value_at-digit.result c.digits.invariant.below (omega arith) (omega arith))

pub overflow_add-number : goal.overflow_add-number
overflow_add-number c =
    omega (arith, c.from.ensures, more_fits c.digits.number c.digits.byte-index c.from.result c.digits.invariant.below (omega arith) (omega (arith, c.from.ensures)))

pub digits-preserved : goal.digits-preserved
digits-preserved c =
    let digit : c.from.result ≡ digit_value (get_or c.args.digits.now c.digits.byte-index 0) = c.from.ensures ∙ c.value_at-digit.ensures in
    record {
      digits = all_more c.args.digits.now c.digits.byte-index c.from.result (omega arith) digit (omega (arith, c.from.ensures)) c.digits.invariant.digits;
      number = value_more c.args.digits.now c.digits.byte-index c.from.result c.digits.number _ (omega arith) digit c.digits.invariant.number;
      below = below_more c.digits.number c.digits.byte-index c.from.result c.digits.invariant.below (omega (arith, c.from.ensures));
    }
