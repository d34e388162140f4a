use Rattle.std.proofs.Common.{◌-◌, ◌+◌, drop, set, ap, ◌∙◌, arith}
use Rattle.chan_file.proofs.Numbers.{none_put, one_put, less_left}
use Rattle.chan_file.proofs.number.put_digits.Goals as goal

pub digits-init : goal.digits-init
digits-init c = record { put = none_put c.args.bytes.now c.args.number (omega arith); left = omega arith }

pub digits-preserved : goal.digits-preserved
digits-preserved c =
    record {
      put = ap (λ d. drop (35 - (c.digits.i + 1)) (set c.digits.bytes (34 - c.digits.i) d)) c.digit_char.ensures
          ∙ one_put c.digits.bytes c.digits.i c.args.number c.digits.left (omega arith) (omega arith) c.digits.invariant.left c.digits.invariant.put;
      left = less_left c.digits.i c.args.number c.digits.left c.digits.invariant.left;
    }
