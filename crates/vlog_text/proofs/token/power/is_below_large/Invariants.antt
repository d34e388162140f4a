use Rattle.std.proofs.Common.{◌≡◌, ◌≤◌, ◌^◌, nat_lt}
use Rattle.std.specs.Str.Parse.{digits_value, AllDigits}
use Rattle.vlog_text.proofs.token.power.is_below_large.Given as goal

abbrev pub invariant-power : goal.invariant-power
invariant-power l = record {
  digits : AllDigits 10 l.number.items;
  large : 128 ≤ l.left;
  same : nat_lt (digits_value 10 l.number.items) (2 ^ l.left) ≡ nat_lt (digits_value 10 l.digits) (2 ^ l.power);
}

abbrev pub decreases-power : goal.decreases-power
decreases-power l = l.left
