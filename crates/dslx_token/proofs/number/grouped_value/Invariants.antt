use Rattle.std.proofs.Common.{◌≡◌, ◌<◌, ◌^◌, drop}
use Rattle.std.specs.Prelude.{filter}
use Rattle.std.specs.Str.Parse.{digits_value_after}
use Rattle.dslx_token.specs.Lexical.{grouped_value}
use Rattle.dslx_token.proofs.Digits.{counts}
use Rattle.dslx_token.proofs.number.grouped_value.Given as goal

abbrev pub invariant-loop-digit : goal.invariant-loop-digit
invariant-loop-digit l =
    record { left : digits_value_after l.radix l.value (filter counts (drop l.digit-index l.digits)) ≡ grouped_value l.radix l.digits; in_range : l.value < 2 ^ 128 }
