use Rattle.std.proofs.Common.{◌≡◌, drop}
use Rattle.std.specs.List.{list_all}
use Rattle.ir_text.specs.RoundTrip.InRange.{is_held}
use Rattle.ir_text.proofs.round_trip.range.numbers_in_range.Given as goal

abbrev pub invariant-numbers : goal.invariant-numbers
invariant-numbers l = list_all is_held l.numbers ≡ list_all is_held (drop l.number-index l.numbers)
