use Rattle.std.proofs.Common.{◌≡◌, drop}
use Rattle.std.specs.List.{list_all}
use Rattle.ir_text.specs.RoundTrip.InRange.{constant_in_range}
use Rattle.ir_text.proofs.round_trip.range.+constants.Given as goal

abbrev pub invariant-constants_in_range-constants : goal.invariant-constants_in_range-constants
invariant-constants_in_range-constants l = list_all constant_in_range l.constants ≡ list_all constant_in_range (drop l.constant-index l.constants)
