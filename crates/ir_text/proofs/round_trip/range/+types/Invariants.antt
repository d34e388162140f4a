use Rattle.std.proofs.Common.{◌≡◌, drop}
use Rattle.std.specs.List.{list_all}
use Rattle.ir_text.specs.RoundTrip.InRange.{type_in_range}
use Rattle.ir_text.proofs.round_trip.range.+types.Given as goal

abbrev pub invariant-types_in_range-types : goal.invariant-types_in_range-types
invariant-types_in_range-types l = list_all type_in_range l.types ≡ list_all type_in_range (drop l.ty-index l.types)
