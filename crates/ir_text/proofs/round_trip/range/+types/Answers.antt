use Rattle.std.proofs.Common.{rules}
use Rattle.ir_text.proofs.OnRoundTrip.Ranges.{tuple_held}
use Rattle.ir_text.proofs.round_trip.range.+types.Goals as goal

pub type_in_range-returns-in-Tuple : goal.type_in_range-returns-in-Tuple
type_in_range-returns-in-Tuple c = search (rules, tuple_held)
