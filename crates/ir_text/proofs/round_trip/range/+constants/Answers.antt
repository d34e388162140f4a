use Rattle.std.proofs.Common.{rules}
use Rattle.ir_text.proofs.OnRoundTrip.Ranges.{array_value_held, tuple_value_held}
use Rattle.ir_text.proofs.round_trip.range.+constants.Goals as goal

pub constant_in_range-returns-in-Tuple : goal.constant_in_range-returns-in-Tuple
constant_in_range-returns-in-Tuple c = search (rules, tuple_value_held)

pub constant_in_range-returns-in-Array : goal.constant_in_range-returns-in-Array
constant_in_range-returns-in-Array c = search (rules, array_value_held)
