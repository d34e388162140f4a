use Rattle.std.proofs.Common.{◌+◌, ◌*◌, ◌-◌}
use Rattle.dslx_check_facts.specs.Known.{item_names}
use Rattle.dslx_check_rules.specs.Rows.{parts_of}
use Rattle.dslx_check_leaves.proofs.fits.words.+low.Given as goal
use Rattle.dslx_check_leaves.proofs.OnFits.OnWords.{LowsFrom, TimesSoFar, bound_of}

abbrev pub decreases-low_value : goal.decreases-low_value
decreases-low_value l = 4 * l.ty.0 + 3

abbrev pub decreases-low_of_row : goal.decreases-low_of_row
decreases-low_of_row l = 4 * bound_of (parts_of l.row.now) + 2

abbrev pub decreases-low_tuple : goal.decreases-low_tuple
decreases-low_tuple l = 4 * bound_of l.parts.now + 1

abbrev pub decreases-low_struct : goal.decreases-low_struct
decreases-low_struct l = 4 * bound_of l.parts.now + 1

abbrev pub decreases-low_parts : goal.decreases-low_parts
decreases-low_parts l = 4 * bound_of l.parts.now

abbrev pub decreases-low_array : goal.decreases-low_array
decreases-low_array l = 4 * (l.part.0 + 1) + 1

abbrev pub invariant-low_parts-parts : goal.invariant-low_parts-parts
invariant-low_parts-parts l = LowsFrom (item_names l.f) l.types l.parts l.fn.number (l.count - l.i) l.values.items l.rest

abbrev pub invariant-low_array-turns : goal.invariant-low_array-turns
invariant-low_array-turns l = TimesSoFar (item_names l.f) l.types l.part l.fn.number l.counter l.values.items l.rest
