-- How deep the rest of an expression may be, and what stands while a list of expressions is typed.
use Rattle.std.proofs.Common.{◌≡◌, ◌+◌, ◌*◌, take}
use Rattle.ir_lower.specs.Types.Typed.{EachTyped}
use Rattle.ir_lower.proofs.types.exprs.+types.Given as goal

abbrev pub invariant-type_each-exprs : goal.invariant-type_each-exprs
invariant-type_each-exprs l = (l.bound.items ≡ l.fn.bound.items) × EachTyped l.signatures l.fn.bound.items (take l.expr-index l.exprs) l.types.items

abbrev pub decreases-type_of : goal.decreases-type_of
decreases-type_of l = 8 * l.depth

abbrev pub decreases-type_each : goal.decreases-type_each
decreases-type_each l = 8 * l.depth + 1

abbrev pub decreases-type_tuple : goal.decreases-type_tuple
decreases-type_tuple l = 8 * l.depth + 2

abbrev pub decreases-type_array : goal.decreases-type_array
decreases-type_array l = 8 * l.depth + 2

abbrev pub decreases-type_unary : goal.decreases-type_unary
decreases-type_unary l = 8 * l.depth + 1

abbrev pub decreases-type_binary : goal.decreases-type_binary
decreases-type_binary l = 8 * l.depth + 1

abbrev pub decreases-type_cast : goal.decreases-type_cast
decreases-type_cast l = 8 * l.depth + 1

abbrev pub decreases-type_slice : goal.decreases-type_slice
decreases-type_slice l = 8 * l.depth + 1

abbrev pub decreases-type_part : goal.decreases-type_part
decreases-type_part l = 8 * l.depth + 1

abbrev pub decreases-type_element : goal.decreases-type_element
decreases-type_element l = 8 * l.depth + 1

abbrev pub decreases-type_index : goal.decreases-type_index
decreases-type_index l = 8 * l.depth + 1

abbrev pub decreases-type_update : goal.decreases-type_update
decreases-type_update l = 8 * l.depth + 1

abbrev pub decreases-type_choose : goal.decreases-type_choose
decreases-type_choose l = 8 * l.depth + 1

abbrev pub decreases-type_behind : goal.decreases-type_behind
decreases-type_behind l = 8 * l.depth + 1

abbrev pub decreases-type_under : goal.decreases-type_under
decreases-type_under l = 8 * l.depth + 2

abbrev pub decreases-type_bind : goal.decreases-type_bind
decreases-type_bind l = 8 * l.depth + 3

abbrev pub decreases-type_select : goal.decreases-type_select
decreases-type_select l = 8 * l.depth + 5

abbrev pub decreases-type_arms : goal.decreases-type_arms
decreases-type_arms l = 8 * l.depth + 4

abbrev pub decreases-type_first : goal.decreases-type_first
decreases-type_first l = 8 * l.depth + 3

abbrev pub decreases-type_arm : goal.decreases-type_arm
decreases-type_arm l = 8 * l.depth + 2

abbrev pub decreases-type_last : goal.decreases-type_last
decreases-type_last l = 8 * l.depth + 2

abbrev pub decreases-type_loop : goal.decreases-type_loop
decreases-type_loop l = 8 * l.depth + 3

abbrev pub decreases-type_turn : goal.decreases-type_turn
decreases-type_turn l = 8 * l.depth + 2

abbrev pub decreases-type_call : goal.decreases-type_call
decreases-type_call l = 8 * l.depth + 2
