-- How deep the rest of an expression may be, and what stands while a list of expressions or the turns of a loop are lowered.
use Rattle.std.proofs.Common.{◌≡◌, ◌+◌, ◌*◌, ℕ, List, take}
use Rattle.dslx_core.specs.CoreValues.{core_value}
use Rattle.dslx_core.specs.Types.Designs.{FunctionSignature}
use Rattle.ir_lower_nodes.specs.Exprs.NodeTypes.{node_type}
use Rattle.ir_lower_nodes.specs.Exprs.Calls.{AreNodeFunctions, calls_below, types_below}
use Rattle.ir_lower_nodes.specs.Exprs.Lowered.{EachLowers}
use Rattle.ir_lower_nodes.proofs.OnExprs.OnControl.{LoopSo}
use Rattle.ir_lower_nodes.proofs.exprs.exprs.+lower.Given as goal

abbrev pub invariant-lower_each-exprs : goal.invariant-lower_each-exprs
invariant-lower_each-exprs l = (l.slots.items ≡ l.fn.slots.items) × EachLowers l.functions (take l.expr-index l.exprs) l.fn.slots.items l.fn.nodes l.nodes l.operands.items

abbrev pub invariant-lower_loop-turns : goal.invariant-lower_loop-turns
invariant-lower_loop-turns l =
    (l.slots.items ≡ l.fn.slots.items)
    × ((signatures : List FunctionSignature) (n : ℕ) → AreNodeFunctions signatures l.functions → LoopSo (types_below n signatures) (calls_below n l.functions) l.fn.slots.items l.index l.shape (node_type l.body) (node_type l.start) (core_value l.body) (core_value l.start) l.turns l.counter l.initial.place l.place l.fn.nodes l.nodes l.value)

abbrev pub decreases-lower : goal.decreases-lower
decreases-lower l = 8 * l.depth

abbrev pub decreases-lower_each : goal.decreases-lower_each
decreases-lower_each l = 8 * l.depth + 1

abbrev pub decreases-lower_tuple : goal.decreases-lower_tuple
decreases-lower_tuple l = 8 * l.depth + 2

abbrev pub decreases-lower_array : goal.decreases-lower_array
decreases-lower_array l = 8 * l.depth + 2

abbrev pub decreases-lower_unary : goal.decreases-lower_unary
decreases-lower_unary l = 8 * l.depth + 1

abbrev pub decreases-lower_binary : goal.decreases-lower_binary
decreases-lower_binary l = 8 * l.depth + 1

abbrev pub decreases-lower_cast : goal.decreases-lower_cast
decreases-lower_cast l = 8 * l.depth + 1

abbrev pub decreases-lower_slice : goal.decreases-lower_slice
decreases-lower_slice l = 8 * l.depth + 1

abbrev pub decreases-lower_part : goal.decreases-lower_part
decreases-lower_part l = 8 * l.depth + 1

abbrev pub decreases-lower_element : goal.decreases-lower_element
decreases-lower_element l = 8 * l.depth + 1

abbrev pub decreases-lower_index : goal.decreases-lower_index
decreases-lower_index l = 8 * l.depth + 1

abbrev pub decreases-lower_update : goal.decreases-lower_update
decreases-lower_update l = 8 * l.depth + 1

abbrev pub decreases-lower_choose : goal.decreases-lower_choose
decreases-lower_choose l = 8 * l.depth + 1

abbrev pub decreases-lower_behind : goal.decreases-lower_behind
decreases-lower_behind l = 8 * l.depth + 1

abbrev pub decreases-lower_bind : goal.decreases-lower_bind
decreases-lower_bind l = 8 * l.depth + 2

abbrev pub decreases-lower_select : goal.decreases-lower_select
decreases-lower_select l = 8 * l.depth + 5

abbrev pub decreases-lower_arms : goal.decreases-lower_arms
decreases-lower_arms l = 8 * l.depth + 4

abbrev pub decreases-lower_choice : goal.decreases-lower_choice
decreases-lower_choice l = 8 * l.depth + 3

abbrev pub decreases-lower_arm : goal.decreases-lower_arm
decreases-lower_arm l = 8 * l.depth + 2

abbrev pub decreases-lower_loop : goal.decreases-lower_loop
decreases-lower_loop l = 8 * l.depth + 3

abbrev pub decreases-lower_turn : goal.decreases-lower_turn
decreases-lower_turn l = 8 * l.depth + 2

abbrev pub decreases-lower_call : goal.decreases-lower_call
decreases-lower_call l = 8 * l.depth + 2
