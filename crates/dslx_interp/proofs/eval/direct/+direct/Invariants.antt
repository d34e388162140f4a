use Rattle.std.proofs.Common.{◌≡◌, ◌+◌, ◌*◌, ◌-◌, ◌++◌, Some, drop, length, map}
use Rattle.dslx_meaning.specs.Lists.{and_then}
use Rattle.dslx_core.specs.CoreValues.{core_value, values_in, select, turns, one_turn}
use Rattle.dslx_interp.specs.Eval.Inner.Direct.{arm_den, calls_of}
use Rattle.dslx_interp.proofs.eval.direct.+direct.Given as goal

-- what is found so far, and what comes of the rest, are what comes of all
abbrev pub invariant-each_in-parts : goal.invariant-each_in-parts
invariant-each_in-parts l =
    record {
      stays : l.bound.items ≡ l.initial.bound.items;
      whole : and_then (values_in (map core_value (drop l.i l.exprs)) (calls_of l.functions) l.initial.bound.items) (λ ws. Some (l.values.items ++ ws))
          ≡ values_in (map core_value l.exprs) (calls_of l.functions) l.initial.bound.items;
    }

abbrev pub invariant-arms_in-arms : goal.invariant-arms_in-arms
invariant-arms_in-arms l =
    record {
      stays : l.bound.items ≡ l.initial.bound.items;
      whole : select (map arm_den (drop l.i l.arms)) l.value (calls_of l.functions) l.initial.bound.items ≡ select (map arm_den l.arms) l.value (calls_of l.functions) l.initial.bound.items;
      same_count : l.count ≡ length l.initial.bound.items;
    }

abbrev pub invariant-turns_in-turns : goal.invariant-turns_in-turns
invariant-turns_in-turns l =
    let body = one_turn l.index_shape l.shape (core_value l.body) (calls_of l.functions) l.initial.bound.items in
    record {
      stays : l.bound.items ≡ l.initial.bound.items;
      whole : turns body (l.count - l.turn) l.index l.value ≡ turns body l.count l.fn.from l.fn.start;
    }

-- ---- measures

abbrev pub decreases-value_in : goal.decreases-value_in
decreases-value_in l = 8 * l.levels

abbrev pub decreases-layer_in : goal.decreases-layer_in
decreases-layer_in l = 8 * l.levels + 5

abbrev pub decreases-word_in : goal.decreases-word_in
decreases-word_in l = 8 * l.levels

abbrev pub decreases-word_layer : goal.decreases-word_layer
decreases-word_layer l = 8 * l.levels + 7

abbrev pub decreases-other_word_in : goal.decreases-other_word_in
decreases-other_word_in l = 8 * l.levels + 6

abbrev pub decreases-binary_word_in : goal.decreases-binary_word_in
decreases-binary_word_in l = 8 * l.levels + 4

abbrev pub decreases-cast_word_in : goal.decreases-cast_word_in
decreases-cast_word_in l = 8 * l.levels + 4

abbrev pub decreases-each_in : goal.decreases-each_in
decreases-each_in l = 8 * l.levels + 1

abbrev pub decreases-tuple_in : goal.decreases-tuple_in
decreases-tuple_in l = 8 * l.levels + 4

abbrev pub decreases-array_in : goal.decreases-array_in
decreases-array_in l = 8 * l.levels + 4

abbrev pub decreases-unary_in : goal.decreases-unary_in
decreases-unary_in l = 8 * l.levels + 4

abbrev pub decreases-binary_in : goal.decreases-binary_in
decreases-binary_in l = 8 * l.levels + 4

abbrev pub decreases-cast_in : goal.decreases-cast_in
decreases-cast_in l = 8 * l.levels + 4

abbrev pub decreases-slice_in : goal.decreases-slice_in
decreases-slice_in l = 8 * l.levels + 4

abbrev pub decreases-part_in : goal.decreases-part_in
decreases-part_in l = 8 * l.levels + 4

abbrev pub decreases-element_in : goal.decreases-element_in
decreases-element_in l = 8 * l.levels + 4

abbrev pub decreases-index_in : goal.decreases-index_in
decreases-index_in l = 8 * l.levels + 4

abbrev pub decreases-update_in : goal.decreases-update_in
decreases-update_in l = 8 * l.levels + 4

abbrev pub decreases-bind_in : goal.decreases-bind_in
decreases-bind_in l = 8 * l.levels + 4

abbrev pub decreases-body_in : goal.decreases-body_in
decreases-body_in l = 8 * l.levels + 1

abbrev pub decreases-choose_in : goal.decreases-choose_in
decreases-choose_in l = 8 * l.levels + 4

abbrev pub decreases-select_in : goal.decreases-select_in
decreases-select_in l = 8 * l.levels + 4

abbrev pub decreases-arms_in : goal.decreases-arms_in
decreases-arms_in l = 8 * l.levels + 1

abbrev pub decreases-loop_in : goal.decreases-loop_in
decreases-loop_in l = 8 * l.levels + 4

abbrev pub decreases-turns_in : goal.decreases-turns_in
decreases-turns_in l = 8 * l.levels + 3

abbrev pub decreases-turn_in : goal.decreases-turn_in
decreases-turn_in l = 8 * l.levels + 2

abbrev pub decreases-call_in : goal.decreases-call_in
decreases-call_in l = 8 * l.levels + 4

abbrev pub decreases-function_in : goal.decreases-function_in
decreases-function_in l = 8 * l.levels + 1
