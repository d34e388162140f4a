-- What operations make of the values on the top of a stack.
use Rattle.std.specs.Prelude.{ℕ, List, ◌∷◌, ◌+◌, ◌&&◌, nat_lt, nat_le, min, pred, drop, take, reverse, length, set, slice_get, Option, Some, None, if◌then◌else◌}
use Rattle.xb_bits.specs.Word.{Word}
use Rattle.xb_bits.specs.Operations.{slice, dyn_slice}
use Rattle.xb_value.specs.declared.value.Value.{Value, Bits, Tuple, Array, out-Value}
use Rattle.dslx_meaning.specs.Lists.{and_then, with_both, where_true}
use Rattle.dslx_meaning.specs.Operators.{cast_word}
use Rattle.dslx_core.specs.CoreValues.{word_of_value, array_values_step, tuple_values_step, unary_word, binary_words, is_signed_read, is_width}
use Rattle.dslx_interp.specs.declared.eval.operation.Operation.{Operation}
use Rattle.dslx_interp.specs.declared.eval.operation.Operation.TheVariants as o

-- the top
abbrev pub top_of : List Value → Option Value
top_of vs = slice_get vs 0

-- what is below it
abbrev pub below : List Value → List Value
below vs = drop 1 vs

-- the word on the top
abbrev pub top_word : List Value → Option Word
top_word vs = and_then (top_of vs) word_of_value

abbrev pub put_on : Option Value → List Value → Option (List Value)
put_on None vs = None
put_on (Some v) vs = Some (v ∷ vs)

abbrev pub tuple_on : ℕ → List Value → Option (List Value)
tuple_on n vs = Some (Tuple (reverse (take n vs)) ∷ drop n vs)

abbrev pub array_on : ℕ → List Value → Option (List Value)
array_on n vs = Some (Array (reverse (take n vs)) ∷ drop n vs)

abbrev pub operated : Operation → List Value → Option (List Value)
operated (o.Tuple n) vs = tuple_on n vs
operated (o.Array n) vs = array_on n vs
operated (o.Unary op) vs = put_on (and_then (top_word vs) (λ w. Some (Bits (unary_word op w)))) (below vs)
operated (o.Binary op) vs = put_on (with_both (top_word (below vs)) (top_word vs) (binary_words op)) (below (below vs))
operated (o.Cast sign w) vs = put_on (and_then (top_word vs) (λ x. where_true (is_width w) (Some (Bits (cast_word (is_signed_read sign) w x))))) (below vs)
operated (o.Slice from w) vs = put_on (and_then (top_word vs) (λ x. where_true (nat_lt 0 w && nat_le (from + w) x.width) (Some (Bits (slice x from w))))) (below vs)
operated (o.Part w) vs = put_on (with_both (top_word (below vs)) (top_word vs) (λ x k. where_true (is_width w) (Some (Bits (dyn_slice x k w))))) (below (below vs))
operated (o.Element k) vs = put_on (and_then (and_then (top_of vs) (λ v. tuple_values_step (out-Value v))) (λ vs. slice_get vs k)) (below vs)
operated o.Index vs =
    put_on (with_both (and_then (top_of (below vs)) (λ v. array_values_step (out-Value v))) (top_word vs) (λ vs k. slice_get vs (min k.value (pred (length vs)))))
    (below (below vs))
operated o.Update vs =
    put_on (and_then (top_of vs) (λ new. with_both (and_then (top_of (below (below vs))) (λ v. array_values_step (out-Value v))) (top_word (below vs))
    (λ vs k. Some (Array (if nat_lt k.value (length vs) then set vs k.value new else vs)))))
    (below (below (below vs)))
