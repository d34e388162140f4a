-- Which values fit a pattern, and what it binds of them, fit or not.
use Rattle.std.specs.Prelude.{Bool, true, false, ◌&&◌, ◌||◌, List, [], ◌∷◌, ◌++◌, Option, Some, None}
use Rattle.xb_value.specs.declared.value.Value.{Value, out-Value}
use Rattle.dslx_core.specs.declared.expr.Shape.{Shape, fold-Shape}
use Rattle.dslx_core.specs.declared.expr.Shape.TheOpen.{Shape-F}
use Rattle.dslx_core.specs.CoreValues.{is_like, tuple_values_step}

-- ---- which fit

-- as many values as tests, and each passes its own
abbrev pub each_fit : List (Value → Bool) → List Value → Bool
each_fit [] [] = true
each_fit [] (v ∷ vs) = false
each_fit (p ∷ ps) [] = false
each_fit (p ∷ ps) (v ∷ vs) = p v && each_fit ps vs

abbrev pub tuple_fit : List (Value → Bool) → Option (List Value) → Bool
tuple_fit ps None = false
tuple_fit ps (Some vs) = each_fit ps vs

abbrev pub fit_step : Shape-F (Value → Bool) → Value → Bool
fit_step Shape-F.Wild v = true
fit_step Shape-F.Bound v = true
fit_step (Shape-F.Equal w) v = is_like w v
fit_step (Shape-F.Tuple ps) v = tuple_fit ps (tuple_values_step (out-Value v))

-- the value fits the pattern
abbrev pub fits_shape : Shape → Value → Bool
fits_shape = fold-Shape (Value → Bool) fit_step

-- it fits one of them
abbrev pub any_fit : List Shape → Value → Bool
any_fit [] v = false
any_fit (p ∷ ps) v = fits_shape p v || any_fit ps v

-- ---- what is bound

abbrev pub each_parts : List (Value → List Value) → List Value → List Value
each_parts [] vs = []
each_parts (q ∷ qs) [] = []
each_parts (q ∷ qs) (v ∷ vs) = q v ++ each_parts qs vs

abbrev pub parts_or_none : Option (List Value) → List Value
parts_or_none None = []
parts_or_none (Some vs) = vs

-- the parts of a tuple
abbrev pub parts_in : Value → List Value
parts_in v = parts_or_none (tuple_values_step (out-Value v))

abbrev pub part_step : Shape-F (Value → List Value) → Value → List Value
part_step Shape-F.Wild v = []
part_step Shape-F.Bound v = v ∷ []
part_step (Shape-F.Equal w) v = []
part_step (Shape-F.Tuple qs) v = each_parts qs (parts_in v)

-- what the pattern binds of a value
abbrev pub parts_of : Shape → Value → List Value
parts_of = fold-Shape (Value → List Value) part_step

-- what an arm does: one with several patterns binds nothing
abbrev pub arm_parts : List Shape → Value → List Value
arm_parts [] v = []
arm_parts (p ∷ []) v = parts_of p v
arm_parts (p ∷ q ∷ ps) v = []
