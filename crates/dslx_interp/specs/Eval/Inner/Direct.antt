-- The value of an expression by those of its parts.
use Rattle.std.specs.Prelude.{pred, min, length, List, [], ◌∷◌, slice_get, Option, None}
use Rattle.xb_bits.specs.Word.{Word}
use Rattle.xb_value.specs.declared.value.Value.{Value}
use Rattle.dslx_meaning.specs.Lists.{and_then}
use Rattle.dslx_core.specs.CoreValues.{Bindings, CoreArmDen, CoreDen, Functions, arm_step, core_step, core_value, taken_apart}
use Rattle.dslx_core.specs.Designs.{functions_from, no_function}
use Rattle.dslx_core.specs.declared.design.Function.{Function}
use Rattle.dslx_core.specs.declared.expr.Arm.{Arm, fold-Arm}
use Rattle.dslx_core.specs.declared.expr.CoreExpr.{CoreExpr}
use Rattle.dslx_core.specs.declared.expr.Shape.{Shape}
use Rattle.dslx_core.specs.declared.expr.CoreExpr.TheOpen.{CoreExpr-F}
use Rattle.dslx_core.specs.declared.expr.CoreExpr.TheFolds.{map-CoreExpr}

-- what these functions give
abbrev pub calls_of : List Function → Functions
calls_of fs = functions_from 0 fs no_function

abbrev pub arm_den : Arm → CoreArmDen
arm_den = fold-Arm CoreDen CoreArmDen core_step arm_step

-- the value of an expression by those of its parts
abbrev pub layer : CoreExpr-F CoreExpr Arm → CoreDen
layer x = core_step (map-CoreExpr CoreExpr Arm CoreDen CoreArmDen core_value arm_den x)

-- two values, each by its own shape
abbrev pub two_apart : List Shape → Value → Value → Bindings → Option Bindings
two_apart [] v w bound = None
two_apart (p ∷ []) v w bound = None
two_apart (p ∷ q ∷ []) v w bound = and_then (taken_apart p v bound) (taken_apart q w)
two_apart (p ∷ q ∷ r ∷ ps) v w bound = None

-- the element at an index, the last one where it is past the end
abbrev pub read_at : List Value → Word → Option Value
read_at vs k = slice_get vs (min k.value (pred (length vs)))
