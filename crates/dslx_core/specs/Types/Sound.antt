-- What the types of expressions say of their values.
use Rattle.std.specs.Prelude.{◌≡◌, ℕ, List, map, Option, Some, IsTrue}
use Rattle.xb_value.specs.declared.ty.Ty.{Ty}
use Rattle.xb_value.specs.declared.value.Value.{Value}
use Rattle.xb_value.specs.Typing.{IsOfType, fits, each_passes}
use Rattle.dslx_core.specs.CoreValues.{Functions}
use Rattle.dslx_core.specs.Types.Typing.{FunctionTypes}

-- as many values as types, each of its own
abbrev pub AreOfTypes : List Ty → List Value → Type 0
AreOfTypes ts vs = IsTrue (each_passes (map fits ts) vs)

-- there is a value, and it is of the type
pub record HasValueOf (o : Option Value) (t : Ty) : Type 0 where
  pub value : Value
  pub is : o ≡ Some value
  pub typed : IsOfType t value

-- what a function with a type for its operands' gives for values of those is of it
abbrev pub FunctionsGive : FunctionTypes → Functions → Type 0
FunctionsGive functions calls = (f : ℕ) (ts : List Ty) (vs : List Value) (t : Ty) → functions f ts ≡ Some t → AreOfTypes ts vs → HasValueOf (calls f vs) t
