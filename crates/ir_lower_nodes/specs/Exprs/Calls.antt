-- What functions give, and their types.
use Rattle.std.specs.Prelude.{◌≡◌, ℕ, List, take, Some, length, slice_get}
use Rattle.dslx_core.specs.CoreValues.{Functions}
use Rattle.dslx_core.specs.Designs.{functions_from, no_function}
use Rattle.dslx_core.specs.declared.design.Function.{Function}
use Rattle.dslx_core.specs.Types.Typing.{FunctionTypes}
use Rattle.dslx_core.specs.Types.Designs.{FunctionSignature, no_types, types_from}
use Rattle.ir_lower_nodes.specs.Exprs.NodeTypes.{node_type}

-- what the functions before the one of this number give
abbrev pub calls_below : ℕ → List Function → Functions
calls_below n fs = functions_from 0 (take n fs) no_function

-- and its type
abbrev pub types_below : ℕ → List FunctionSignature → FunctionTypes
types_below n signatures = types_from 0 (take n signatures) no_types

-- a function's body has the type of its result, and each part of it one that a node may have
pub record IsNodeFunction (fs : List Function) (before : FunctionTypes) (k : ℕ) (s : FunctionSignature) : Type 0 where
  pub function : Function
  pub there : slice_get fs k ≡ Some function
  pub arity : length s.arguments ≡ function.arity
  pub body : node_type function.body before s.arguments ≡ Some s.result

-- each is, over those before it
abbrev pub AreNodeFunctions : List FunctionSignature → List Function → Type 0
AreNodeFunctions signatures fs = (k : ℕ) (s : FunctionSignature) → slice_get signatures k ≡ Some s → IsNodeFunction fs (types_below k signatures) k s
