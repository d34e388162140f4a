-- What is lowered in two scopes that differ in what calls resolve to.
use Rattle.std.specs.Prelude.{◌≡◌, ℕ, List, Option, Some}
use Rattle.dslx_meaning.specs.declared.ty.DslxType.{DslxType}
use Rattle.dslx_meaning.specs.declared.value.DslxValue.{DslxValue}
use Rattle.dslx_core.specs.Lowering.CoreScopes.{CoreCallee}
use Rattle.dslx_core.specs.Lowering.Functions.{CoreInstance}
use Rattle.dslx_core.specs.Lowering.Lowering.{LoweredExpr}
use Rattle.dslx_core.specs.Machines.Machine.Callees.{CalleesByName}

-- ---- calls

-- a call that resolves to an instance by the first resolves to one by the second, too, and that has the same type of result
abbrev pub KnowsMore : CalleesByName → CalleesByName → Type 0
KnowsMore c d = (name : List ℕ) (given : List DslxValue) (types : List DslxType) (callee : CoreCallee) → c name given types ≡ Some callee
    → (other : CoreCallee) × (d name given types ≡ Some other) × (callee.result ≡ other.result)

-- a call that resolves to an instance by both has one type of result
abbrev pub Agree : CalleesByName → CalleesByName → Type 0
Agree c d = (name : List ℕ) (given : List DslxValue) (types : List DslxType) (callee other : CoreCallee) → c name given types ≡ Some callee → d name given types ≡ Some other
    → callee.result ≡ other.result

-- ---- what is lowered

-- if the first is there, so is the second, and it has the same type
abbrev pub LowerMono : Option LoweredExpr → Option LoweredExpr → Type 0
LowerMono o q = (r : LoweredExpr) → o ≡ Some r → (s : LoweredExpr) × (q ≡ Some s) × (r.ty ≡ s.ty)

-- if both are there, they have one type
abbrev pub LowerAgree : Option LoweredExpr → Option LoweredExpr → Type 0
LowerAgree o q = (r s : LoweredExpr) → o ≡ Some r → q ≡ Some s → r.ty ≡ s.ty

-- ---- instances

-- the two have the same types of arguments and of the result
pub record OfOneType (c d : CoreInstance) : Type 0 where
  pub arguments : c.function.arguments ≡ d.function.arguments
  pub result : c.function.result ≡ d.function.result

-- if the first is there, so is the second, and it has the same types
abbrev pub MakesMore : Option CoreInstance → Option CoreInstance → Type 0
MakesMore o q = (c : CoreInstance) → o ≡ Some c → (d : CoreInstance) × (q ≡ Some d) × OfOneType c d

-- if both are there, they have the same types
abbrev pub MakesAlike : Option CoreInstance → Option CoreInstance → Type 0
MakesAlike o q = (c d : CoreInstance) → o ≡ Some c → q ≡ Some d → OfOneType c d
