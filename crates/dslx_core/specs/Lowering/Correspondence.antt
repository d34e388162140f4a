-- What it means that a core expression simulates an expression of a text: wherever the names have values of their types at
-- their indices, and the text's expression has a value, that value is of the type, and the core expression has it, without
-- signs and names.
use Rattle.std.specs.Prelude.{◌≡◌, ℕ, List, [], ◌∷◌, map, true, Option, Some, None, length, slice_get}
use Rattle.std.specs.List.{list_all}
use Rattle.dslx_meaning.specs.Values.{plain_value, type_of_value}
use Rattle.dslx_meaning.specs.Environment.{Given, Env, Meanings, given_in}
use Rattle.dslx_meaning.specs.Meaning.{ValueDen, TypeDen, PatternDen}
use Rattle.dslx_meaning.specs.declared.ty.DslxType.{DslxType}
use Rattle.dslx_meaning.specs.declared.value.DslxValue.{DslxValue}
use Rattle.dslx_core.specs.Typing.Typed.Kinds.{is_of, each_of}
use Rattle.dslx_core.specs.CoreValues.{Bindings, Functions, core_value, taken_apart}
use Rattle.dslx_core.specs.Lowering.CoreScopes.{CoreCallee, BodyEnv, BoundSlot, CoreScope}
use Rattle.dslx_core.specs.Lowering.Lowering.{LoweredExpr}
use Rattle.dslx_core.specs.Lowering.Patterns.{ExprLowering, LoweredShape, PatternLowering}
use Rattle.dslx_core.specs.Lowering.Trees.{TypeLowering}

-- ---- scopes

-- a value is of its own type
abbrev pub IsOwn : DslxValue → Type 0
IsOwn v = is_of (type_of_value v) v ≡ true

-- what a call resolves to gives the value that the text's call has
abbrev pub CallsSimulate : BodyEnv → Functions → Type 0
CallsSimulate known calls = (name : List ℕ) (given operands : List DslxValue) (types : List DslxType) (callee : CoreCallee) (v : DslxValue)
    → known.callee name given types ≡ Some callee → each_of (map is_of types) operands ≡ true → known.items.call name given operands ≡ Some v
    → (is_of callee.result v ≡ true) × (calls callee.number (map plain_value operands) ≡ Some (plain_value v))

-- no constant has the name of something that is bound
abbrev pub HidesNoConstant : Meanings → List Given → Type 0
HidesNoConstant items bound = (name : List ℕ) → items.is_constant name ≡ true → given_in name bound ≡ None

-- the environment of a body: values are of their own types, no parametric has a constant's name, and calls give
-- the values that they denote
pub record BodyEnvSimulates (known : BodyEnv) (calls : Functions) : Type 0 where
  pub parametric_args : (name : List ℕ) (v : DslxValue) → given_in name known.parametric_args ≡ Some v → IsOwn v
  pub constants : (name : List ℕ) (v : DslxValue) → known.items.constant name ≡ Some v → IsOwn v
  pub members : (name member : List ℕ) (v : DslxValue) → known.items.member name member ≡ Some v → IsOwn v
  pub hides : HidesNoConstant known.items known.parametric_args
  pub callees : CallsSimulate known calls

-- each local has a value of its type, which is found at its index, and behind the locals are the parametrics
abbrev pub SlotsSimulate : List BoundSlot → List Given → List Given → Bindings → Type 0
SlotsSimulate [] parametric_args given bound = given ≡ parametric_args
SlotsSimulate (l ∷ ls) parametric_args [] bound = ⊥
SlotsSimulate (l ∷ ls) parametric_args (g ∷ gs) bound =
    (g.name ≡ l.name) × (is_of l.ty g.value ≡ true) × (slice_get bound l.slot ≡ Some (plain_value g.value)) × SlotsSimulate ls parametric_args gs bound

-- the scope, where these names are bound in the text, and these values in the core expression that simulates it
pub record SimulatesInScope (scope : CoreScope) (calls : Functions) (given : List Given) (bound : Bindings) : Type 0 where
  pub known : BodyEnvSimulates scope.known calls
  pub count : length bound ≡ scope.count
  pub slots : SlotsSimulate scope.locals scope.known.parametric_args given bound
  pub hides : HidesNoConstant scope.known.items given

abbrev pub env_at : CoreScope → List Given → Env
env_at scope given = record { items = scope.known.items; bound = given }

-- ---- expressions

-- the value is of the type, and the core expression has it
pub record HasPlainValue (e : LoweredExpr) (calls : Functions) (bound : Bindings) (v : DslxValue) : Type 0 where
  pub of : is_of e.ty v ≡ true
  pub core : core_value e.core calls bound ≡ Some (plain_value v)

-- if the text's expression is lowered and has a value, the core expression has this value
abbrev pub KeepsValue : Functions → Bindings → Option LoweredExpr → Option DslxValue → Type 0
KeepsValue calls bound l o = (e : LoweredExpr) → l ≡ Some e → (v : DslxValue) → o ≡ Some v → HasPlainValue e calls bound v

-- in each scope
abbrev pub LowerPreserves : ExprLowering → ValueDen → Type 0
LowerPreserves l m = (scope : CoreScope) (calls : Functions) (given : List Given) (bound : Bindings) → SimulatesInScope scope calls given bound → KeepsValue calls bound (l scope) (m (env_at scope given))

-- ---- types and patterns

abbrev pub TypeLowerPreserves : TypeLowering → TypeDen → Type 0
TypeLowerPreserves l m = (scope : CoreScope) (calls : Functions) (given : List Given) (bound : Bindings) → SimulatesInScope scope calls given bound → (t : DslxType) → l scope ≡ Some t
    → m (env_at scope given) ≡ Some t

-- a value fits a pattern and its shape, and behind them the names are bound at their indices, or it fits neither
pub data FitLowerPreserves (scope : CoreScope) (calls : Functions) (o : Option Env) (p : Option Bindings) : Type 0 where
  BothFit : (given : List Given) (bound : Bindings) → o ≡ Some (env_at scope given) → p ≡ Some bound → SimulatesInScope scope calls given bound → FitLowerPreserves scope calls o p
  NeitherFits : o ≡ None → p ≡ None → FitLowerPreserves scope calls o p

-- in a pattern whose own scope is the outer one, behind what it bound so far
pub record PatternLowerPreserves (l : PatternLowering) (m : PatternDen) : Type 0 where
  pub names : l.names ≡ m.names
  pub fits : (outer scope : CoreScope) (t : DslxType) (s : LoweredShape) → l.lower outer scope t ≡ Some s
      → (calls : Functions) (around : List Given) (others : Bindings) → SimulatesInScope outer calls around others
      → (given : List Given) (bound : Bindings) → SimulatesInScope scope calls given bound → (v : DslxValue) → is_of t v ≡ true
      → FitLowerPreserves s.scope calls (m.fits (env_at outer around) v (env_at scope given)) (taken_apart s.shape (plain_value v) bound)
  -- where all names are constants' it binds nothing
  pub bare : (outer scope : CoreScope) (t : DslxType) (s : LoweredShape) → l.lower outer scope t ≡ Some s → list_all scope.known.items.is_constant l.names ≡ true → s.scope ≡ scope
