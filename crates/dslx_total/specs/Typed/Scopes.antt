-- Sound types, and the scope where something is lowered, beside the types of the values that are bound there.
use Rattle.std.specs.Prelude.{◌≡◌, ◌&&◌, ℕ, List, [], ◌∷◌, map, Bool, true, not, Option, Some, None, length, slice_get}
use Rattle.std.specs.List.{list_all}
use Rattle.xb_value.specs.declared.ty.Ty.{Ty}
use Rattle.dslx_meaning.specs.Environment.{given_in}
use Rattle.dslx_meaning.specs.Types.{plain_type}
use Rattle.dslx_meaning.specs.Values.{type_of_value}
use Rattle.dslx_meaning.specs.declared.ty.DslxType.{DslxType, fold-DslxType}
use Rattle.dslx_meaning.specs.declared.ty.DslxType.TheOpen.{DslxType-F}
use Rattle.dslx_meaning.specs.declared.value.DslxValue.{DslxValue}
use Rattle.dslx_meaning.specs.Rules.ConstantRules.{is_zero}
use Rattle.dslx_core.specs.CoreValues.{is_width}
use Rattle.dslx_core.specs.Typing.Typed.Kinds.{is_of}
use Rattle.dslx_core.specs.Lowering.CoreScopes.{BodyEnv, BoundSlot, CoreCallee, CoreScope}
use Rattle.dslx_core.specs.Lowering.Lowering.{LoweredExpr}
use Rattle.dslx_core.specs.Types.Typing.{FunctionTypes, core_type}

-- ---- types

abbrev pub sound_step : DslxType-F Bool → Bool
sound_step (DslxType-F.Bits s w) = is_width w
sound_step (DslxType-F.Tuple bs) = list_all (λ b. b) bs
sound_step (DslxType-F.Array b n) = not (is_zero n) && b
sound_step (DslxType-F.Struct name fields bs) = list_all (λ b. b) bs
sound_step (DslxType-F.Enum name s w) = is_width w
sound_step DslxType-F.Token = true

-- all bits in it are 1 to 128 wide, and each array in it has an element
abbrev pub is_sound_type : DslxType → Bool
is_sound_type = fold-DslxType Bool sound_step

-- a value of its own type, which is sound
pub record IsSoundValue (v : DslxValue) : Type 0 where
  pub own : is_of (type_of_value v) v ≡ true
  pub sound : is_sound_type (type_of_value v) ≡ true

-- ---- scopes

-- values that stand in a body are sound, and for operands of the types that a call has its callee gives what the call's type says
pub record TypedBody (functions : FunctionTypes) (known : BodyEnv) : Type 0 where
  pub constants : (name : List ℕ) (v : DslxValue) → known.items.constant name ≡ Some v → IsSoundValue v
  pub parametric_args : (name : List ℕ) (v : DslxValue) → given_in name known.parametric_args ≡ Some v → IsSoundValue v
  pub members : (name member : List ℕ) (v : DslxValue) → known.items.member name member ≡ Some v → IsSoundValue v
  pub callees : (name : List ℕ) (given : List DslxValue) (types : List DslxType) (callee : CoreCallee) → known.callee name given types ≡ Some callee
      → (functions callee.number (map plain_type types) ≡ Some (plain_type callee.result)) × (is_sound_type callee.result ≡ true)

-- each local has its type, which is sound, at its number
abbrev pub TypedLocals : List Ty → List BoundSlot → Type 0
TypedLocals bound [] = Unit {0}
TypedLocals bound (l ∷ ls) = (slice_get bound l.slot ≡ Some (plain_type l.ty)) × (is_sound_type l.ty ≡ true) × TypedLocals bound ls

-- values of these types are bound in the scope
pub record TypedScope (functions : FunctionTypes) (bound : List Ty) (scope : CoreScope) : Type 0 where
  pub known : TypedBody functions scope.known
  pub count : length bound ≡ scope.count
  pub locals : TypedLocals bound scope.locals

-- ---- expressions

-- the core expression has the type that its values have, without signs and names
pub record IsTypedExpr (functions : FunctionTypes) (bound : List Ty) (e : LoweredExpr) : Type 0 where
  pub core : core_type e.core functions bound ≡ Some (plain_type e.ty)
  pub sound : is_sound_type e.ty ≡ true

-- so it is where something is lowered
abbrev pub TypedIfThere : FunctionTypes → List Ty → Option LoweredExpr → Type 0
TypedIfThere functions bound None = Unit {0}
TypedIfThere functions bound (Some e) = IsTypedExpr functions bound e
