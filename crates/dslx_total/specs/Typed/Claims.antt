-- What it means that a part is lowered to an expression with a type: wherever it is well-typed, and the values that are bound in its
-- scope have types.
use Rattle.std.specs.Prelude.{◌≡◌, ◌==◌, ◌||◌, ℕ, List, [], Bool, true, false, not, Option, Some, length}
use Rattle.std.specs.List.{list_all}
use Rattle.xb_value.specs.declared.ty.Ty.{Ty}
use Rattle.dslx_meaning.specs.Environment.{Env}
use Rattle.dslx_meaning.specs.Types.{plain_type}
use Rattle.dslx_meaning.specs.Values.{type_of_value}
use Rattle.dslx_meaning.specs.declared.ty.DslxType.{DslxType, out-DslxType}
use Rattle.dslx_meaning.specs.declared.ty.DslxType.TheOpen.{DslxType-F}
use Rattle.dslx_meaning.specs.declared.value.DslxValue.{DslxValue}
use Rattle.dslx_meaning.specs.Rules.TypeEnvs.{Instance, TypeEnv, Typed}
use Rattle.dslx_meaning.specs.Rules.Typings.{PatternTyping, StatementTyping, TypeExprTyping}
use Rattle.dslx_core.specs.Typing.Typed.Complete.{IsWellTypedPart}
use Rattle.dslx_core.specs.Typing.Typed.Kinds.{is_of}
use Rattle.dslx_core.specs.Typing.Typed.WellTyped.{IsWellTypedEnv}
use Rattle.dslx_core.specs.Lowering.CoreScopes.{CoreScope}
use Rattle.dslx_core.specs.Lowering.Patterns.{ExprLowering, LoweredShape, PatternLowering}
use Rattle.dslx_core.specs.Types.Typing.{FunctionTypes, binds_types, is_some}
use Rattle.dslx_total.specs.Expressions.Beside.{ScopeMatchesEnv}
use Rattle.dslx_total.specs.Expressions.ExprLowering.{IsClean, reaching}
use Rattle.dslx_total.specs.Typed.Scopes.{TypedIfThere, TypedScope, is_sound_type}

-- an expression, a block or a loop
abbrev pub PartIsTyped : TypeExprTyping → ExprLowering → Type 0
PartIsTyped j l = (here : Instance → Bool) (context : TypeEnv) (env : Env) (scope : CoreScope) (functions : FunctionTypes) (bound : List Ty)
    → IsWellTypedEnv context env → ScopeMatchesEnv here context scope → TypedScope functions bound scope → IsWellTypedPart (reaching context.known here) (j context)
    → TypedIfThere functions bound (l scope)

-- whatever is lowered behind a statement has a type, if the rest has one there
pub record StatementIsTyped (s : StatementTyping) (l : ExprLowering → ExprLowering) : Type 0 where
  pub typed : (here : Instance → Bool) (context : TypeEnv) (env : Env) (scope : CoreScope) (functions : FunctionTypes) (bound : List Ty)
      → IsWellTypedEnv context env → ScopeMatchesEnv here context scope → TypedScope functions bound scope → IsClean here (s false context).faults (s false context).reached
      → (rest : ExprLowering)
      → ((inner : Env) (beyond : CoreScope) (more : List Ty) → IsWellTypedEnv (s false context).context inner → ScopeMatchesEnv here (s false context).context beyond → TypedScope functions more beyond → TypedIfThere functions more (rest beyond))
      → TypedIfThere functions bound (l rest scope)

-- a number is a value of its own type
abbrev pub NumberIsTyped : (CoreScope → Option DslxValue) → Type 0
NumberIsTyped l = (scope : CoreScope) (v : DslxValue) → l scope ≡ Some v → is_of (type_of_value v) v ≡ true

-- ---- patterns

abbrev pub is_tuple_level : DslxType-F DslxType → Bool
is_tuple_level (DslxType-F.Tuple ts) = true
is_tuple_level _ = false

-- what a pattern becomes against values of a type: it binds these types, always where it has to fit or is sure to, and it
-- always fits or binds nothing where the values are no tuples
pub record ShapeIsTyped (p : PatternTyping) (l : PatternLowering) (context : TypeEnv) (functions : FunctionTypes) (bound : List Ty) (t : DslxType) (scope : CoreScope) (s : LoweredShape) : Type 0 where
  pub more : List Ty
  pub may : binds_types false s.shape (plain_type t) bound ≡ Some more
  pub behind : TypedScope functions more s.scope
  pub known : s.scope.known ≡ scope.known
  pub must : (may_fail : Bool) (ty : Option DslxType) (names : List (List ℕ)) (locals : List Typed) → (p may_fail context ty names locals).faults ≡ []
      → (not may_fail || (p may_fail context ty names locals).is_sure) ≡ true → binds_types true s.shape (plain_type t) bound ≡ Some more
  pub bare : list_all scope.known.items.is_constant l.names ≡ true → more ≡ bound
  pub flat : is_tuple_level (out-DslxType t) ≡ false → (is_some (binds_types true s.shape (plain_type t) bound) || length more == length bound) ≡ true

-- a pattern, within a pattern that stands in an outer scope, behind what is bound so far
pub record PatternIsTyped (p : PatternTyping) (l : PatternLowering) : Type 0 where
  pub typed : (context : TypeEnv) (functions : FunctionTypes) (others bound : List Ty) (outer scope : CoreScope) (t : DslxType) (s : LoweredShape)
      → scope.known.items ≡ context.known.items → TypedScope functions others outer → TypedScope functions bound scope → is_sound_type t ≡ true → l.lower outer scope t ≡ Some s
      → ShapeIsTyped p l context functions bound t scope s
