-- Parts of a text that are lowered wherever they are well-typed: what they are lowered to has the type that they have.
--
-- Each claim is an equation between what a part is lowered to and its typing. That a part has a type where it is well-typed is a law
-- of its own, of `dslx_typing::sound`.
use Rattle.std.specs.Prelude.{◌≡◌, ℕ, nat_le, List, [], Bool, true, false, Option, Some, None, option_map}
use Rattle.std.specs.List.{list_all}
use Rattle.xb_span.specs.declared.fault.Fault.{Fault}
use Rattle.dslx_meaning.specs.Environment.{Env}
use Rattle.dslx_meaning.specs.Meaning.{ExprDen, TypeDen}
use Rattle.dslx_meaning.specs.Values.{type_of_value}
use Rattle.dslx_meaning.specs.declared.ty.DslxType.{DslxType}
use Rattle.dslx_meaning.specs.declared.value.DslxValue.{DslxValue}
use Rattle.dslx_meaning.specs.Rules.ConstantRules.{is_empty}
use Rattle.dslx_meaning.specs.Rules.TypeEnvs.{ExprPair, Instance, Judgement, GlobalEnv, TypeEnv, Typed, with_typed}
use Rattle.dslx_meaning.specs.Rules.Typings.{PatternTyping, TypeExprTyping}
use Rattle.dslx_meaning.specs.Rules.OperatorRules.{width_of_type}
use Rattle.dslx_core.specs.Typing.Typed.Complete.{IsWellTypedPart}
use Rattle.dslx_core.specs.Typing.Typed.Declared.{IsDeclared}
use Rattle.dslx_core.specs.Typing.Typed.WellTyped.{IsWellTypedEnv, types_at}
use Rattle.dslx_core.specs.Typing.Sound.Sound.{ExprGives, TypeHasDen}
use Rattle.dslx_core.specs.Lowering.CoreScopes.{CoreScope}
use Rattle.dslx_core.specs.Lowering.Lowering.{LoweredExpr}
use Rattle.dslx_core.specs.Lowering.Patterns.{LoweredShape, ExprLowering, PatternLowering}
use Rattle.dslx_core.specs.Lowering.Trees.{TypeLowering}
use Rattle.dslx_total.specs.Expressions.Beside.{NamesHaveWidths, ScopeMatchesEnv, has_widths}

-- ---- expressions

abbrev pub type_of_lowered : Option LoweredExpr → Option DslxType
type_of_lowered None = None
type_of_lowered (Some e) = Some e.ty

-- where these instances alone may be reached
abbrev pub reaching : GlobalEnv → (Instance → Bool) → GlobalEnv
reaching known here = record known { is_sound = here }

-- an expression, a block or a loop: where it is well-typed, what it is lowered to has its type
abbrev pub PartLowers : TypeExprTyping → ExprLowering → Type 0
PartLowers j l = (here : Instance → Bool) (context : TypeEnv) (env : Env) (scope : CoreScope) → IsWellTypedEnv context env → ScopeMatchesEnv here context scope → IsWellTypedPart (reaching context.known here) (j context)
    → type_of_lowered (l scope) ≡ (j context).ty

-- it is lowered to an expression of the type that it has
pub record LowersAsTyped (j : Judgement) (o : Option LoweredExpr) : Type 0 where
  pub expr : LoweredExpr
  pub is : o ≡ Some expr
  pub typed : j.ty ≡ Some expr.ty

-- in each scope that matches the type environment, where it is well-typed
abbrev pub LowersWhereWellTyped : TypeExprTyping → ExprLowering → Type 0
LowersWhereWellTyped j l = (here : Instance → Bool) (context : TypeEnv) (env : Env) (scope : CoreScope) → IsWellTypedEnv context env → ScopeMatchesEnv here context scope → IsWellTypedPart (reaching context.known here) (j context)
    → LowersAsTyped (j context) (l scope)

-- where it has no fault its type keeps the limit on words
abbrev pub KeepsLimits : List Fault → Option DslxType → Type 0
KeepsLimits faults ty = faults ≡ [] → (t : DslxType) → ty ≡ Some t → nat_le (width_of_type t) 128 ≡ true

abbrev pub IsLimited : TypeExprTyping → Type 0
IsLimited j = (context : TypeEnv) → KeepsLimits (j context).faults (j context).ty

-- an expression that has a value of its type, and is lowered to an expression of this type
pub record ExprLowers (e : ExprPair) (l : ExprLowering) : Type 0 where
  pub meaning : ExprDen
  pub gives : ExprGives e meaning
  pub lowers : PartLowers (e.1 false) l
  pub limited : IsLimited (e.1 false)

-- ---- types and numbers

-- a written type is the same in both
abbrev pub TypeLowers : TypeExprTyping → TypeLowering → Type 0
TypeLowers j l = (here : Instance → Bool) (context : TypeEnv) (env : Env) (scope : CoreScope) → IsWellTypedEnv context env → ScopeMatchesEnv here context scope → IsWellTypedPart (reaching context.known here) (j context)
    → l scope ≡ (j context).ty

-- all bits in it have a width
abbrev pub IsWide : TypeExprTyping → Type 0
IsWide j = (context : TypeEnv) → NamesHaveWidths context.known → (t : DslxType) → (j context).ty ≡ Some t → has_widths t ≡ true

-- it is lowered to the type that its judgement has
pub record TypeLowersAsTyped (j : Judgement) (o : Option DslxType) : Type 0 where
  pub ty : DslxType
  pub is : o ≡ Some ty
  pub typed : j.ty ≡ Some ty

abbrev pub TypeLowersWhereWellTyped : TypeExprTyping → TypeLowering → Type 0
TypeLowersWhereWellTyped j l = (here : Instance → Bool) (context : TypeEnv) (env : Env) (scope : CoreScope) → IsWellTypedEnv context env → ScopeMatchesEnv here context scope → IsWellTypedPart (reaching context.known here) (j context)
    → TypeLowersAsTyped (j context) (l scope)

pub record WrittenLowers (j : TypeExprTyping) (l : TypeLowering) : Type 0 where
  pub meaning : TypeDen
  pub stands : TypeHasDen j meaning
  pub lowers : TypeLowers j l
  pub wide : IsWide j

-- a number that is written with its type is a value of it
abbrev pub NumberLowers : TypeExprTyping → (CoreScope → Option DslxValue) → Type 0
NumberLowers j l = (here : Instance → Bool) (context : TypeEnv) (env : Env) (scope : CoreScope) → IsWellTypedEnv context env → ScopeMatchesEnv here context scope → IsWellTypedPart (reaching context.known here) (j context)
    → option_map type_of_value (l scope) ≡ (j context).ty

-- ---- patterns

-- nothing breaks a rule or passes a limit, and these instances alone are reached
pub record IsClean (here : Instance → Bool) (named : List Fault) (found : List Instance) : Type 0 where
  pub faults : named ≡ []
  pub reached : list_all here found ≡ true

-- a pattern is lowered to a shape, and the scope behind it matches the type environment behind it
pub record ShapeExists (here : Instance → Bool) (context : TypeEnv) (o : Option LoweredShape) : Type 0 where
  pub shape : LoweredShape
  pub is : o ≡ Some shape
  pub behind : ScopeMatchesEnv here context shape.scope

-- a pattern, within a pattern that stands in an outer scope, behind what is bound so far
pub record PatternLowers (p : PatternTyping) (l : PatternLowering) : Type 0 where
  pub lowers : (here : Instance → Bool) (may_fail : Bool) (context : TypeEnv) (t : DslxType) (names : List (List ℕ)) (locals : List Typed) (env : Env) (outer scope : CoreScope)
      → IsWellTypedEnv context env → ScopeMatchesEnv here context outer → ScopeMatchesEnv here (with_typed context locals) scope → IsDeclared (types_at context) t
      → IsClean here (p may_fail context (Some t) names locals).faults (p may_fail context (Some t) names locals).reached
      → ShapeExists here (with_typed context (p may_fail context (Some t) names locals).locals) (l.lower outer scope t)
  -- where it binds nothing its names are constants'
  pub unbound : (may_fail : Bool) (context : TypeEnv) (t : Option DslxType) (names : List (List ℕ)) (locals : List Typed) → is_empty (p may_fail context t names locals).names ≡ true
      → (list_all context.known.items.is_constant l.names ≡ true) × (is_empty names ≡ true)
  -- and where they are it binds nothing
  pub plain : (may_fail : Bool) (context : TypeEnv) (t : Option DslxType) (names : List (List ℕ)) (locals : List Typed) → list_all context.known.items.is_constant l.names ≡ true
      → (p may_fail context t names locals).locals ≡ locals
