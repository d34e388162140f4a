-- Where the type environment means what the rules know of it, and what keeps it so.
use Rattle.std.specs.List.{list_all}
use Rattle.std.specs.Prelude.{◌≡◌, ◌||◌, ℕ, List, [], ◌∷◌, Bool, true, false, Option, Some, None}
use Rattle.dslx_tree.specs.declared.item.Enum.{Enum}
use Rattle.dslx_tree.specs.declared.item.Field.{Field}
use Rattle.dslx_meaning.specs.Values.{type_of_value}
use Rattle.dslx_meaning.specs.Environment.{Env, given_in, value_of_name}
use Rattle.dslx_meaning.specs.Meaning.{ValueDen, MatchDen, StmtDen, ExprDen, PatternDen, ArmDen, all_names, first_fit}
use Rattle.dslx_meaning.specs.Items.{item_named, as_enum}
use Rattle.dslx_meaning.specs.declared.ty.DslxType.{DslxType}
use Rattle.dslx_meaning.specs.declared.value.DslxValue.{DslxValue}
use Rattle.dslx_meaning.specs.Rules.TypeEnvs.{TypeEnv, Typed, ExprPair, typed_in, with_typed, has_broken, alone}
use Rattle.dslx_meaning.specs.Rules.Typings.{PatternSeen, PatternTyping, PatternPair, StatementSeen, StatementTyping, ArmSeen}
use Rattle.dslx_meaning.specs.Rules.ControlRules.{arm_typing}
use Rattle.dslx_meaning.specs.Rules.ItemRules.{typing_of_inner}
use Rattle.dslx_meaning.specs.Rules.NameRules.{has_member}
use Rattle.dslx_meaning.specs.Rules.PatternRules.{is_there, pattern_alone}
use Rattle.dslx_core.specs.Typing.Typed.Declared.{Declarations, IsDeclared}
use Rattle.dslx_core.specs.Typing.Typed.Given.{GivesOf, GivesItsType}
use Rattle.dslx_core.specs.Typing.Typed.InTypeEnv.{IsInTypeEnv}
use Rattle.dslx_core.specs.Typing.Typed.Complete.{IsComplete}

-- what type names denote in a type environment
abbrev pub types_at : TypeEnv → Declarations
types_at context = context.known.items.type_named

-- a value, which is of its own type
pub record IsKnownValue (types : Declarations) (v : DslxValue) (o : Option DslxValue) : Type 0 where
  pub is : o ≡ Some v
  pub gives : GivesOf types (type_of_value v) o

-- names have the values that the type environment has of them, and values of the types that it has of them
pub record IsWellTypedEnv (context : TypeEnv) (env : Env) : Type 0 where
  -- a bound name that has a type
  pub locals : (name : List ℕ) (t : DslxType) → typed_in name context.locals ≡ Some (Some t) → GivesOf (types_at context) t (given_in name env.bound)
  -- a parametric that no bound name hides
  pub parametric_args : (name : List ℕ) (v : DslxValue) → typed_in name context.locals ≡ None → given_in name context.parametric_args ≡ Some v → IsKnownValue (types_at context) v (given_in name env.bound)
  -- a constant that neither hides
  pub constants : (name : List ℕ) (v : DslxValue) → typed_in name context.locals ≡ None → given_in name context.parametric_args ≡ None → context.known.items.constant name ≡ Some v
      → IsKnownValue (types_at context) v (value_of_name name env)
  -- the members of enums
  pub members : (name member : List ℕ) (e : Enum) (t : DslxType) → as_enum (item_named name context.known.whole.items) ≡ Some e → has_member e member ≡ true
      → context.known.items.type_named name ≡ Some t → GivesOf (types_at context) t (env.items.member name member)
  -- which names in patterns are constants'
  pub kinds : (name : List ℕ) → env.items.is_constant name ≡ context.known.items.is_constant name
  -- each bound name has a type, and each parametric a value
  pub typed : (name : List ℕ) → typed_in name context.locals ≡ Some None → ⊥
  pub valued : context.unknown ≡ []
  -- constants see what is bound, and items denote what the global environment has of them, which has all of them
  pub place : IsInTypeEnv context env.bound
  pub items : env.items ≡ context.known.items
  pub known : IsComplete context.known

-- ---- patterns

-- a pattern against a value of its type fits, and then the type environment behind it is well typed, or it is one that may fail
pub data FitsOrFails (may_fail : Bool) (context : TypeEnv) (seen : PatternSeen) (o : Option Env) : Type 0 where
  Fits : (inner : Env) → o ≡ Some inner → IsWellTypedEnv (with_typed context seen.locals) inner → FitsOrFails may_fail context seen o
  Fails : o ≡ None → may_fail ≡ true → seen.is_sure ≡ false → FitsOrFails may_fail context seen o

-- of a pattern that breaks no rule, in a pattern in an environment, whose other names are bound so far
abbrev pub PatternKeeps : PatternTyping → MatchDen → Type 0
PatternKeeps p fits = (may_fail : Bool) (context : TypeEnv) (t : DslxType) (names : List (List ℕ)) (locals : List Typed) (scope env : Env) (v : DslxValue)
    → IsWellTypedEnv context scope → IsWellTypedEnv (with_typed context locals) env → GivesOf (types_at context) t (Some v) → has_broken (p may_fail context (Some t) names locals).faults ≡ false
    → FitsOrFails may_fail context (p may_fail context (Some t) names locals) (fits scope v env)

-- each pattern keeps the type environment well typed
abbrev pub EachKeeps : List PatternPair → List PatternDen → Type 0
EachKeeps [] [] = Unit {0}
EachKeeps (p ∷ ps) (m ∷ ms) = PatternKeeps p.1 m.fits × EachKeeps ps ms
EachKeeps [] (m ∷ ms) = ⊥
EachKeeps (p ∷ ps) [] = ⊥

-- the two patterns of a loop, one behind the other: of the index and of what is accumulated
abbrev pub turn_seen : TypeEnv → DslxType → DslxType → PatternPair → PatternPair → PatternSeen
turn_seen context k t index acc = pattern_alone false (with_typed context (pattern_alone false context (Some k) index).locals) (Some t) acc

-- ---- statements

-- the rest of the block goes on where the type environment is well typed
pub record GoesOnTyped (seen : StatementSeen) (env : Env) (going : StmtDen) : Type 0 where
  pub inner : Env
  pub typed : IsWellTypedEnv seen.context inner
  pub goes : (rest : ValueDen) → going rest env ≡ rest inner

-- of a statement that breaks no rule
abbrev pub StatementKeeps : TypeEnv → StatementTyping → StmtDen → Type 0
StatementKeeps context s going = (env : Env) → IsWellTypedEnv context env → has_broken (s false context).faults ≡ false → GoesOnTyped (s false context) env going

-- all statements keep the type environment well typed, each behind those before it
abbrev pub AllKeep : TypeEnv → List StatementTyping → List StmtDen → Type 0
AllKeep context [] [] = Unit {0}
AllKeep context (s ∷ ss) (g ∷ gs) = StatementKeeps context s g × AllKeep (s false context).context ss gs
AllKeep context [] (g ∷ gs) = ⊥
AllKeep context (s ∷ ss) [] = ⊥

-- a last expression, in each environment where the type environment is well typed
abbrev pub LastGives : TypeEnv → Option ExprPair → Option ExprDen → Type 0
LastGives context None None = Unit {0}
LastGives context (Some e) (Some m) = (env : Env) → IsWellTypedEnv context env → GivesItsType (types_at context) (alone context e) (m.value env)
LastGives context None (Some m) = ⊥
LastGives context (Some e) None = ⊥

-- ---- arms

-- the value reaches an arm: a pattern of it fits, or it is the last one and binds nothing
abbrev pub comes_to_an_arm : List ArmDen → DslxValue → Env → Bool
comes_to_an_arm [] v env = false
comes_to_an_arm (a ∷ []) v env = is_there (first_fit a.patterns v env) || list_all env.items.is_constant (all_names a.patterns)
comes_to_an_arm (a ∷ b ∷ as') v env = is_there (first_fit a.patterns v env) || comes_to_an_arm (b ∷ as') v env

-- an arm gives a value of its type behind a pattern that fits, and where it binds nothing also in the environment of the `match`
pub record ArmGives (context : TypeEnv) (t : Option DslxType) (a : ArmSeen) (m : ArmDen) (v : DslxValue) (env : Env) : Type 0 where
  pub behind : (inner : Env) → first_fit m.patterns v env ≡ Some inner → GivesItsType (types_at context) (arm_typing context t a).value (m.value inner)
  pub here : list_all env.items.is_constant (all_names m.patterns) ≡ true → GivesItsType (types_at context) (arm_typing context t a).value (m.value env)
  pub declared : (u : DslxType) → (arm_typing context t a).value.ty ≡ Some u → IsDeclared (types_at context) u

abbrev pub EachArmGives : TypeEnv → Option DslxType → List ArmSeen → List ArmDen → DslxValue → Env → Type 0
EachArmGives context t [] [] v env = Unit {0}
EachArmGives context t (a ∷ as') (m ∷ ms) v env = ArmGives context t a m v env × EachArmGives context t as' ms v env
EachArmGives context t [] (m ∷ ms) v env = ⊥
EachArmGives context t (a ∷ as') [] v env = ⊥

-- ---- functions

-- no argument has the name of a constant, which rule 2 refuses
abbrev pub NameNoConstant : TypeEnv → List Field → Type 0
NameNoConstant context [] = Unit {0}
NameNoConstant context (f ∷ fs) = (context.known.items.is_constant f.name.name ≡ false) × NameNoConstant context fs

-- operands of the types that are written for the arguments
abbrev pub AreOperandsOf : TypeEnv → List Field → List DslxValue → Type 0
AreOperandsOf context [] [] = Unit {0}
AreOperandsOf context (f ∷ fs) (v ∷ vs) = ((t : DslxType) × ((typing_of_inner context f.ty).ty ≡ Some t) × GivesOf (types_at context) t (Some v)) × AreOperandsOf context fs vs
AreOperandsOf context [] (v ∷ vs) = ⊥
AreOperandsOf context (f ∷ fs) [] = ⊥
