-- Parts of a text that have values of their types wherever they break nothing, and nothing that they reach does.
use Rattle.std.specs.Prelude.{◌≡◌, ◌||◌, ℕ, nat_le, List, [], ◌∷◌, map, Bool, true, false, Option, Some, None}
use Rattle.std.specs.List.{list_all}
use Rattle.dslx_meaning.specs.Callees.{AllOnes, CallKind, CountsLeading, CountsTrailing, Joins, Parity, Reverses, SomeOne, Updates}
use Rattle.dslx_meaning.specs.Lists.{and_then}
use Rattle.dslx_meaning.specs.Types.{flat_bits}
use Rattle.dslx_meaning.specs.Environment.{Env}
use Rattle.dslx_meaning.specs.Meaning as m
use Rattle.dslx_meaning.specs.Meaning.{ArmDen, ValueDen, FieldDen, StmtDen, ExprDen, PatternDen, TypeDen}
use Rattle.dslx_meaning.specs.declared.ty.DslxType.{DslxType, out-DslxType}
use Rattle.dslx_meaning.specs.declared.value.UntypedLiteral.{UntypedLiteral}
use Rattle.dslx_meaning.specs.declared.value.DslxValue.{DslxValue}
use Rattle.dslx_meaning.specs.Rules.AggregateRules.{field_typing, is_some_tuple}
use Rattle.dslx_meaning.specs.Rules.ConstantRules.{constant_of, is_empty}
use Rattle.dslx_meaning.specs.Rules.ControlRules.{LoopSeen, arm_typing, arms_faults, arms_reached, block_alone, is_exhaustive, written_typing}
use Rattle.dslx_meaning.specs.Rules.TypeEnvs.{ExprPair, Judgement, ExprTyping, TypeEnv, Typed, alone, has_broken, with_typed, within}
use Rattle.dslx_meaning.specs.Rules.Typings.{ArmSeen, BlockPair, FieldSeen, PatternTyping, PatternPair, PatternSeen, TypeExprTyping, StatementTyping, TypePair}
use Rattle.dslx_meaning.specs.Rules.PatternRules.{is_there, pattern_alone}
use Rattle.dslx_core.specs.Typing.Typed.Complete.{IsWellTypedPart}
use Rattle.dslx_core.specs.Typing.Typed.Declared.{Declarations}
use Rattle.dslx_core.specs.Typing.Typed.Given.{GivesOf, HasNarrowLeaves, IsSized, TypeMeans}
use Rattle.dslx_core.specs.Typing.Sound.Scopes.{EachPatternSeesAlike, IsWellTypedPattern}
use Rattle.dslx_core.specs.Typing.Typed.WellTyped.{GoesOnTyped, IsWellTypedEnv, PatternKeeps, comes_to_an_arm, types_at}

-- a type, a value of it, and a size
abbrev pub HasTypedValue : Declarations → Judgement → Option DslxValue → Type 0
HasTypedValue types j o = (t : DslxType) × (j.ty ≡ Some t) × GivesOf types t o × IsSized j.size

-- an expression that denotes this, and has a value of its type in each environment where it is well-typed
pub record ExprGives (e : ExprPair) (meaning : ExprDen) : Type 0 where
  pub is : m.denotation e.0 ≡ meaning
  pub gives : (context : TypeEnv) (env : Env) → IsWellTypedEnv context env → IsWellTypedPart context.known (within context e) → HasTypedValue (types_at context) (within context e) (meaning.value env)
  -- a number without a type has none
  pub untyped : (number : UntypedLiteral) → meaning.bare ≡ Some number → (context : TypeEnv) → (within context e).ty ≡ None

abbrev pub EachExprGives : List ExprPair → List ExprDen → Type 0
EachExprGives [] [] = Unit {0}
EachExprGives (e ∷ es) (x ∷ xs) = ExprGives e x × EachExprGives es xs
EachExprGives [] (x ∷ xs) = ⊥
EachExprGives (e ∷ es) [] = ⊥

abbrev pub ExprGivesIf : Option ExprPair → Option ExprDen → Type 0
ExprGivesIf None None = Unit {0}
ExprGivesIf (Some e) (Some x) = ExprGives e x
ExprGivesIf None (Some x) = ⊥
ExprGivesIf (Some e) None = ⊥

-- the same of a block, and of a loop or a number
abbrev pub BlockGives : ExprTyping → ValueDen → Type 0
BlockGives j f = (context : TypeEnv) (env : Env) → IsWellTypedEnv context env → IsWellTypedPart context.known (j false context) → HasTypedValue (types_at context) (j false context) (f env)

abbrev pub PartGives : TypeExprTyping → ValueDen → Type 0
PartGives j f = (context : TypeEnv) (env : Env) → IsWellTypedEnv context env → IsWellTypedPart context.known (j context) → HasTypedValue (types_at context) (j context) (f env)

-- a written type: the type that typing gives it is the one that it denotes, and where it is well-typed, it has one
pub record TypeHasDen (j : TypeExprTyping) (f : TypeDen) : Type 0 where
  pub means : (context : TypeEnv) (env : Env) → IsWellTypedEnv context env → TypeMeans (types_at context) (j context) (f env)
  pub known : (context : TypeEnv) (env : Env) → IsWellTypedEnv context env → IsWellTypedPart context.known (j context) → (t : DslxType) × ((j context).ty ≡ Some t)
  -- it counts nothing
  pub sized : (context : TypeEnv) (t : DslxType) → (j context).ty ≡ Some t → (j context).size ≡ Some 0
  pub narrow : (context : TypeEnv) → (j context).faults ≡ [] → (t : DslxType) → (j context).ty ≡ Some t → HasNarrowLeaves t

abbrev pub EachTypeHasDen : List TypePair → List TypeDen → Type 0
EachTypeHasDen [] [] = Unit {0}
EachTypeHasDen (p ∷ ps) (f ∷ fs) = TypeHasDen p.1 f × EachTypeHasDen ps fs
EachTypeHasDen [] (f ∷ fs) = ⊥
EachTypeHasDen (p ∷ ps) [] = ⊥

abbrev pub TypeHasDenIf : Option TypePair → Option TypeDen → Type 0
TypeHasDenIf None None = Unit {0}
TypeHasDenIf (Some p) (Some f) = TypeHasDen p.1 f
TypeHasDenIf None (Some f) = ⊥
TypeHasDenIf (Some p) None = ⊥

-- a statement: behind it the type environment is well typed, and it has a size
pub record StatementGives (s : StatementTyping) (going : StmtDen) : Type 0 where
  pub known : (context : TypeEnv) → (s false context).context.known ≡ context.known
  pub keeps : (context : TypeEnv) (env : Env) → IsWellTypedEnv context env → (s false context).faults ≡ [] → list_all context.known.is_sound (s false context).reached ≡ true
      → GoesOnTyped (s false context) env going
  pub sized : (context : TypeEnv) (env : Env) → IsWellTypedEnv context env → (s false context).faults ≡ [] → list_all context.known.is_sound (s false context).reached ≡ true → IsSized (s false context).size

abbrev pub StatementsGive : List StatementTyping → List StmtDen → Type 0
StatementsGive [] [] = Unit {0}
StatementsGive (s ∷ ss) (g ∷ gs) = StatementGives s g × StatementsGive ss gs
StatementsGive [] (g ∷ gs) = ⊥
StatementsGive (s ∷ ss) [] = ⊥

-- a field of a struct value
pub record FieldGives (f : FieldSeen) (meaning : FieldDen) : Type 0 where
  pub name : f.name.name ≡ meaning.name
  pub gives : (context : TypeEnv) (struct : Option DslxType) (env : Env) → IsWellTypedEnv context env → IsWellTypedPart context.known (field_typing context struct f)
      → HasTypedValue (types_at context) (field_typing context struct f) (meaning.value env)

abbrev pub EachFieldGives : List FieldSeen → List FieldDen → Type 0
EachFieldGives [] [] = Unit {0}
EachFieldGives (f ∷ fs) (x ∷ xs) = FieldGives f x × EachFieldGives fs xs
EachFieldGives [] (x ∷ xs) = ⊥
EachFieldGives (f ∷ fs) [] = ⊥

-- ---- patterns

-- a pattern: behind it the type environment is well typed, where it fits and as if it did
pub record PatternGives (p : PatternTyping) (meaning : PatternDen) : Type 0 where
  pub keeps : PatternKeeps p meaning.fits
  pub behind : (may_fail : Bool) (context : TypeEnv) (t : DslxType) (names : List (List ℕ)) (locals : List Typed) (env : Env) (v : DslxValue) → IsWellTypedEnv (with_typed context locals) env → GivesOf (types_at context) t (Some v)
      → has_broken (p may_fail context (Some t) names locals).faults ≡ false → (inner : Env) × IsWellTypedEnv (with_typed context (p may_fail context (Some t) names locals).locals) inner
  -- all that it needs is known
  pub known : (may_fail : Bool) (context : TypeEnv) (t : Option DslxType) (names : List (List ℕ)) (locals : List Typed) (env : Env) → IsWellTypedEnv context env → IsWellTypedPattern context (p may_fail context t names locals)
      → (p may_fail context t names locals).is_known ≡ true
  -- one whose names are all constants' binds nothing, and what it binds is among its names
  pub plain : (may_fail : Bool) (context : TypeEnv) (t : Option DslxType) (names : List (List ℕ)) (locals : List Typed) → list_all context.known.items.is_constant meaning.names ≡ true
      → (p may_fail context t names locals).locals ≡ locals
  pub unbound : (may_fail : Bool) (context : TypeEnv) (t : Option DslxType) (names : List (List ℕ)) (locals : List Typed) → is_empty (p may_fail context t names locals).names ≡ true
      → ((p may_fail context t names locals).locals ≡ locals) × (is_empty names ≡ true)
  -- against what is no tuple it binds nothing, or it fits
  pub whole : (may_fail : Bool) (context : TypeEnv) (t : DslxType) (names : List (List ℕ)) (locals : List Typed) (scope env : Env) (v : DslxValue) → is_some_tuple (out-DslxType t) ≡ false → IsWellTypedEnv (with_typed context locals) env
      → has_broken (p may_fail context (Some t) names locals).faults ≡ false → (list_all context.known.items.is_constant meaning.names || is_there (meaning.fits scope v env)) ≡ true

abbrev pub EachPatternGives : List PatternPair → List PatternDen → Type 0
EachPatternGives [] [] = Unit {0}
EachPatternGives (p ∷ ps) (x ∷ xs) = PatternGives p.1 x × EachPatternGives ps xs
EachPatternGives [] (x ∷ xs) = ⊥
EachPatternGives (p ∷ ps) [] = ⊥

-- an arm: its patterns, and its value behind them
pub record ArmHasValue (a : ArmSeen) (m : ArmDen) : Type 0 where
  pub patterns : EachPatternGives a.patterns m.patterns
  pub alike : EachPatternSeesAlike a.patterns m.patterns
  pub meaning : ExprDen
  pub value : ExprGives a.value meaning
  pub is : m.value ≡ meaning.value

abbrev pub EachArmHasValue : List ArmSeen → List ArmDen → Type 0
EachArmHasValue [] [] = Unit {0}
EachArmHasValue (a ∷ as') (x ∷ xs) = ArmHasValue a x × EachArmHasValue as' xs
EachArmHasValue [] (x ∷ xs) = ⊥
EachArmHasValue (a ∷ as') [] = ⊥

-- a value of a tuple of at most 8 bits reaches an arm, where each word of its type is matched
abbrev pub NarrowComes : TypeEnv → Env → DslxType → List ArmSeen → List ArmDen → DslxValue → Type 0
NarrowComes context env t arms ms v = is_some_tuple (out-DslxType t) ≡ true → nat_le (flat_bits t) 8 ≡ true → is_exhaustive context (map (arm_typing context (Some t)) arms) t ≡ true → comes_to_an_arm ms v env ≡ true

-- so does each value of its type, in each environment
abbrev pub NarrowMatchesCome : Type 0
NarrowMatchesCome = (context : TypeEnv) (env : Env) (t : DslxType) (arms : List ArmSeen) (ms : List ArmDen) (v : DslxValue) → IsWellTypedEnv context env → EachArmHasValue arms ms
    → arms_faults (map (arm_typing context (Some t)) arms) ≡ [] → list_all context.known.is_sound (arms_reached (map (arm_typing context (Some t)) arms)) ≡ true → GivesOf (types_at context) t (Some v)
    → NarrowComes context env t arms ms v

-- ---- constants, loops and calls

-- the value that typing gives a constant expression, which is the one that it has in its environment
pub record HasKnownValue (context : TypeEnv) (env : Env) (e : ExprPair) (x : ExprDen) : Type 0 where
  pub ty : DslxType
  pub typed : (constant_of context e).judgement.ty ≡ Some ty
  pub gives : GivesOf (types_at context) ty (x.value env)
  pub known : (constant_of context e).value ≡ Some gives.value
  pub sized : IsSized (constant_of context e).judgement.size

-- the typing of a loop's patterns, against values of these types, and of its body behind them
abbrev pub index_seen : TypeEnv → PatternPair → Option DslxType → PatternSeen
index_seen context index k = pattern_alone false context k index

abbrev pub acc_seen : TypeEnv → PatternPair → PatternPair → Option DslxType → Option DslxType → PatternSeen
acc_seen context index acc k t = pattern_alone false (with_typed context (index_seen context index k).locals) t acc

abbrev pub body_seen : TypeEnv → PatternPair → PatternPair → BlockPair → Option DslxType → Option DslxType → Judgement
body_seen context index acc body k t = block_alone (with_typed context (acc_seen context index acc k t).locals) body

-- the loop, where this is the type of what it counts
abbrev pub loop_at : TypeEnv → ExprPair → ExprPair → ExprPair → Option TypePair → PatternPair → PatternPair → BlockPair → Option DslxType → LoopSeen
loop_at context from to start written index acc body k =
    let t = (alone context start).ty in
    record {
      from = constant_of context from;
      to = constant_of context to;
      written = written_typing context written;
      start = alone context start;
      index = index_seen context index k;
      acc = acc_seen context index acc k t;
      body = body_seen context index acc body k t;
    }

abbrev pub turn_of : PatternDen → PatternDen → ValueDen → Env → DslxValue → DslxValue → Option DslxValue
turn_of im am f env i a = and_then (m.fits_in_scope im i env) (λ inner. and_then (m.fits_in_scope am a inner) f)

-- the builtins, which are neither effects nor functions of the text
abbrev pub IsBuiltin : CallKind → Type 0
IsBuiltin Joins = Unit {0}
IsBuiltin CountsLeading = Unit {0}
IsBuiltin CountsTrailing = Unit {0}
IsBuiltin Reverses = Unit {0}
IsBuiltin AllOnes = Unit {0}
IsBuiltin SomeOne = Unit {0}
IsBuiltin Parity = Unit {0}
IsBuiltin Updates = Unit {0}
IsBuiltin _ = ⊥
