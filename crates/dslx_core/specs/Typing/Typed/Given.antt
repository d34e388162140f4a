-- What an expression gives where it has a type.
use Rattle.std.specs.Prelude.{◌≡◌, ℕ, List, [], ◌∷◌, true, Option, Some, None}
use Rattle.dslx_meaning.specs.declared.ty.DslxType.{DslxType}
use Rattle.dslx_meaning.specs.declared.value.DslxValue.{DslxValue}
use Rattle.dslx_meaning.specs.Lists.{beside}
use Rattle.dslx_meaning.specs.Environment.{Env}
use Rattle.dslx_meaning.specs.Meaning.{ExprDen, FieldDen}
use Rattle.dslx_meaning.specs.Rules.TypeEnvs.{TypeEnv, Judgement, ExprPair, untyped_of, alone, leaf_widths, passes_widths}
use Rattle.dslx_meaning.specs.Rules.Typings.{FieldSeen, TypePair}
use Rattle.dslx_meaning.specs.Rules.AggregateRules.{field_typing}
use Rattle.dslx_core.specs.Typing.Typed.Kinds.{is_of}
use Rattle.dslx_core.specs.Typing.Typed.Declared.{Declarations, IsDeclared}

-- it gives a value, the value is of this type, and the type is one of the text
pub record GivesOf (types : Declarations) (t : DslxType) (o : Option DslxValue) : Type 0 where
  pub value : DslxValue
  pub is : o ≡ Some value
  pub of : is_of t value ≡ true
  pub declared : IsDeclared types t

-- all its bits are within the limit on widths
abbrev pub HasNarrowLeaves : DslxType → Type 0
HasNarrowLeaves t = (at : ℕ) × (passes_widths at (leaf_widths t) ≡ [])

-- a size is there
abbrev pub IsSized : Option ℕ → Type 0
IsSized o = (n : ℕ) × (o ≡ Some n)

-- where the judgement has a type, there is a value of that type
abbrev pub GivesItsType : Declarations → Judgement → Option DslxValue → Type 0
GivesItsType types j o = (t : DslxType) → j.ty ≡ Some t → GivesOf types t o

-- each expression that has a type where it stands alone gives a value of it
abbrev pub EachGives : Declarations → TypeEnv → List ExprPair → List (Option DslxValue) → Type 0
EachGives types context [] [] = Unit {0}
EachGives types context (e ∷ es) (o ∷ os) = GivesItsType types (alone context e) o × EachGives types context es os
EachGives types context [] (o ∷ os) = ⊥
EachGives types context (e ∷ es) [] = ⊥

-- where the judgement has a type, it is the one that is denoted, and one of the text
abbrev pub TypeMeans : Declarations → Judgement → Option DslxType → Type 0
TypeMeans types j u = (t : DslxType) → j.ty ≡ Some t → (u ≡ Some t) × IsDeclared types t

abbrev pub EachTypeMeans : Declarations → TypeEnv → List TypePair → List (Option DslxType) → Type 0
EachTypeMeans types context [] [] = Unit {0}
EachTypeMeans types context (p ∷ ps) (u ∷ us) = TypeMeans types (p.1 context) u × EachTypeMeans types context ps us
EachTypeMeans types context [] (u ∷ us) = ⊥
EachTypeMeans types context (p ∷ ps) [] = ⊥

-- an expression as it is typed, and its denotation: the untyped literal that it is, and its value
pub record MeansThere (types : Declarations) (context : TypeEnv) (env : Env) (e : ExprPair) (m : ExprDen) : Type 0 where
  pub bare : untyped_of e ≡ m.bare
  pub gives : GivesItsType types (alone context e) (m.value env)

abbrev pub EachMeans : Declarations → TypeEnv → Env → List ExprPair → List ExprDen → Type 0
EachMeans types context env [] [] = Unit {0}
EachMeans types context env (e ∷ es) (m ∷ ms) = MeansThere types context env e m × EachMeans types context env es ms
EachMeans types context env [] (m ∷ ms) = ⊥
EachMeans types context env (e ∷ es) [] = ⊥

-- ---- loops

-- a turn that gives what is accumulated its type again
abbrev pub TurnGives : DslxType → DslxType → (DslxValue → DslxValue → Option DslxValue) → Type 0
TurnGives index t body = (i acc : DslxValue) → is_of index i ≡ true → is_of t acc ≡ true → (r : DslxValue) × (body i acc ≡ Some r) × (is_of t r ≡ true)

-- ---- structs

-- each name has its own type beside it, so that no name stands twice
abbrev pub OwnTypes : List (List ℕ) → List DslxType → List (List ℕ) → List DslxType → Type 0
OwnTypes names types [] [] = Unit {0}
OwnTypes names types (n ∷ ns) (t ∷ ts) = (beside n names types ≡ Some t) × OwnTypes names types ns ts
OwnTypes names types [] (t ∷ ts) = ⊥
OwnTypes names types (n ∷ ns) [] = ⊥

-- fields that are written, each with its denotation
abbrev pub FieldsMean : Declarations → TypeEnv → Env → Option DslxType → List FieldSeen → List FieldDen → Type 0
FieldsMean types context env struct [] [] = Unit {0}
FieldsMean types context env struct (f ∷ fs) (m ∷ ms) = (f.name.name ≡ m.name) × GivesItsType types (field_typing context struct f) (m.value env) × FieldsMean types context env struct fs ms
FieldsMean types context env struct [] (m ∷ ms) = ⊥
FieldsMean types context env struct (f ∷ fs) [] = ⊥

-- what gives the others
abbrev pub OthersGive : Declarations → TypeEnv → Option ExprPair → Option DslxValue → Type 0
OthersGive types context None r = Unit {0}
OthersGive types context (Some e) r = GivesItsType types (alone context e) r
