-- What is still to be done where an instance of a function is lowered, and the state of the machine.
use Rattle.std.specs.Prelude.{ℕ, List, Bool, Option}
use Rattle.dslx_tree.specs.declared.operator.Binary.{Binary}
use Rattle.dslx_tree.specs.declared.operator.Prefix.{Prefix}
use Rattle.dslx_tree.specs.declared.block.Block.{Block}
use Rattle.dslx_tree.specs.declared.block.Stmt.{Stmt}
use Rattle.dslx_tree.specs.declared.expr.Arg.{Arg}
use Rattle.dslx_tree.specs.declared.expr.Arm.{Arm}
use Rattle.dslx_tree.specs.declared.expr.Expr.{Expr}
use Rattle.dslx_tree.specs.declared.expr.FieldValue.{FieldValue}
use Rattle.dslx_tree.specs.declared.expr.For.{For}
use Rattle.dslx_tree.specs.declared.item.Module.{Module}
use Rattle.dslx_tree.specs.declared.pattern.Pattern.{Pattern}
use Rattle.dslx_tree.specs.declared.type_expr.TypeExpr.{TypeExpr}
use Rattle.dslx_meaning.specs.Environment.{Given, Meanings}
use Rattle.dslx_meaning.specs.declared.ty.DslxType.{DslxType}
use Rattle.dslx_meaning.specs.declared.value.SignedWord.{SignedWord}
use Rattle.dslx_core.specs.declared.expr.Shape.{Shape}
use Rattle.dslx_core.specs.Lowering.CoreScopes.{BoundSlot}
use Rattle.dslx_core.specs.Lowering.Functions.{CoreInstance, Instantiated}
use Rattle.dslx_core.specs.Lowering.Lowering.{LoweredExpr}
use Rattle.dslx_core.specs.Lowering.Patterns.{LoweredArm}

-- what is made of what was made last
pub data LastMaker : Type 0 where
  MakesPrefix : Prefix → LastMaker
  MakesBinary : Binary → LastMaker
  MakesCast : TypeExpr → LastMaker
  -- the bits from one bound to before another
  MakesSlice : Expr → Expr → LastMaker
  -- bits of a type
  MakesPart : TypeExpr → LastMaker
  MakesField : List ℕ → LastMaker
  MakesElement : ℕ → LastMaker
  MakesIndexed : LastMaker
  MakesChoice : LastMaker

-- what is made of several expressions
pub data PartsMaker : Type 0 where
  MakesTuple : PartsMaker
  MakesArray : PartsMaker
  -- an array of so many of a type, the last one repeated if the text says so
  Fills : DslxType → ℕ → Bool → PartsMaker
  -- a call of this name with these parametric arguments
  CallsWith : List ℕ → List Arg → PartsMaker

-- a struct value of a type, while its fields are lowered: the fields that are written, and the expression that has the others
pub record StructWork : Type 0 where
  pub ty : DslxType
  pub written : List FieldValue
  pub others : Option LoweredExpr

-- a match on a value, while an arm of it is lowered: the arms before, this one, and those behind
pub record MatchWork : Type 0 where
  pub value : LoweredExpr
  pub before : List LoweredArm
  pub arm : Arm
  pub behind : List Arm

pub data LowerTask : Type 0 where
  -- ---- expressions and blocks
  LowersExpr : Expr → LowerTask
  LowersBlock : Block → LowerTask
  LowersStatements : List Stmt → Option Expr → LowerTask
  Makes : LastMaker → LowerTask
  -- what was made last is taken apart for the rest of a block
  BindsValue : Pattern → List Stmt → Option Expr → LowerTask
  -- this value is bound, and taken apart so, for what was made last
  MakesBind : LoweredExpr → Shape → LowerTask
  -- ---- several expressions
  -- what was made last is the next one behind these
  Gathers : List LoweredExpr → List Expr → PartsMaker → LowerTask
  -- what was made last has the fields of a struct that aren't written
  TakesOthers : DslxType → List (List ℕ) → List DslxType → List FieldValue → LowerTask
  -- what was made last is a field of this type behind these; the names and types of those that are left
  GathersFields : StructWork → List LoweredExpr → DslxType → List (List ℕ) → List DslxType → LowerTask
  -- ---- matches and loops
  LowersArms : List Arm → LowerTask
  -- what was made last is the value of an arm of these shapes
  TakesArm : MatchWork → List Shape → LowerTask
  LoopBegins : For → LowerTask
  -- a loop from its start, its bounds, and what an index and what is accumulated bind
  MakesLoop : LoweredExpr → SignedWord → SignedWord → Shape → Shape → LowerTask
  -- so many names are left, and so many values are bound
  Restores : ℕ → ℕ → LowerTask
  -- ---- calls
  -- an instance is to be done
  NeedsInstance : Instantiated → LowerTask
  CallsInstance : Instantiated → List LoweredExpr → LowerTask

-- a body while it is lowered: the parametrics, what is still to be done, what was made so far, the last one first,
-- the names that are bound, the last one first, and how many values are bound
pub record OpenBody : Type 0 where
  pub given : List Given
  pub todo : List LowerTask
  pub made : List LoweredExpr
  pub locals : List BoundSlot
  pub count : ℕ

-- an instance while its body is lowered
pub record OpenInstance : Type 0 where
  pub instance : Instantiated
  pub arguments : List DslxType
  pub body : OpenBody

-- a text, what its items mean, and the instances that are done
pub record InstanceEnv : Type 0 where
  pub text : Module
  pub items : Meanings
  pub table : List CoreInstance

-- where the machine stands: what it lowers, and the instances that are open for it, the last one first. At most so many are open
pub record InstanceMachine : Type 0 where
  pub context : InstanceEnv
  pub limit : ℕ
  pub root : OpenBody
  pub opened : List OpenInstance
