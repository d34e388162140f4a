-- What is still to be done for the value of an expression, and what was found last.
use Rattle.std.specs.Prelude.{ℕ, List, Bool, Option}
use Rattle.xb_bits.specs.Word.{Word}
use Rattle.dslx_tree.specs.declared.operator.Binary.{Binary}
use Rattle.dslx_tree.specs.declared.operator.Prefix.{Prefix}
use Rattle.dslx_tree.specs.declared.block.Block.{Block}
use Rattle.dslx_tree.specs.declared.block.Stmt.{Stmt}
use Rattle.dslx_tree.specs.declared.expr.Arg.{Arg}
use Rattle.dslx_tree.specs.declared.expr.Arm.{Arm}
use Rattle.dslx_tree.specs.declared.expr.Expr.{Expr}
use Rattle.dslx_tree.specs.declared.expr.FieldValue.{FieldValue}
use Rattle.dslx_tree.specs.declared.expr.For.{For}
use Rattle.dslx_tree.specs.declared.item.Field.{Field}
use Rattle.dslx_tree.specs.declared.item.Function.{Function}
use Rattle.dslx_tree.specs.declared.item.Module.{Module}
use Rattle.dslx_tree.specs.declared.item.Parametric.{Parametric}
use Rattle.dslx_tree.specs.declared.item.Struct.{Struct}
use Rattle.dslx_tree.specs.declared.pattern.Pattern.{Pattern}
use Rattle.dslx_tree.specs.declared.type_expr.TypeExpr.{TypeExpr}
use Rattle.dslx_meaning.specs.Environment.{Given}
use Rattle.dslx_meaning.specs.Inference.{Inferred}
use Rattle.dslx_meaning.specs.declared.ty.BitKind.{BitKind}
use Rattle.dslx_meaning.specs.declared.ty.DslxType.{DslxType}
use Rattle.dslx_meaning.specs.declared.value.UntypedLiteral.{UntypedLiteral}
use Rattle.dslx_meaning.specs.declared.value.DslxValue.{DslxValue}
use Rattle.dslx_meaning.specs.declared.value.SignedWord.{SignedWord}
use Rattle.dslx_meaning.specs.Names.ConstMachine.Kept.{KeptValues}

-- what was found last: the value of an expression, a type that is written, or a size or bound; or that there is none
pub data Finding : Type 0 where
  ValueFound : Option DslxValue → Finding
  TypeFound : Option DslxType → Finding
  CountFound : Option ℕ → Finding

-- what is made of one value
pub data OneMaker : Type 0 where
  MakesPrefix : Prefix → OneMaker
  MakesField : List ℕ → OneMaker
  MakesElement : ℕ → OneMaker
  MakesCast : DslxType → OneMaker
  -- the bits from one to before another
  MakesSlice : ℕ → ℕ → OneMaker

-- what is made of two values
pub data PairMaker : Type 0 where
  MakesBinary : Binary → PairMaker
  MakesIndexed : PairMaker
  -- so many bits
  MakesPart : ℕ → PairMaker

-- what is made of several values
pub data ListMaker : Type 0 where
  MakesTuple : ListMaker
  MakesArray : ListMaker
  -- an array of so many of a type, the last one repeated if the text says so
  Fills : DslxType → ℕ → Bool → ListMaker
  -- a call of this name with these parametric arguments
  CallsWith : List ℕ → List DslxValue → ListMaker

-- patterns and the values that they are to fit, in order
pub record Waiting : Type 0 where
  pub patterns : List Pattern
  pub values : List DslxValue

-- what comes behind a pattern: where it fits, and where it doesn't
pub data Sequel : Type 0 where
  -- the statements and the last expression of a block
  ThenStatements : List Stmt → Option Expr → Sequel
  -- a turn of a loop: the pattern of what is accumulated, that, and the body
  ThenAccumulator : Pattern → DslxValue → Block → Sequel
  -- its body, behind as many names of the index's pattern
  ThenBody : ℕ → Block → Sequel
  -- an arm of a match; else its other patterns, and the arms behind it
  ThenArm : List Pattern → Arm → List Arm → DslxValue → Sequel

-- a call of a function, while its parametrics are found and its operands bound: the parametric arguments and the operands
-- that aren't bound yet, what the operands infer, and where its caller stands
pub record ConstCall : Type 0 where
  pub function : Function
  pub given : List DslxValue
  pub inferred : List Inferred
  pub operands : List DslxValue
  pub bound : List Given
  pub left : ℕ

pub data ConstTask : Type 0 where
  -- ---- expressions and blocks
  ValueDen : Expr → ConstTask
  DoesBlock : Block → ConstTask
  DoesStatements : List Stmt → Option Expr → ConstTask
  -- the value is taken apart for the rest of a block
  Binds : Pattern → List Stmt → Option Expr → ConstTask
  -- the value isn't used
  Passes : List Stmt → Option Expr → ConstTask
  -- the number of a type
  Numbers : UntypedLiteral → ConstTask
  MakesOne : OneMaker → ConstTask
  -- the value is the left one, and the right one is to be found
  FindsRight : PairMaker → Expr → ConstTask
  MakesPair : PairMaker → DslxValue → ConstTask
  -- bits of a type, from an expression's value on
  TakesPart : Expr → Expr → ConstTask
  Casts : Expr → ConstTask
  FindsEnd : Expr → Expr → ConstTask
  Slices : Expr → ℕ → ConstTask
  Chooses : Block → Expr → ConstTask
  -- ---- several values
  FindsElements : List Expr → Bool → ConstTask
  -- the value is the next one behind these
  Gathers : List DslxValue → List Expr → ListMaker → ConstTask
  GathersParametricArgs : List DslxValue → List Arg → List ℕ → List Expr → ConstTask
  FindsFields : List FieldValue → Option Expr → ConstTask
  -- the value gives the fields that aren't written
  TakesRest : List ℕ → List (List ℕ) → List FieldValue → ConstTask
  GathersFields : List ℕ → List (List ℕ) → List DslxValue → List FieldValue → Option DslxValue → ConstTask
  -- ---- patterns, matches and loops
  Selects : List Arm → ConstTask
  -- the patterns of an arm that are left, the arm, those behind it, and the value
  Tries : List Pattern → Arm → List Arm → DslxValue → ConstTask
  -- an expression behind patterns that may bind nothing
  BindsNothing : List (List Pattern) → Expr → ConstTask
  -- what is still to fit, what the pattern binds so far, the last one first, and what comes behind
  Fits : List Waiting → List Given → Sequel → ConstTask
  -- the value that is to be fitted is to be the one that is found
  Compares : DslxValue → List Waiting → List Given → Sequel → ConstTask
  -- so many names are bound no more
  Forgets : ℕ → ConstTask
  StartsLoop : For → ConstTask
  FindsFirst : For → DslxValue → ConstTask
  FindsLast : For → DslxValue → SignedWord → ConstTask
  -- so many turns, from an index on
  Turns : For → Bool → ℕ → Word → ConstTask
  -- ---- types, sizes and bounds
  FindsType : TypeExpr → ConstTask
  MakesBits : Bool → ConstTask
  FindsSize : Expr → ConstTask
  MakesArrayType : DslxType → ConstTask
  GathersTypes : List DslxType → List TypeExpr → ConstTask
  GathersFieldTypes : List DslxType → List Field → Struct → ConstTask
  MakesEnumType : List ℕ → ConstTask
  -- a member's value, in the base of an enum of this name
  FindsMember : Expr → List ℕ → ConstTask
  MakesMember : BitKind → List ℕ → ConstTask
  CountsSize : Expr → ConstTask
  IsSize : ConstTask
  CountsBound : Expr → ConstTask
  IsBound : ConstTask
  -- ---- calls
  FindsParametrics : ConstCall → List Parametric → ConstTask
  GivesParametric : ConstCall → Parametric → List Parametric → ConstTask
  -- the arguments that the operands are still to be bound to
  GivesOperands : ConstCall → List Field → ConstTask
  -- back to what is bound elsewhere, and how long a chain of uses may be there
  Returns : List Given → ℕ → ConstTask

-- where the machine stands
pub record ConstState : Type 0 where
  pub text : Module
  -- the values of its constants and members, where they are kept
  pub kept : Option KeptValues
  pub todo : List ConstTask
  pub found : Finding
  pub bound : List Given
  -- how many items a chain of uses may still go through
  pub left : ℕ
