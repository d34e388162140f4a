-- What is still to be visited for the free names of an expression, and where the machine stands.
use Rattle.std.specs.Prelude.{ℕ, List, Option}
use Rattle.dslx_tree.specs.declared.block.Block.{Block}
use Rattle.dslx_tree.specs.declared.block.Stmt.{Stmt}
use Rattle.dslx_tree.specs.declared.expr.Arg.{Arg}
use Rattle.dslx_tree.specs.declared.expr.Arm.{Arm}
use Rattle.dslx_tree.specs.declared.expr.Expr.{Expr}
use Rattle.dslx_tree.specs.declared.expr.FieldValue.{FieldValue}
use Rattle.dslx_tree.specs.declared.pattern.Pattern.{Pattern}
use Rattle.dslx_tree.specs.declared.type_expr.TypeExpr.{TypeExpr}

pub data FreeTask : Type 0 where
  VisitsExpr : Expr → FreeTask
  VisitsExprs : List Expr → FreeTask
  VisitsArgs : List Arg → FreeTask
  VisitsFields : List FieldValue → FreeTask
  VisitsType : TypeExpr → FreeTask
  VisitsTypes : List TypeExpr → FreeTask
  VisitsBlock : Block → FreeTask
  -- statements and the last expression
  VisitsStatements : List Stmt → Option Expr → FreeTask
  VisitsArms : List Arm → FreeTask
  -- the types of numbers in patterns
  VisitsPattern : Pattern → FreeTask
  VisitsPatterns : List Pattern → FreeTask
  -- what patterns bind is bound
  BindsNames : Pattern → FreeTask
  BindsNamesOfAll : List Pattern → FreeTask
  -- so many names are left of those that are bound
  KeepsNames : ℕ → FreeTask

-- where the machine stands: what is bound there, the last name first, and the free names so far
pub record FreeState : Type 0 where
  pub todo : List FreeTask
  pub bound : List (List ℕ)
  pub found : List (List ℕ)
