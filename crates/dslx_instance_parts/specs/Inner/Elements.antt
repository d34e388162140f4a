-- Elements that are numbers without a type.
use Rattle.std.specs.Prelude.{[], ◌∷◌, Option, Some, None}
use Rattle.dslx_tree.specs.declared.expr.Expr.{Expr}
use Rattle.dslx_meaning.specs.declared.ty.DslxType.{DslxType}
use Rattle.dslx_meaning.specs.declared.value.UntypedLiteral.{UntypedLiteral}
use Rattle.dslx_meaning.specs.Names.ConstMachine.Layers.{untyped_of}
use Rattle.dslx_core.specs.Lowering.Lowering.{LoweredExpr, lower_number}
use Rattle.dslx_core.specs.Machines.Machine.Bodies.{doing, gives}
use Rattle.dslx_core.specs.Machines.Machine.Tasks.{PartsMaker, Fills, LowersExpr, OpenBody}

abbrev pub number_by : DslxType → Option UntypedLiteral → Option (Option LoweredExpr)
number_by t None = None
number_by t (Some b) = Some (lower_number (Some t) b)

-- what an element is that is not to be lowered
abbrev pub element_by : PartsMaker → Expr → Option (Option LoweredExpr)
element_by (Fills t n dots) e = number_by t (untyped_of e)
element_by maker e = None

-- an element that is there already, or is to be lowered
abbrev pub begins_by : Option (Option LoweredExpr) → Expr → OpenBody → Option OpenBody
begins_by None e body = Some (doing (LowersExpr e ∷ []) body)
begins_by (Some l) e body = gives l body
