-- Elements that are numbers without a type.
use Rattle.std.specs.Prelude.{[], ◌∷◌, Option, Some, None}
use Rattle.dslx_tree.specs.declared.expr.Expr.{Expr}
use Rattle.dslx_meaning.specs.Operators.{number_value}
use Rattle.dslx_meaning.specs.declared.ty.DslxType.{DslxType}
use Rattle.dslx_meaning.specs.declared.value.UntypedLiteral.{UntypedLiteral}
use Rattle.dslx_meaning.specs.declared.value.DslxValue.{DslxValue}
use Rattle.dslx_meaning.specs.Names.ConstMachine.Layers.{untyped_of}
use Rattle.dslx_meaning.specs.Names.ConstMachine.States.{doing, finds_value}
use Rattle.dslx_meaning.specs.Names.ConstMachine.Tasks.{ConstState, ListMaker, Fills, ValueDen}

abbrev pub number_by : DslxType → Option UntypedLiteral → Option (Option DslxValue)
number_by t None = None
number_by t (Some b) = Some (number_value t b)

-- what an element is that is not to be evaluated
abbrev pub element_by : ListMaker → Expr → Option (Option DslxValue)
element_by (Fills t n dots) e = number_by t (untyped_of e)
element_by maker e = None

-- an element that has a value already, or is to be evaluated
abbrev pub begins_by : Option (Option DslxValue) → Expr → ConstState → ConstState
begins_by None e run = doing (ValueDen e ∷ []) run
begins_by (Some v) e run = finds_value v run
