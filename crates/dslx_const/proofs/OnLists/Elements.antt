-- Whether an element has a value already or is to be evaluated.
use Rattle.std.proofs.Common.{◌≡◌, Option, Some, None, refl}
use Rattle.dslx_tree.specs.declared.expr.Expr.{Expr}
use Rattle.dslx_meaning.specs.declared.ty.DslxType.{DslxType}
use Rattle.dslx_meaning.specs.declared.value.UntypedLiteral.{UntypedLiteral}
use Rattle.dslx_meaning.specs.Names.ConstMachine.Layers.{untyped_of}
use Rattle.dslx_meaning.specs.Names.ConstMachine.Lists.{next_begins, element_begins}
use Rattle.dslx_meaning.specs.Names.ConstMachine.Tasks.{ConstState, ListMaker, MakesTuple, MakesArray, Fills, CallsWith}
use Rattle.dslx_const.specs.Lists.Inner.Elements.{begins_by, element_by, number_by}

number_begins : (t : DslxType) (o : Option UntypedLiteral) (e : Expr) (run : ConstState) → begins_by (number_by t o) e run ≡ element_begins t o e run
number_begins t None e run = refl
number_begins t (Some b) e run = refl

pub begins_next : (maker : ListMaker) (e : Expr) (run : ConstState) → begins_by (element_by maker e) e run ≡ next_begins maker e run
begins_next MakesTuple e run = refl
begins_next MakesArray e run = refl
begins_next (Fills t n dots) e run = number_begins t (untyped_of e) e run
begins_next (CallsWith name parametric_args) e run = refl
