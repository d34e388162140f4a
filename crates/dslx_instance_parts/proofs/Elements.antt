-- Whether an element is there already or is to be lowered.
use Rattle.std.proofs.Common.{◌≡◌, Option, Some, None, refl, sym, ap, ◌∙◌}
use Rattle.dslx_tree.specs.declared.expr.Expr.{Expr}
use Rattle.dslx_meaning.specs.Meaning.{denotation}
use Rattle.dslx_meaning.specs.declared.ty.DslxType.{DslxType}
use Rattle.dslx_meaning.specs.declared.value.UntypedLiteral.{UntypedLiteral}
use Rattle.dslx_meaning.specs.Names.ConstMachine.Layers.{untyped_of}
use Rattle.dslx_core.specs.Machines.Machine.Parts.{part_begins, element_begins}
use Rattle.dslx_core.specs.Machines.Machine.Tasks.{OpenBody, PartsMaker, MakesTuple, MakesArray, Fills, CallsWith}
use Rattle.dslx_instance_parts.specs.Inner.Elements.{begins_by, element_by, number_by}
use Rattle.dslx_instance_parts.proofs.Bare.{bare_is}

number_begins : (t : DslxType) (o : Option UntypedLiteral) (e : Expr) (body : OpenBody) → begins_by (number_by t o) e body ≡ element_begins t o e body
number_begins t None e body = refl
number_begins t (Some b) e body = refl

pub begins_part : (maker : PartsMaker) (e : Expr) (body : OpenBody) → begins_by (element_by maker e) e body ≡ part_begins maker e body
begins_part MakesTuple e body = refl
begins_part MakesArray e body = refl
begins_part (Fills t n dots) e body = number_begins t (untyped_of e) e body ∙ ap (λ o. element_begins t o e body) (sym (bare_is e))
begins_part (CallsWith name parametric_args) e body = refl
