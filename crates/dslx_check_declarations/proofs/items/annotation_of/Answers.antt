use Rattle.std.proofs.Common.{◌≡◌, ◌∙◌, ◌&&◌, Bool, Option, Some, None, true, false, sym, ap, subst}
use Rattle.std.specs.Prelude.{is_some}
use Rattle.dslx_check_rules.specs.declared.typing.Typing.{Typing}
use Rattle.dslx_check_declarations.specs.Items.{AnnotatesBy}
use Rattle.dslx_check_declarations.proofs.OnItems.{annotated_none, annotated_some}
use Rattle.dslx_check_declarations.proofs.items.annotation_of.Goals as goal

pub returns-in-None : goal.returns-in-None
returns-in-None c = subst (λ (o : Option Typing). AnnotatesBy c.args.types.now c.args.span o c.args.value c.none.result true) (sym c.in-None.is) (annotated_none c.none.ensures)

pub returns-then-is_empty : goal.returns-then-is_empty
returns-then-is_empty c = subst (λ (o : Option Typing). AnnotatesBy c.args.types.now c.args.span o c.args.value c.wanted_faults-wrong.result c.is_some.result) (sym c.in-Some.is)
    (annotated_some c.wanted_faults-wrong.ensures c.and-faults.ensures c.is_empty.ensures (c.is_some.ensures ∙ ap (λ (b : Bool). b && is_some c.in-Some.written.ty) (sym c.if-is_empty.true)))

pub returns-else-is_empty : goal.returns-else-is_empty
returns-else-is_empty c = subst (λ (o : Option Typing). AnnotatesBy c.args.types.now c.args.span o c.args.value c.wanted_faults-wrong.result c.is_empty.result) (sym c.in-Some.is)
    (annotated_some c.wanted_faults-wrong.ensures c.and-faults.ensures c.is_empty.ensures (c.if-is_empty.false ∙ ap (λ (b : Bool). b && is_some c.in-Some.written.ty) (sym c.if-is_empty.false)))
