use Rattle.std.proofs.Common.{◌∙◌, ◌≡◌, subst}
use Rattle.std.specs.Prelude.{IfOk}
use Rattle.xb_span.specs.Nesting.Nesting.{first_past}
use Rattle.dslx_parser.proofs.reader.too_deep.Goals as goal

pub returns : goal.returns
returns c = subst (λ rs. IfOk c.first_over.result (λ place. place ≡ first_past rs)) (c.deref.ensures.value ∙ (c.in_ok-bracket_classes.ensures {u = tt})) c.first_over.ensures
