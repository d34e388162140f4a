use Rattle.std.proofs.Common.{◌∙◌, Some, ap, sym}
use Rattle.std.proofs.lemmas.Result.{IfOk-weaker}
use Rattle.dslx_check_tasks.proofs.declarations.prefixes.prefix_values.Goals as goal

pub returns-then-has_prefix : goal.returns-then-has_prefix
returns-then-has_prefix c = IfOk-weaker c.values_of.result _ _ (λ values h. c.has_prefix.ensures c.if-has_prefix.true ∙ ap Some (sym h)) c.values_of.ensures
