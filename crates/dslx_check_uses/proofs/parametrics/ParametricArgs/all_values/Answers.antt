use Rattle.std.proofs.Common.{◌∙◌, None, ap, sym, if◌then◌else◌}
use Rattle.std.proofs.lemmas.Result.{IfOk-weaker}
use Rattle.dslx_meaning.specs.Lists.{all_some}
use Rattle.dslx_check_uses.proofs.parametrics.ParametricArgs.all_values.Goals as goal

pub returns-then-are_known : goal.returns-then-are_known
returns-then-are_known c =
    IfOk-weaker c.values_of.result _ _ (λ v e. e ∙ ap all_some c.as_slice.ensures.value ∙ ap (λ b. if b then all_some c.args.self.now.values.items else None) (sym c.if-are_known.true)) c.values_of.ensures

pub returns-else-are_known : goal.returns-else-are_known
returns-else-are_known c = ap (λ b. if b then all_some c.args.self.now.values.items else None) (sym c.if-are_known.false)
