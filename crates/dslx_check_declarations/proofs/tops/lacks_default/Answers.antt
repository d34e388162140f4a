use Rattle.std.proofs.Common.{◌∙◌, arith, sym, ap}
use Rattle.std.proofs.lemmas.List.Folds.{list_any_at}
use Rattle.dslx_meaning.specs.Rules.ModuleRules.{lacks_default}
use Rattle.dslx_check_declarations.proofs.tops.lacks_default.Goals as goal

pub returns-then-has_no_default : goal.returns-then-has_no_default
returns-then-has_no_default c =
    sym (list_any_at lacks_default c.args.parametrics.now c.parametrics.parametric-index c.parametric-item.result (omega arith)
    (ap lacks_default (sym c.parametric-item.is) ∙ sym c.has_no_default.ensures ∙ c.if-has_no_default.true))
