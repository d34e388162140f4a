use Rattle.std.proofs.Common.{◌∙◌, sym, subst, if◌then◌else◌}
use Rattle.dslx_meaning.specs.Rules.CallRules.{Unknown, Wrong}
use Rattle.dslx_check_uses.specs.declared.parametrics.Resolved.TheVariants as code
use Rattle.dslx_check_uses.specs.Inner.Parametrics.{IsResolved}
use Rattle.dslx_check_uses.proofs.parametrics.without_value.Goals as goal

pub returns-then-is_in_range : goal.returns-then-is_in_range
returns-then-is_in_range c = λ names later p h. subst (λ b. IsResolved code.Unknown (if b then Unknown else Wrong)) (sym c.if-is_in_range.true ∙ c.is_in_range.ensures names later p h) tt

pub returns-else-is_in_range : goal.returns-else-is_in_range
returns-else-is_in_range c = λ names later p h. subst (λ b. IsResolved code.Wrong (if b then Unknown else Wrong)) (sym c.if-is_in_range.false ∙ c.is_in_range.ensures names later p h) tt
