use Rattle.std.proofs.Common.{◌∙◌, sym, subst, if◌then◌else◌}
use Rattle.std.proofs.lemmas.Result.{IfOk-weaker}
use Rattle.dslx_meaning.specs.Rules.CallRules.{Wrong, in_type}
use Rattle.dslx_check_rules.specs.Interned.{type_if}
use Rattle.dslx_check_uses.specs.declared.parametrics.Resolved.TheVariants as code
use Rattle.dslx_check_uses.specs.Inner.Parametrics.{IsResolved}
use Rattle.dslx_check_uses.proofs.parametrics.one_inferred.Goals as goal

pub returns-then-is_one : goal.returns-then-is_one
returns-then-is_one c = IfOk-weaker c.in_type.result _ _ (λ r g names later p h.
    subst (λ b. IsResolved r (if b then in_type (type_if names later c.args.ty) c.args.first else Wrong)) (sym c.if-is_one.true ∙ c.is_one.ensures) (g names later p h)) c.in_type.ensures

pub returns-else-is_one : goal.returns-else-is_one
returns-else-is_one c = λ names later p h.
    subst (λ b. IsResolved code.Wrong (if b then in_type (type_if names later c.args.ty) c.args.first else Wrong)) (sym c.if-is_one.false ∙ c.is_one.ensures) tt
