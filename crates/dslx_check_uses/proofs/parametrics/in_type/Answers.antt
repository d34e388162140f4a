use Rattle.std.proofs.Common.{ap, sym, subst}
use Rattle.std.proofs.lemmas.Result.{IfOk-weaker}
use Rattle.dslx_meaning.specs.Rules.CallRules.{in_type}
use Rattle.dslx_check_rules.specs.Interned.{HasRowIf, type_if}
use Rattle.dslx_check_uses.specs.Inner.Parametrics.{IsResolved}
use Rattle.dslx_check_uses.proofs.OnArguments.{nowhere}
use Rattle.dslx_check_uses.proofs.parametrics.in_type.Goals as goal

pub returns-in-None : goal.returns-in-None
returns-in-None c = λ names later p h. nowhere (type_if names later c.args.ty) c.args.number (ap (type_if names later) c.in-None.is)

pub returns-in-Some : goal.returns-in-Some
returns-in-Some c = IfOk-weaker c.number_of_type.result _ _ (λ r g names later p h.
    subst (λ o. IsResolved r (in_type (type_if names later o) c.args.number)) (sym c.in-Some.is) (g names later p (subst (HasRowIf c.args.types.now) c.in-Some.is h))) c.number_of_type.ensures
