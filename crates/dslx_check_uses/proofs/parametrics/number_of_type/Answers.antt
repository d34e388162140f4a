use Rattle.std.proofs.Common.{◌∙◌, sym}
use Rattle.dslx_check_rules.specs.Interned.{type_at}
use Rattle.dslx_check_uses.proofs.OnArguments.{lies_in, without_value}
use Rattle.dslx_check_uses.proofs.parametrics.number_of_type.Goals as goal

pub returns-in-Some : goal.returns-in-Some
returns-in-Some c = λ names later p h. lies_in (type_at names later c.args.ty) c.args.number c.in-Some.value (sym c.in-Some.is ∙ c.in_ok-found.ensures names later p h)

pub returns-in-None : goal.returns-in-None
returns-in-None c = λ names later p h. without_value c.without_value.result (type_at names later c.args.ty) c.args.number
    (sym c.in-None.is ∙ c.in_ok-found.ensures names later p h) (c.without_value.ensures names later p h)
