use Rattle.std.proofs.Common.{◌∙◌, sym, ap}
use Rattle.dslx_check_rules.specs.Interned.{type_at}
use Rattle.dslx_check_rules.proofs.OnKinds.{bool_by_bits, is_bool_kind}
use Rattle.dslx_check_rules.proofs.kinds.is_bool.Goals as goal

pub returns-in-Some : goal.returns-in-Some
returns-in-Some c = λ names later p h. c.is_one_bit.ensures ∙ ap is_bool_kind (c.in-Some.ensures names later p h) ∙ sym (bool_by_bits (type_at names later c.args.ty))

pub returns-in-None : goal.returns-in-None
returns-in-None c = λ names later p h. ap is_bool_kind (c.in-None.ensures names later p h) ∙ sym (bool_by_bits (type_at names later c.args.ty))
