use Rattle.std.proofs.Common.{◌∙◌, sym, ap}
use Rattle.dslx_meaning.specs.Types.{bits_in}
use Rattle.dslx_check_rules.specs.Interned.{types_in}
use Rattle.dslx_check_rules.proofs.OnKinds.{bits_by_row}
use Rattle.dslx_check_rules.proofs.kinds.bits_in.Goals as goal

pub returns-in-Some : goal.returns-in-Some
returns-in-Some c = λ names later p h. c.bits_of_row.ensures ∙ sym (ap bits_in (c.in-Some.ensures.is names later p) ∙ bits_by_row names (types_in names later) c.in-Some.row.now)
