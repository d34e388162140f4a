use Rattle.std.proofs.Common.{◌∙◌, sym, ap}
use Rattle.dslx_meaning.specs.Types.{is_unit}
use Rattle.dslx_check_rules.specs.Interned.{types_in}
use Rattle.dslx_check_rules.proofs.OnKinds.{unit_by_row}
use Rattle.dslx_check_rules.proofs.kinds.is_unit.Goals as goal

pub returns-in-Some : goal.returns-in-Some
returns-in-Some c = λ names later p h. c.is_unit_row.ensures ∙ sym (ap is_unit (c.in-Some.ensures.is names later p) ∙ unit_by_row names (types_in names later) c.in-Some.row.now)
