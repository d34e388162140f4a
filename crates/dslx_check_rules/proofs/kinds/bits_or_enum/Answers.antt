use Rattle.std.proofs.Common.{◌∙◌, sym, ap}
use Rattle.dslx_meaning.specs.Types.{bits_or_enum}
use Rattle.dslx_check_rules.specs.Interned.{types_in}
use Rattle.dslx_check_rules.proofs.OnKinds.{base_by_row}
use Rattle.dslx_check_rules.proofs.kinds.bits_or_enum.Goals as goal

pub returns-in-Some : goal.returns-in-Some
returns-in-Some c = λ names later p h. c.base_of_row.ensures ∙ sym (ap bits_or_enum (c.in-Some.ensures.is names later p) ∙ base_by_row names (types_in names later) c.in-Some.row.now)
