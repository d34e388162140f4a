use Rattle.std.proofs.Common.{is_some, ap}
use Rattle.dslx_check_declarations.proofs.OnValueTypes.{enum_row}
use Rattle.dslx_check_declarations.proofs.value_types.is_enum.Goals as goal

pub returns-in-Some : goal.returns-in-Some
returns-in-Some c = λ so. enum_row c.args.item c.args.kind c.in-Some.row.now (c.row.ensures.there.0 (ap is_some c.in-Some.is)) c.in-Some.ensures.is c.is_enum_row.ensures so
