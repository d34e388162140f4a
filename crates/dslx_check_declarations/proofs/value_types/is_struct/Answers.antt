use Rattle.std.proofs.Common.{is_some, ap}
use Rattle.dslx_check_declarations.proofs.OnValueTypes.{struct_row}
use Rattle.dslx_check_declarations.proofs.value_types.is_struct.Goals as goal

pub returns-in-Some : goal.returns-in-Some
returns-in-Some c = λ so. struct_row c.args.item c.args.parts.now c.in-Some.row.now (c.row.ensures.there.0 (ap is_some c.in-Some.is)) c.in-Some.ensures.is c.is_struct_row.ensures so
