use Rattle.dslx_check_declarations.proofs.OnMembers.{number_of_base}
use Rattle.dslx_check_declarations.proofs.enums.number_member.Goals as goal

pub returns-in_ok-value-in-Some : goal.returns-in_ok-value-in-Some
returns-in_ok-value-in-Some c = λ names later p row.
    number_of_base _ names later c.args.span c.args.number c.args.base c.in-Some.base c.in-Some.is (c.in_ok-value-in-Some.ensures names later p) row c.is_some-is_there.ensures c.breaks_if.ensures
