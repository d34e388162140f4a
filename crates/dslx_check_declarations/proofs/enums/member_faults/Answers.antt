use Rattle.dslx_check_declarations.proofs.OnMembers.{members_break}
use Rattle.dslx_check_declarations.proofs.enums.member_faults.Goals as goal

pub returns : goal.returns
returns c = λ names later p row. members_break _ c.args.span c.args.values.now c.in_ok-has_equal.ensures c.either-is_wrong.ensures (c.unless_bits-own.ensures names later p row) c.breaks_if.ensures c.and.ensures
