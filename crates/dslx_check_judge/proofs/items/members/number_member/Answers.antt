use Rattle.dslx_check_judge.proofs.items.members.number_member.Goals as goal

pub returns : goal.returns
returns c = λ names later p row. (c.range_faults-faults.ensures names later p row, c.in_ok-value.ensures names later p row)
