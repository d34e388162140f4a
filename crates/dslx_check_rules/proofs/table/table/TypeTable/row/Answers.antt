use Rattle.dslx_check_rules.proofs.OnTable.Reads.{missing, row_earlier, row_is}
use Rattle.dslx_check_rules.proofs.table.table.TypeTable.row.Goals as goal

pub returns-in-Some-clause-is : goal.returns-in-Some-clause-is
returns-in-Some-clause-is c = row_is c.self.inside.rows.entries c.args.self.now c.self.view_is c.self.invariant c.args.ty (c.in-Some.row.now, c.in-Some.field-0-1.now) c.in-Some.ensures.entry

pub returns-in-Some-clause-earlier : goal.returns-in-Some-clause-earlier
returns-in-Some-clause-earlier c =
    row_earlier c.self.inside.rows.entries c.args.self.now c.self.view_is c.self.invariant c.args.ty (c.in-Some.row.now, c.in-Some.field-0-1.now) c.in-Some.ensures.entry

pub returns-in-None-clause-row : goal.returns-in-None-clause-row
returns-in-None-clause-row c = missing c.self.inside.rows.entries c.args.self.now c.self.view_is c.self.invariant c.args.ty.0 c.in-None.ensures.entry
