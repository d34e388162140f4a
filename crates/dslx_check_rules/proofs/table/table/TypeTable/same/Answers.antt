use Rattle.dslx_check_rules.proofs.OnTable.Reads.{same_by_number}
use Rattle.dslx_check_rules.proofs.table.table.TypeTable.same.Goals as goal

pub returns : goal.returns
returns c = λ names later apart p ha hb. same_by_number c.self.inside.rows.entries c.args.self.now c.self.view_is c.self.invariant names later apart p c.args.a c.args.b ha hb
