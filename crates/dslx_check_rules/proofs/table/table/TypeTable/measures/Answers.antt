use Rattle.std.proofs.Common.{◌∙◌}
use Rattle.dslx_check_rules.proofs.OnTable.Reads.{measured_past, measured_there}
use Rattle.dslx_check_rules.proofs.table.table.TypeTable.measures.Goals as goal

pub returns-in-Some : goal.returns-in-Some
returns-in-Some c = λ names.
    measured_there c.self.inside.rows.entries c.args.self.now c.self.view_is c.self.invariant c.args.ty (c.in-Some.field-0-0.now, c.in-Some.measures.now) c.in-Some.ensures.entry names

pub returns-in-None : goal.returns-in-None
returns-in-None c = λ names. c.of_unit.ensures ∙ measured_past c.self.inside.rows.entries c.args.self.now c.self.view_is c.self.invariant c.args.ty c.in-None.ensures.entry names
