use Rattle.dslx_check_rules.proofs.OnTable.Puts.{pushed, pushed_rows}
use Rattle.dslx_check_rules.proofs.table.table.TypeTable.push.Goals as goal

pub invariant_of-self-2 : goal.invariant_of-self-2
invariant_of-self-2 c =
    pushed c.self.inside.rows.entries c.insert.new.self.entries c.args.self.now c.self.view_is c.args.row c.args.measures c.requires.absent c.in_ok-insert.ensures.entries
    c.self.invariant c.requires.parts c.requires.measured c.in_ok-insert.ensures.unique

pub returns-clause-rows : goal.returns-clause-rows
returns-clause-rows c =
    pushed_rows c.self.inside.rows.entries c.insert.new.self.entries c.args.self.now c.self.view_is c.args.row c.args.measures c.requires.absent c.in_ok-insert.ensures.entries
