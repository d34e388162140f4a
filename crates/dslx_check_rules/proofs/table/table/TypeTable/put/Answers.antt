use Rattle.dslx_check_rules.proofs.OnTable.Puts.{found_there, last_grows, last_number, last_there, unchanged}
use Rattle.dslx_check_rules.proofs.table.table.TypeTable.put.Goals as goal

pub returns-in-None-clause-number : goal.returns-in-None-clause-number
returns-in-None-clause-number c = last_number c.push.result c.args.self.now c.push.new.self c.args.row c.requires.parts c.push.ensures.rows c.push.ensures.number

pub returns-in-None-clause-there : goal.returns-in-None-clause-there
returns-in-None-clause-there c = last_there c.push.result c.args.self.now c.push.new.self c.args.row c.push.ensures.rows c.push.ensures.number

pub returns-in-None-clause-grows : goal.returns-in-None-clause-grows
returns-in-None-clause-grows c = last_grows c.push.result c.args.self.now c.push.new.self c.args.row c.push.ensures.rows

pub returns-in-Some-clause-there : goal.returns-in-Some-clause-there
returns-in-Some-clause-there c = found_there c.number.result c.args.self.now c.args.row c.in-Some.place c.in-Some.ensures.number c.number.ensures

pub returns-in-Some-clause-grows : goal.returns-in-Some-clause-grows
returns-in-Some-clause-grows c = unchanged c.number.result c.args.self.now
