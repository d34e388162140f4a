use Rattle.cmd_line.proofs.Numbers.{number_none, number_read}
use Rattle.cmd_line.proofs.number.read_number.Goals as goal
use Rattle.std.proofs.Common.{arith}

pub returns-else-most-number-clause-said : goal.returns-else-most-number-clause-said
returns-else-most-number-clause-said c = number_read c.args.least c.args.most c.args.text.now c.parse.result c.in-Ok.number c.parse.ensures.value.0 c.in-Ok.is (omega arith) (omega arith) (omega arith)

pub returns-in-Err-clause-said : goal.returns-in-Err-clause-said
returns-in-Err-clause-said c = number_none c.args.least c.args.most c.args.text.now c.parse.result c.in-Err.field-0 c.parse.ensures.value.0 c.in-Err.is (omega arith)
