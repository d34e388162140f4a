use Rattle.std.proofs.Common.{arith}
use Rattle.dslx_token.proofs.Digits.{stated}
use Rattle.dslx_token.proofs.token.stated_width.Goals as goal

pub overflow_cast-result : goal.overflow_cast-result
overflow_cast-result c =
    let is = stated c.args.digits.now c.grouped_value.result c.unwrap_or.result c.requires c.grouped_value.ensures c.unwrap_or.ensures in omega (arith, is.2)

pub returns-clause-width : goal.returns-clause-width
returns-clause-width c = (stated c.args.digits.now c.grouped_value.result c.unwrap_or.result c.requires c.grouped_value.ensures c.unwrap_or.ensures).0

pub returns-clause-least : goal.returns-clause-least
returns-clause-least c = (stated c.args.digits.now c.grouped_value.result c.unwrap_or.result c.requires c.grouped_value.ensures c.unwrap_or.ensures).1

pub returns-clause-most : goal.returns-clause-most
returns-clause-most c = (stated c.args.digits.now c.grouped_value.result c.unwrap_or.result c.requires c.grouped_value.ensures c.unwrap_or.ensures).2
