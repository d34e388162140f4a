use Rattle.std.proofs.Common.{arith}
use Rattle.xb_value.proofs.Fits.{below_ones, past_ones}
use Rattle.xb_value.proofs.reader.bits_of.Goals as goal

pub returns-then-number-width : goal.returns-then-number-width
returns-then-number-width c = past_ones c.args.width c.args.number (omega arith) c.if-number-width.true

pub new-requires-clause-in_range : goal.new-requires-clause-in_range
new-requires-clause-in_range c = below_ones c.args.width c.args.number (omega arith) c.if-number-width.false
