use Rattle.std.proofs.Common.{arith}
use Rattle.vlog_text.proofs.OnToken.Powers.{below}
use Rattle.vlog_text.proofs.token.power.is_below_power.Goals as goal

pub returns-then-power-digits : goal.returns-then-power-digits
returns-then-power-digits c = below c.args.digits.now c.args.power c.requires c.if-power-digits.true
