use Rattle.std.proofs.Common.{arith, length}
use Rattle.vlog_text.proofs.OnToken.Powers.{below}
use Rattle.vlog_text.proofs.token.power.is_below.Goals as goal

pub returns-in-None : goal.returns-in-None
returns-in-None c = below c.args.digits.now _ c.requires (omega (arith, c.in-None.ensures))
