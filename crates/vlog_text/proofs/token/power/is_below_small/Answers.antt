use Rattle.vlog_text.proofs.OnToken.Powers.{not_below}
use Rattle.vlog_text.proofs.token.power.is_below_small.Goals as goal

pub returns-in-None : goal.returns-in-None
returns-in-None c = not_below _ c.args.power c.in-None.ensures c.requires
