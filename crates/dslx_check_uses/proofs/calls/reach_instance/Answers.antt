use Rattle.std.proofs.Common.{refl}
use Rattle.dslx_check_uses.proofs.OnCallees.{one_reached}
use Rattle.dslx_check_uses.proofs.calls.reach_instance.Goals as goal

pub returns : goal.returns
returns c = one_reached c.in_ok-instance.instance c.in_ok-instance.ensures.grows c.in_ok-instance.ensures.number refl c.in_ok-reach.ensures c.in_ok-size.ensures.misses c.in_ok-size.ensures.size
