use Rattle.std.proofs.Common.{arith}
use Rattle.dslx_interp.proofs.OnNetwork.OnFamily.Bounds.{one_below}
use Rattle.dslx_interp.proofs.network.heads.channel_at.Goals as goal

pub overflow_cast-result : goal.overflow_cast-result
overflow_cast-result c =
    let found = c.in-Some.ensures.lookup in
    let below = one_below 4294967296 c.args.channels.now c.args.member c.in-Some.channel.now c.requires found.3.0 found.1 in
    omega (arith, below)
