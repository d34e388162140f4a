use Rattle.std.proofs.Common.{◌+◌, length, arith}
use Rattle.dslx_interp.proofs.OnNetwork.OnFamily.Bounds.{at_below}
use Rattle.dslx_interp.proofs.network.channels.channels_of_ends.Goals as goal

pub channel_of_end-requires : goal.channel_of_end-requires
channel_of_end-requires c =
    let below = at_below (length c.args.given.now + c.requires.0) c.args.ends.now c.ends.end-index c.requires.2 c.ends-test.true in
    omega (arith, below, c.requires.1)
