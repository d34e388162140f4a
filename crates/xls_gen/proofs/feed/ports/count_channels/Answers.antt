use Rattle.std.proofs.Common.{arith}
use Rattle.xls_gen.proofs.OnFeed.Channels.{count_of}
use Rattle.xls_gen.proofs.feed.ports.count_channels.Goals as goal

pub returns : goal.returns
returns c = count_of c.args.design.now c.saturating_sub.result (omega arith)
