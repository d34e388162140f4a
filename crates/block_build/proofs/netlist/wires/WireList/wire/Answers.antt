use Rattle.std.proofs.Common.{refl}
use Rattle.block_build.proofs.OnNetlist.OnAdded.{puts}
use Rattle.block_build.proofs.netlist.wires.WireList.wire.Goals as goal

pub returns-clause-puts : goal.returns-clause-puts
returns-clause-puts c = puts _ _ _ refl c.in_ok-push.ensures.items
