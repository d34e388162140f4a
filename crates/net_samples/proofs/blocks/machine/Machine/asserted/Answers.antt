use Rattle.std.proofs.Common.{arith}
use Rattle.net_samples.proofs.blocks.machine.Machine.asserted.Goals as goal

pub returns-then-sample-le4 : goal.returns-then-sample-le4
returns-then-sample-le4 c = λ opening now small shows. c.asserted_from.ensures opening now small shows (omega arith)
