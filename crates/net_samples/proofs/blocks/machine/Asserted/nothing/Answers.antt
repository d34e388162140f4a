use Rattle.net_samples.proofs.OnBlocks.Walks.{asserts_nothing}
use Rattle.net_samples.proofs.blocks.machine.Asserted.nothing.Goals as goal

pub returns : goal.returns
returns c = asserts_nothing
