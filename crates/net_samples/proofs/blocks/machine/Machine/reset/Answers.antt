use Rattle.net_samples.proofs.OnBlocks.Registers.{reset_shows}
use Rattle.net_samples.proofs.blocks.machine.Machine.reset.Goals as goal

pub returns : goal.returns
returns c = λ sample small. reset_shows sample small c.args.state c.new.result c.new.ensures
