use Rattle.block_verilog.proofs.Lemmas.Each.{none_or}
use Rattle.block_verilog.proofs.queues.depth_at.Goals as goal

pub returns-in-None : goal.returns-in-None
returns-in-None c = none_or c.args.depths.now c.args.channel c.in-None.ensures
