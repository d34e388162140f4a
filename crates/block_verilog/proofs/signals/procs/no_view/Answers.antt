use Rattle.std.proofs.Common.{ap}
use Rattle.block_verilog.specs.Signals.Nodes.{all_alike}
use Rattle.block_verilog.proofs.signals.procs.no_view.Goals as goal

pub returns : goal.returns
returns c = ap all_alike c.zeros-zero.ensures
