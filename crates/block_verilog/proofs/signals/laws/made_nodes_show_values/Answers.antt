use Rattle.block_verilog.proofs.OnSignals.OnShown.{made_nodes_show}
use Rattle.block_verilog.proofs.signals.laws.made_nodes_show_values.Goals as goal

pub returns : goal.returns
returns c = made_nodes_show
