use Rattle.std.proofs.Common.{ap, ◌∙◌}
use Rattle.net_core.specs.declared.net.Chan.{Chan}
use Rattle.ir_tree.specs.Networks.{chan_of}
use Rattle.block_verilog.specs.Streams.Streams.{package_run}
use Rattle.block_verilog.proofs.OnStreams.Deep.{deep_cut}
use Rattle.block_verilog.proofs.OnStreams.OnNetworks.{map_there}
use Rattle.block_verilog.proofs.streams.laws.deep_runs_have_no_bound.Goals as goal

pub returns : goal.returns
returns c ir inputs activations depths deep = deep_cut (package_run ir inputs activations depths) (λ i chan there inner. let own = map_there chan_of ir.channels i chan there in deep i own.0 own.1 (ap (λ (x : Chan). x.kind) own.2 ∙ inner))
