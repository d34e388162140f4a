use Rattle.block_verilog.specs.Pipelines.Pipelines.{scheduled}
use Rattle.block_verilog.proofs.OnPipelines.OnWires.{proc_put}
use Rattle.block_verilog.proofs.pipelines.pipelines.proc_wires.Goals as goal

pub returns : goal.returns
returns c =
    proc_put c.args.wires.now c.node_wires.new.wires c.stage_wires.new.wires c.args.run (scheduled c.args.channels.now c.args.proc.now c.args.staging) c.args.layout.now c.args.views.now c.in_ok-nodes.nodes c.in_ok-stages.stages
    c.as_slice-sites.result.now c.as_slice-sites.ensures c.in_ok-nodes.ensures c.in_ok-stages.ensures
