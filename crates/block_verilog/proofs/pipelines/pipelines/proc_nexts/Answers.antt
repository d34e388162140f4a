use Rattle.block_verilog.proofs.OnPipelines.OnWires.{nexts_put}
use Rattle.block_verilog.proofs.pipelines.pipelines.proc_nexts.Goals as goal

pub returns : goal.returns
returns c =
    nexts_put c.node_nexts.result c.args.wires.now c.state_nexts.new.wires c.full_nexts.new.wires c.site_nexts.new.wires c.state_copies.new.wires c.node_nexts.new.wires c.args.proc.now c.args.staging.stage.now c.args.staging.stages c.args.staging.last
    c.args.layout.now c.args.made.now c.args.nexts.now.items c.state_nexts.new.nexts.items c.full_nexts.new.nexts.items c.site_nexts.new.nexts.items c.state_copies.new.nexts.items c.node_nexts.new.nexts.items c.as_slice-moves.result.now
    c.move_at-comes.result c.as_slice-sites.result.now c.as_slice-handshakes.result.now c.as_slice-nodes.result.now c.as_slice.result.now c.as_slice-lasts.result.now c.as_slice-moves.ensures.value c.move_at-comes.ensures c.as_slice-sites.ensures
    c.as_slice-handshakes.ensures.value c.as_slice-nodes.ensures c.as_slice.ensures c.as_slice-lasts.ensures.value c.in_ok-state_nexts.ensures.nexts c.in_ok-state_nexts.ensures.puts c.in_ok-full_nexts.ensures.nexts c.in_ok-full_nexts.ensures.wired
    c.in_ok-site_nexts.ensures.nexts c.in_ok-site_nexts.ensures.puts c.in_ok-state_copies.ensures.nexts c.in_ok-state_copies.ensures.puts c.node_nexts.ensures.nexts c.node_nexts.ensures.puts
