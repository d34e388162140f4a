use Rattle.std.proofs.Common.{◌∙◌}
use Rattle.ir_tree.specs.Types.{ty_of}
use Rattle.block_build.specs.Netlist.Choices.{choice_wires}
use Rattle.block_build.specs.Netlist.Leaves.{leaf_widths}
use Rattle.block_build.specs.Netlist.Places.{shown_at}
use Rattle.block_verilog.proofs.OnPipelines.OnWires.{state_put, nexts_of, puts_of}
use Rattle.block_verilog.proofs.pipelines.pipelines.state_nexts.Goals as goal

pub returns : goal.returns
returns c =
    let wires = choice_wires c.args.comes (leaf_widths (ty_of c.args.proc.now.state)) (shown_at c.args.places.now c.args.last c.args.proc.now.next) c.args.places.now.state.own in
    let put = state_put c.choose.result c.args.wires.now c.choose.new.wires c.args.nexts.now.items c.choose.new.chosen.items c.args.comes c.as_slice.result.now (leaf_widths (ty_of c.args.proc.now.state)) c.as_slice-2.result.now c.as_slice-held.result.now
    (shown_at c.args.places.now c.args.last c.args.proc.now.next) c.args.places.now.state.own (c.as_slice.ensures.value ∙ c.in_ok-widths.ensures) (c.as_slice-2.ensures ∙ c.in_ok-next.ensures) c.as_slice-held.ensures c.choose.ensures.signals c.choose.ensures.puts in
    record {
      nexts = nexts_of c.choose.result c.args.wires.now c.choose.new.wires c.args.nexts.now.items c.choose.new.chosen.items wires put;
      puts = puts_of c.choose.result c.args.wires.now c.choose.new.wires c.args.nexts.now.items c.choose.new.chosen.items wires put;
    }
