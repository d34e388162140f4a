use Rattle.std.proofs.Common.{◌-◌, ◌∙◌}
use Rattle.ir_tree.specs.Types.{ty_of}
use Rattle.block_build.specs.Netlist.Leaves.{leaf_widths}
use Rattle.block_build.specs.Netlist.Nexts.{copies_wires}
use Rattle.block_verilog.proofs.OnPipelines.OnWires.{copies_put, nexts_of, puts_of}
use Rattle.block_verilog.proofs.pipelines.pipelines.state_copies.Goals as goal

pub returns : goal.returns
returns c =
    let wires = copies_wires (leaf_widths (ty_of c.args.state.now)) c.args.place.now c.args.moves.now c.args.place.now.stage (c.args.last - c.args.place.now.stage) in
    let put = copies_put c.copy_nexts.result c.args.wires.now c.copy_nexts.new.wires c.args.nexts.now.items c.copy_nexts.new.nexts.items c.as_slice.result.now (leaf_widths (ty_of c.args.state.now)) c.args.place.now c.args.moves.now
    c.args.place.now.stage (c.args.last - c.args.place.now.stage) (c.as_slice.ensures.value ∙ c.in_ok-widths.ensures) c.copy_nexts.ensures.nexts c.copy_nexts.ensures.puts in
    record {
      nexts = nexts_of c.copy_nexts.result c.args.wires.now c.copy_nexts.new.wires c.args.nexts.now.items c.copy_nexts.new.nexts.items wires put;
      puts = puts_of c.copy_nexts.result c.args.wires.now c.copy_nexts.new.wires c.args.nexts.now.items c.copy_nexts.new.nexts.items wires put;
    }
