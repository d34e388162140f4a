use Rattle.block_verilog.specs.Pipelines.Pipelines.{scheduled}
use Rattle.block_verilog.proofs.OnPipelines.OnLayout.{registers_laid}
use Rattle.block_verilog.proofs.pipelines.layout.lay_registers.Goals as goal

pub returns : goal.returns
returns c =
    let d = registers_laid c.args.registers.now c.lay_state.new.registers c.lay_full.new.registers c.lay_sites.new.registers c.lay_copies.new.registers c.lay_nodes.new.registers
    (scheduled c.args.channels.now c.args.proc.now c.args.staging) c.args.reads.now c.in_ok-state.state c.in_ok-full.full c.in_ok-state_copies.state_copies c.in_ok-sites.sites.items c.in_ok-copies.copies.items
    c.registers_from.result c.as_slice-nodes.result.now c.as_slice.result.now c.as_slice-nodes.ensures c.as_slice.ensures.value c.in_ok-state.ensures c.in_ok-lay_state.ensures c.in_ok-full.ensures.number c.in_ok-full.ensures.lays
    c.in_ok-sites.ensures.sites c.in_ok-sites.ensures.lays c.in_ok-state_copies.ensures.number c.in_ok-state_copies.ensures.lays c.in_ok-copies.ensures.copies c.in_ok-copies.ensures.lays c.registers_from.ensures.are c.registers_from.ensures.few in
    record { laid = d.laid; lays = d.lays }
