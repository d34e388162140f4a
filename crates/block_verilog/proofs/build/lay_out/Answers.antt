use Rattle.block_verilog.proofs.OnBuild.{all_laid}
use Rattle.block_verilog.proofs.build.lay_out.Goals as goal

pub returns : goal.returns
returns c =
    all_laid c.args.ir.now c.args.schedules.now c.args.depths.now c.args.first c.new-registers.result c.lay_fifos.new.registers c.lay_procs.new.registers c.as_slice-channels.result.now c.as_slice.result.now c.in_ok-fifos.fifos.items c.in_ok-procs.procs.items
    c.as_slice-channels.ensures c.as_slice.ensures c.new-registers.ensures c.in_ok-fifos.ensures.fifos c.in_ok-fifos.ensures.lays c.in_ok-procs.ensures.laid c.in_ok-procs.ensures.lays
