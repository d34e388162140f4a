use Rattle.block_verilog.proofs.OnBuild.{all_next_slices}
use Rattle.block_verilog.proofs.build.put_nexts.Goals as goal

pub returns : goal.returns
returns c = λ shown each are l_long s_long e_long stages.
    all_next_slices c.args.wires.now c.fifo_nexts.new.wires c.next_procs.new.wires c.args.ir.now c.as_slice-4.result.now c.args.schedules.now c.args.layout.now.fifos.items c.as_slice.result.now c.args.layout.now.procs.items c.as_slice-5.result.now c.args.made.now.views.items
    c.as_slice-2.result.now c.args.made.now.procs.items c.as_slice-6.result.now c.args.made.now.ends.items c.as_slice-3.result.now _ c.fifo_nexts.new.nexts.items c.next_procs.new.nexts.items c.as_slice-4.ensures c.as_slice.ensures.value c.as_slice-5.ensures.value
    c.as_slice-2.ensures.value c.as_slice-6.ensures.value c.as_slice-3.ensures.value c.new-nexts.ensures.items c.in_ok-fifo_nexts.ensures c.in_ok-next_procs.ensures shown each are l_long s_long e_long stages
