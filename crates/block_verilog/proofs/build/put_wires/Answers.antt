use Rattle.block_verilog.proofs.OnBuild.{all_put_slices}
use Rattle.block_verilog.proofs.build.put_wires.Goals as goal

pub returns : goal.returns
returns c = λ l_long s_long.
    all_put_slices c.args.wires.now c.inverse.new.self c.views.new.wires c.wire_procs.new.wires c.all_ends.new.wires c.args.ir.now c.as_slice-channels.result.now c.as_slice-procs.result.now c.args.schedules.now c.args.ports.now c.args.layout.now.fifos.items c.as_slice.result.now
    c.args.layout.now.procs.items c.as_slice-2.result.now c.in_ok-views.views.items c.as_slice-3.result.now c.in_ok-made.made.items c.as_slice-4.result.now c.in_ok-ends.ends.items c.in_ok-run.run' c.as_slice-channels.ensures c.as_slice-procs.ensures
    c.as_slice.ensures.value c.as_slice-2.ensures.value c.as_slice-3.ensures.value c.as_slice-4.ensures.value c.in_ok-run.ensures c.in_ok-views.ensures.count c.in_ok-views.ensures.are c.in_ok-views.ensures.wired c.in_ok-made.ensures c.in_ok-ends.ensures.count
    c.in_ok-ends.ensures.wired l_long s_long
