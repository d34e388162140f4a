use Rattle.std.proofs.Common.{ap, length, get_or}
use Rattle.block_verilog.specs.Sides.{IsEnd}
use Rattle.block_verilog.proofs.Lemmas.Each.{same_or, longer, wires_begun, wires_more}
use Rattle.block_verilog.proofs.OnEnds.{end_is}
use Rattle.block_verilog.proofs.sides.all_ends.Goals as goal

pub channels-init : goal.channels-init
channels-init c = record {
  count = ap length c.new-ends.ensures.items;
  wired = wires_begun c.args.wires.now (λ v. IsEnd v c.args.procs.now c.args.made.now c.args.channels.now) _ c.new-ends.ensures.items;
}

pub channels-preserved : goal.channels-preserved
channels-preserved c = record {
  count = longer c.channels.ends.items c.push.new.self.items c.in_ok-end.end c.channels.i c.channels.invariant.count c.in_ok-push.ensures.items;
  wired = wires_more c.args.wires.now c.channels.wires c.channel_ends.new.wires (λ v. IsEnd v c.args.procs.now c.args.made.now c.args.channels.now) c.channels.i c.channels.ends.items c.push.new.self.items c.in_ok-end.end c.channels.invariant.count c.in_ok-push.ensures.items
      c.channels.invariant.wired
      (end_is c.channels.wires c.channel_ends.new.wires c.args.procs.now c.args.made.now c.args.channels.now c.channels.i c.proc_at-reader.result c.proc_at-writer.result c.in_ok-channel.channel c.width_of-width.result (get_or c.args.channels.now c.channels.i c.index-channels-i.result) c.in_ok-end.end
      c.channels-test.true (same_or c.args.channels.now c.channels.i _ _ c.channels-test.true) c.in_ok-channel.ensures c.proc_at-reader.ensures c.proc_at-writer.ensures c.width_of-width.ensures c.in_ok-end.ensures);
}
