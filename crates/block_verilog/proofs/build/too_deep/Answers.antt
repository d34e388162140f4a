use Rattle.block_verilog.proofs.OnBuild.{shallow_none, shallow_more, first_too_deep, all_shallow}
use Rattle.block_verilog.proofs.build.too_deep.Goals as goal

pub channels-init : goal.channels-init
channels-init c = shallow_none c.as_slice-channels.result.now c.args.depths.now

pub channels-preserved : goal.channels-preserved
channels-preserved c =
    shallow_more c.as_slice-channels.result.now c.args.depths.now c.channels.i c.index-channels-i.result c.depth_at-depth.result c.is_deep.result c.channels-test.true c.depth_at-depth.ensures c.is_deep.ensures c.if-is_deep.false c.channels.invariant

pub returns-then-is_deep : goal.returns-then-is_deep
returns-then-is_deep c =
    first_too_deep c.args.ir.now.channels c.as_slice-channels.result.now c.args.depths.now c.channels.i c.index-channels-i.result c.depth_at-depth.result c.is_deep.result c.depth_limit.result c.as_slice-channels.ensures c.channels-test.true c.depth_at-depth.ensures c.is_deep.ensures
    c.if-is_deep.true c.depth_limit.ensures c.channels.invariant

pub returns : goal.returns
returns c = all_shallow c.args.ir.now.channels c.as_slice-channels.result.now c.args.depths.now c.channels.i c.as_slice-channels.ensures c.channels-test.false c.channels.invariant
