use Rattle.std.proofs.Common.{◌++◌}
use Rattle.block_build.specs.Netlist.Leaves.{repeated}
use Rattle.block_build.proofs.OnNetlist.OnLiterals.{times_more}
use Rattle.block_build.proofs.netlist.leaves.push_times.Goals as goal

pub elements-preserved : goal.elements-preserved
elements-preserved c =
    times_more c.args.count c.elements.counter c.args.own.now c.elements.widths.items c.extend_from_slice.new.self.items (c.args.widths.now.items ++ repeated c.args.count c.args.own.now)
    c.elements-test.true c.in_ok-extend_from_slice.ensures.items c.elements.invariant
