use Rattle.std.proofs.Common.{arith}
use Rattle.block_build.proofs.OnNetlist.OnRegisters.{sets_begun, sets_more, sets_done}
use Rattle.block_build.proofs.netlist.sets.sets.Goals as goal

pub sets-init : goal.sets-init
sets-init c = sets_begun c.args.first c.args.values.now c.new-sets.result c.new-sets.ensures

pub sets-preserved : goal.sets-preserved
sets-preserved c =
    sets_more c.args.first c.sets.i c.saturating_add-number.result c.args.values.now c.index-values-i.result c.sets.sets c.push.new.self c.sets-test.true c.index-values-i.is
    (omega (arith, c.saturating_add-number.ensures, c.from.ensures, c.if-number-ge4294967295.false)) c.in_ok-push.ensures.ok c.sets.invariant

pub returns : goal.returns
returns c = sets_done c.args.first c.sets.i c.args.values.now c.sets.sets c.sets-test.false c.sets.invariant
