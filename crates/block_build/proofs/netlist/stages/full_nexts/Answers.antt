use Rattle.std.proofs.Common.{arith}
use Rattle.block_build.proofs.OnNetlist.OnStaging.{kept_begun, kept_more, kept_done}
use Rattle.block_build.proofs.netlist.stages.full_nexts.Goals as goal

pub stages-init : goal.stages-init
stages-init c = kept_begun c.args.wires.now c.args.full c.args.comes c.args.moves.now c.args.nexts.now.items

pub stages-preserved : goal.stages-preserved
stages-preserved c =
    kept_more c.args.wires.now c.stages.wires c.keep.new.wires c.args.full c.args.comes c.stages.comes c.args.moves.now c.stages.stage c.args.nexts.now.items c.stages.nexts.items c.push.new.self.items c.index-moves-stage.result c.full_at.result c.in_ok-next.next
    c.stages-test.true c.index-moves-stage.is c.full_at.ensures c.stages.invariant c.in_ok-next.ensures.signal c.in_ok-next.ensures.puts c.in_ok-push.ensures.items

pub returns : goal.returns
returns c =
    let d = kept_done c.args.wires.now c.stages.wires c.args.full c.args.comes c.stages.comes c.args.moves.now c.stages.stage c.args.nexts.now.items c.stages.nexts.items c.stages-test.false c.stages.invariant in
    record { nexts = d.nexts_are; wired = d.wired; number = d.number }
