use Rattle.std.proofs.Common.{arith}
use Rattle.block_build.proofs.OnNetlist.OnStaging.{moves_begun, moves_more, moves_done}
use Rattle.block_build.proofs.netlist.stages.move_all.Goals as goal

pub stages-init : goal.stages-init
stages-init c = moves_begun c.args.wires.now c.args.full c.args.passed.now _ c.new-moves.ensures.items

pub stages-preserved : goal.stages-preserved
stages-preserved c =
    moves_more c.args.wires.now c.stages.wires c.move_one.new.wires c.args.full c.args.passed.now c.stages.i _ c.stages.behind c.stages.moves.items c.push.new.self.items c.index-passed-before.result c.in_ok-own.own c.full_at.result
    c.stages-test.true (omega (arith, c.stages-test.true)) c.index-passed-before.is c.full_at.ensures c.stages.invariant c.in_ok-own.ensures c.in_ok-push.ensures.items

pub returns : goal.returns
returns c =
    let d = moves_done c.args.wires.now c.stages.wires c.args.full c.args.passed.now c.stages.i c.stages.behind c.stages.moves.items c.reverse.new.self.items c.stages-test.false c.stages.invariant c.reverse.ensures.items in
    record { moves = d.moves_are; wired = d.wired }
