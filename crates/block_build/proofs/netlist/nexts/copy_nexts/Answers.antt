use Rattle.std.proofs.Common.{◌-◌, length}
use Rattle.block_build.specs.Netlist.Added.{next_number}
use Rattle.block_build.specs.Netlist.Leaves.{nets}
use Rattle.block_build.specs.Netlist.Nexts.{copies_wires}
use Rattle.block_build.proofs.OnNetlist.OnNexts.{nothing_left, copies_more, copies_done}
use Rattle.block_build.proofs.netlist.nexts.copy_nexts.Goals as goal

pub stages-init : goal.stages-init
stages-init c =
    let whole = copies_wires c.args.widths.now c.args.place.now c.args.moves.now c.args.place.now.stage (c.args.last - c.args.place.now.stage) in
    nothing_left c.args.wires.now whole c.args.nexts.now.items (nets (next_number c.args.wires.now) (length whole))

pub stages-preserved : goal.stages-preserved
stages-preserved c =
    copies_more c.args.wires.now c.stages.wires c.copy_next.new.wires c.args.widths.now c.args.place.now c.args.moves.now c.args.last c.stages.stage c.args.nexts.now.items c.stages.nexts.items c.copy_next.new.nexts.items c.move_at.result
    c.stages-test.true c.move_at.ensures c.stages.invariant c.in_ok-copy_next.ensures.nexts c.in_ok-copy_next.ensures.puts

pub returns : goal.returns
returns c =
    let d = copies_done c.args.wires.now c.stages.wires c.args.widths.now c.args.place.now c.args.moves.now c.args.last c.stages.stage c.args.nexts.now.items c.stages.nexts.items c.stages-test.false c.stages.invariant in
    record { nexts = d.0; puts = d.1 }
