use Rattle.block_build.proofs.OnNetlist.OnBuffers.{slots_begun, slots_more, slots_wired}
use Rattle.block_build.proofs.netlist.fifos.Fifo.go_on.Goals as goal

pub slots-init : goal.slots-init
slots-init c =
    slots_begun c.args.wires.now c.flow.new.wires c.args.self.now c.args.view c.args.ends c.in_ok-flow.flow c.args.nexts.now.items c.push.new.self.items c.in_ok-flow.ensures.signals c.in_ok-flow.ensures.puts c.in_ok-push.ensures.items c.in_ok-flow.ensures.number

pub slots-preserved : goal.slots-preserved
slots-preserved c =
    slots_more c.args.wires.now c.slots.wires c.slot_next.new.wires c.args.self.now c.args.view c.args.ends c.slots.x c.args.nexts.now.items c.slots.nexts.items c.push-in-slots.new.self.items c.in_ok-next.next c.in_ok-flow.flow
    c.slots-test.true c.in_ok-flow.ensures.signals c.slots.invariant c.in_ok-next.ensures.signal c.in_ok-next.ensures.puts c.in_ok-push-2.ensures.items

pub returns-clause-wired : goal.returns-clause-wired
returns-clause-wired c =
    slots_wired c.args.wires.now c.slots.wires c.args.self.now c.args.view c.args.ends c.slots.x c.args.nexts.now.items c.slots.nexts.items c.slots-test.false c.slots.invariant
