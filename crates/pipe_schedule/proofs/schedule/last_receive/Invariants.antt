use Rattle.std.proofs.Common.{◌≡◌, drop}
use Rattle.pipe_schedule.specs.Inner.Slots.{stages_of, receive_within}
use Rattle.pipe_schedule.proofs.schedule.last_receive.Given as goal

abbrev pub invariant-nodes : goal.invariant-nodes
invariant-nodes l = receive_within l.last (drop l.i l.nodes) (stages_of (drop l.i l.slots)) ≡ receive_within 0 l.nodes (stages_of l.slots)
