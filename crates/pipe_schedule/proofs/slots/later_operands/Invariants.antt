use Rattle.std.proofs.Common.{◌≡◌, drop}
use Rattle.pipe_schedule.specs.Timed.{nodes_among}
use Rattle.pipe_schedule.specs.Inner.Slots.{latest}
use Rattle.pipe_schedule.proofs.slots.later_operands.Given as goal

abbrev pub invariant-operands : goal.invariant-operands
invariant-operands l = latest l.slots l.at (nodes_among (drop l.operand-index l.operands)) ≡ latest l.slots l.fn.start (nodes_among l.operands)
