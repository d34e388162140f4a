use Rattle.std.proofs.Common.{◌≡◌, ◌++◌, drop}
use Rattle.pipe_schedule.specs.Inner.Slots.{stages_of}
use Rattle.pipe_schedule.proofs.schedule.stages_of.Given as goal

abbrev pub invariant-slots : goal.invariant-slots
invariant-slots l = l.stages.items ++ stages_of (drop l.slot-index l.slots) ≡ stages_of l.slots
