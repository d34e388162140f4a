use Rattle.std.proofs.Common.{◌≡◌, max, drop}
use Rattle.pipe_schedule.specs.Legal.{greatest}
use Rattle.pipe_schedule.specs.Inner.Slots.{stages_of}
use Rattle.pipe_schedule.proofs.schedule.last_stage.Given as goal

abbrev pub invariant-slots : goal.invariant-slots
invariant-slots l = max l.last (greatest (stages_of (drop l.slot-index l.slots))) ≡ greatest (stages_of l.slots)
