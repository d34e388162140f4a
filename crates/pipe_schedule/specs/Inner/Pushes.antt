-- One schedule more.
use Rattle.std.specs.Prelude.{◌≡◌, List, [], ◌∷◌, ◌++◌}
use Rattle.pipe_schedule.specs.declared.schedule.Demands.{Demands}
use Rattle.pipe_schedule.specs.declared.schedule.Schedule.{Schedule}
use Rattle.pipe_schedule.specs.Timed.{TimedProc}
use Rattle.pipe_schedule.specs.Answer.{IsSchedule}

-- the list has the schedule of the proc behind those that it had
pub record AddsSchedule (p : TimedProc) (demands : Demands) (old new : List Schedule) : Type 0 where
  pub schedule : Schedule
  pub is : IsSchedule p demands schedule
  pub added : new ≡ old ++ schedule ∷ []
