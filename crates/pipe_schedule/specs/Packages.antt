-- The schedules of a package, or the first proc that has none.
use Rattle.std.specs.Prelude.{◌≡◌, ℕ, ◌<◌, List, length, slice_get, Some}
use Rattle.ir_tree.specs.declared.package.Proc.{Proc}
use Rattle.pipe_schedule.specs.declared.schedule.Demands.{Demands}
use Rattle.pipe_schedule.specs.declared.schedule.Schedule.{Schedule}
use Rattle.pipe_schedule.specs.declared.package.Infeasible.{Infeasible}
use Rattle.pipe_schedule.specs.Timed.{timed_proc}
use Rattle.pipe_schedule.specs.Answer.{IsSchedule, IsCause}

-- one for each proc, in their order
pub record AreSchedules (procs : List Proc) (demands : Demands) (schedules : List Schedule) : Type 0 where
  pub count : length schedules ≡ length procs
  pub each : (i : ℕ) (p : Proc) (s : Schedule) → slice_get procs i ≡ Some p → slice_get schedules i ≡ Some s → IsSchedule (timed_proc p) demands s

-- the procs before it have schedules, and it has none, for this cause; or memory was wanting there
pub record IsFirstInfeasible (procs : List Proc) (demands : Demands) (e : Infeasible) : Type 0 where
  pub proc : Proc
  pub there : slice_get procs e.proc ≡ Some proc
  pub cause : IsCause (timed_proc proc) demands e.cause
  pub before : (i : ℕ) (p : Proc) → i < e.proc → slice_get procs i ≡ Some p → (s : Schedule) × IsSchedule (timed_proc p) demands s
