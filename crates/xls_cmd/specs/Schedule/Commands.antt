-- The command `schedule`, read from top to bottom: the order of the steps is the order of the causes.
use Rattle.std.specs.Prelude.{◌≡◌, ℕ, List, [], ◌∷◌, Result, Ok, Err}
use Rattle.xb_io.specs.Contents.{Contents}
use Rattle.xls_cmd.specs.Shared.Fault.{Fault}
use Rattle.xls_cmd.specs.declared.shared.fault.Fault.TheVariants as fault
use Rattle.xls_cmd.specs.Shared.Step.{Step, Then, Gives}
use Rattle.xls_cmd.specs.Shared.Loads.{Loads}
use Rattle.cmd_line.specs.declared.request.Schedule.{Schedule as Said}
use Rattle.cmd_line.specs.declared.request.Timing.{Timing}
use Rattle.xls_cmd.specs.Lowered.Commands.{GivesScheduledBy}
use Rattle.ir_tree.specs.declared.package.Package.{Package}
use Rattle.pipe_schedule.specs.declared.schedule.Demands.{Demands}
use Rattle.pipe_schedule.specs.declared.schedule.Schedule.{Schedule}
use Rattle.pipe_schedule.specs.declared.schedule.NoSchedule.TheVariants.{OutOfMemory}
use Rattle.pipe_schedule.specs.declared.package.Infeasible.{Infeasible}
use Rattle.pipe_schedule.specs.Packages.{AreSchedules, IsFirstInfeasible}
use Rattle.pipe_schedule.specs.Text.Text.{schedule_text}
use Rattle.pipe_schedule.specs.Text.Infeasible.{infeasible_text}

-- the schedules of all procs; else the line of the first that has none
pub data HasSchedules (ir : Package) (demands : Demands) : Result (List Schedule) Fault → Type 0 where
  fits : (schedules : List Schedule) → AreSchedules ir.procs demands schedules → HasSchedules ir demands (Ok schedules)
  infeasible : (found : Infeasible) → IsFirstInfeasible ir.procs demands found → (found.cause ≡ OutOfMemory → ⊥) → HasSchedules ir demands (Err (fault.Infeasible (infeasible_text ir demands found)))

-- what is written of them
abbrev pub GivesSchedules : Package → Demands → Step (List ℕ)
GivesSchedules ir demands = Then (HasSchedules ir demands) (λ schedules. Gives (Ok (schedule_text ir schedules)))

-- what the words ask of schedules
abbrev pub demands_of : Timing → Demands
demands_of timing = record { clock = timing.clock; stages = timing.stages; interval = timing.interval }

-- `schedule`, once the file is loaded
abbrev pub schedule_loaded : Said (List ℕ) → List ℕ → Step (List ℕ)
schedule_loaded arguments bytes = Then (GivesScheduledBy arguments.source arguments.design arguments.top bytes) (λ ir. GivesSchedules ir (demands_of arguments.timing))

abbrev pub schedule : Contents → Said (List ℕ) → Step (List ℕ)
schedule holds arguments = Then (Loads holds arguments.design) (λ bytes. schedule_loaded arguments bytes)

-- the files that it names
abbrev pub schedule_files : Said (List ℕ) → List (List ℕ)
schedule_files arguments = arguments.design ∷ []
