-- The steps of the command give one thing.
use Rattle.std.proofs.Common.{◌≡◌, ℕ, List, Option, Result, Ok, Err, ap}
use Rattle.xb_io.specs.Contents.{Contents}
use Rattle.xb_span.specs.declared.read_error.ReadError.{ReadError}
use Rattle.xls_cmd.specs.declared.shared.fault.Fault.TheVariants as fault
use Rattle.xls_cmd.specs.Shared.Loads.{Loads, OfText, text_of}
use Rattle.xls_cmd.specs.Shared.Step.{Gives, IsOne}
use Rattle.xls_cmd.proofs.Lemmas.Shared.{gives_is_one, loads_is_one, of_text_is_one, then_is_one}
use Rattle.cmd_line.specs.declared.request.Schedule.{Schedule as Said}
use Rattle.cmd_line.specs.declared.request.Source.{Source}
use Rattle.cmd_line.specs.declared.request.Source.TheVariants.{Dslx, Ir}
use Rattle.xls_cmd.specs.Lowered.Commands.{GivesScheduledBy}
use Rattle.xls_cmd.specs.Ir.Commands.{ReadsPackage}
use Rattle.ir_tree.specs.declared.package.Proc.{Proc}
use Rattle.ir_tree.specs.declared.package.Package.{Package}
use Rattle.ir_text.specs.Parser.Texts.{GivesPackage}
use Rattle.pipe_schedule.specs.declared.schedule.Demands.{Demands}
use Rattle.pipe_schedule.specs.declared.schedule.Schedule.{Schedule}
use Rattle.pipe_schedule.specs.declared.schedule.NoSchedule.TheVariants.{OutOfMemory}
use Rattle.pipe_schedule.specs.declared.package.Infeasible.{Infeasible}
use Rattle.pipe_schedule.specs.Packages.{AreSchedules, IsFirstInfeasible}
use Rattle.pipe_schedule.specs.Text.Text.{schedule_text}
use Rattle.pipe_schedule.specs.Text.Infeasible.{infeasible_text}
use Rattle.xls_cmd.specs.Schedule.Commands.{GivesSchedules, HasSchedules, fits, infeasible, demands_of, schedule, schedule_loaded}

-- the laws below
pub record TheLaws : Type 0 where
  pub read : (text : List ℕ) (a b : Result Package ReadError) → GivesPackage text a → GivesPackage text b → a ≡ b
  pub list : (procs : List Proc) (demands : Demands) (a b : List Schedule) → AreSchedules procs demands a → AreSchedules procs demands b → a ≡ b
  pub first : (procs : List Proc) (demands : Demands) (e f : Infeasible) → IsFirstInfeasible procs demands e → IsFirstInfeasible procs demands f → (e.cause ≡ OutOfMemory → ⊥) → (f.cause ≡ OutOfMemory → ⊥) → e ≡ f
  pub either : (procs : List Proc) (demands : Demands) (schedules : List Schedule) (e : Infeasible) → AreSchedules procs demands schedules → IsFirstInfeasible procs demands e → e.cause ≡ OutOfMemory

package_is_one : TheLaws → (name bytes : List ℕ) → IsOne (ReadsPackage name bytes)
package_is_one laws name bytes =
    then_is_one (Gives (text_of name bytes)) (λ text. OfText name (GivesPackage text)) (gives_is_one (text_of name bytes)) (λ text. of_text_is_one name (GivesPackage text) (laws.read text))

pub schedules_are_one : TheLaws → (ir : Package) (demands : Demands) → IsOne (HasSchedules ir demands)
schedules_are_one laws ir demands a b (fits x is) (fits y also) = ap Ok (laws.list ir.procs demands x y is also)
schedules_are_one laws ir demands a b (fits x is) (infeasible f also some) = absurd (some (laws.either ir.procs demands x f is also))
schedules_are_one laws ir demands a b (infeasible e is some) (fits y also) = absurd (some (laws.either ir.procs demands y e also is))
schedules_are_one laws ir demands a b (infeasible e is some) (infeasible f also more) =
    ap (λ (x : Infeasible). Err (fault.Infeasible (infeasible_text ir demands x))) (laws.first ir.procs demands e f is also some more)

texts_are_one : TheLaws → (ir : Package) (demands : Demands) → IsOne (GivesSchedules ir demands)
texts_are_one laws ir demands =
    then_is_one (HasSchedules ir demands) (λ schedules. Gives (Ok (schedule_text ir schedules))) (schedules_are_one laws ir demands) (λ schedules. gives_is_one (Ok (schedule_text ir schedules)))

pub scheduled_is_one : TheLaws → (source : Source) (name : List ℕ) (top : Option (List ℕ)) (bytes : List ℕ) → source ≡ Ir → IsOne (GivesScheduledBy source name top bytes)
scheduled_is_one laws Dslx name top bytes is = absurd (cc)
scheduled_is_one laws Ir name top bytes is = package_is_one laws name bytes

loaded_is_one : TheLaws → (arguments : Said (List ℕ)) (bytes : List ℕ) → arguments.source ≡ Ir → IsOne (schedule_loaded arguments bytes)
loaded_is_one laws arguments bytes is =
    then_is_one (GivesScheduledBy arguments.source arguments.design arguments.top bytes) (λ ir. GivesSchedules ir (demands_of arguments.timing)) (scheduled_is_one laws arguments.source arguments.design arguments.top bytes is)
    (λ ir. texts_are_one laws ir (demands_of arguments.timing))

pub schedule_is_one : TheLaws → (holds : Contents) (arguments : Said (List ℕ)) → arguments.source ≡ Ir → IsOne (schedule holds arguments)
schedule_is_one laws holds arguments is =
    then_is_one (Loads holds arguments.design) (λ bytes. schedule_loaded arguments bytes) (loads_is_one holds arguments.design) (λ bytes. loaded_is_one laws arguments bytes is)
