-- The command `verilog`, read from top to bottom: the order of the steps is the order of the causes.
use Rattle.std.specs.Prelude.{ℕ, List, [], ◌∷◌, Result, Ok, Err}
use Rattle.xb_io.specs.Contents.{Contents}
use Rattle.xb_span.specs.declared.limit.Limit.{Limit}
use Rattle.xb_span.specs.declared.read_error.ReadError.TheVariants.{Over}
use Rattle.xls_cmd.specs.Shared.Fault.{Fault}
use Rattle.xls_cmd.specs.declared.shared.fault.Fault.TheVariants.{Text}
use Rattle.xls_cmd.specs.Shared.Step.{Step, Then}
use Rattle.xls_cmd.specs.Shared.Loads.{Loads}
use Rattle.cmd_line.specs.declared.request.Verilog.{Verilog}
use Rattle.xls_cmd.specs.Design.Written.{depths_by}
use Rattle.xls_cmd.specs.Lowered.Commands.{GivesScheduledBy}
use Rattle.xls_cmd.specs.Schedule.Commands.{HasSchedules, demands_of}
use Rattle.ir_tree.specs.declared.package.Package.{Package}
use Rattle.ir_tree.specs.Networks.{network_of}
use Rattle.pipe_schedule.specs.declared.schedule.Schedule.{Schedule}
use Rattle.block_verilog.specs.Modules.{IsFirstTooDeep, NoneTooDeep}
use Rattle.block_verilog.specs.Texts.{IsVerilogOf}

-- the text of a package's module with these schedules, where no FIFO is too deep; else the limit that the first such one passes, in this file
pub data PrintsModule (name : List ℕ) (ir : Package) (depths : List ℕ) (schedules : List Schedule) : Result (List ℕ) Fault → Type 0 where
  prints : (text : List ℕ) → NoneTooDeep ir.channels depths → IsVerilogOf ir schedules depths text → PrintsModule name ir depths schedules (Ok text)
  too_deep : (limit : Limit) → IsFirstTooDeep ir.channels depths limit → PrintsModule name ir depths schedules (Err (Text name (Over limit)))

-- of a package: its schedules come before its FIFOs, whose depths are those of a run
abbrev pub GivesVerilog : Verilog (List ℕ) → Package → Step (List ℕ)
GivesVerilog arguments ir =
    Then (HasSchedules ir (demands_of arguments.timing)) (λ schedules. PrintsModule arguments.design ir (depths_by arguments.depth (network_of ir)) schedules)

-- `verilog`, once the file is loaded: the package of a design is optimised, that of an IR text is taken as it is
abbrev pub verilog_loaded : Verilog (List ℕ) → List ℕ → Step (List ℕ)
verilog_loaded arguments bytes = Then (GivesScheduledBy arguments.source arguments.design arguments.top bytes) (λ ir. GivesVerilog arguments ir)

abbrev pub verilog : Contents → Verilog (List ℕ) → Step (List ℕ)
verilog holds arguments = Then (Loads holds arguments.design) (λ bytes. verilog_loaded arguments bytes)

-- the file that it names
abbrev pub verilog_files : Verilog (List ℕ) → List (List ℕ)
verilog_files arguments = arguments.design ∷ []
