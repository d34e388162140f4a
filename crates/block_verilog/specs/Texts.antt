-- The Verilog text of a package.
use Rattle.std.specs.Prelude.{◌≡◌, ◌<◌, ◌^◌, ℕ, List, length, map, Ok}
use Rattle.ir_tree.specs.declared.package.Package.{Package}
use Rattle.pipe_schedule.specs.declared.schedule.Schedule.{Schedule}
use Rattle.vlog_tree.specs.declared.module.VModule.{VModule}
use Rattle.vlog_text.specs.Printer.ModuleText.{module_text}
use Rattle.vlog_text.specs.Reader.Given.{GivesModule}
use Rattle.block_verilog.specs.Modules.{IsModuleOf}

-- the stage of each node, proc by proc
abbrev pub stages_of : List Schedule → List (List ℕ)
stages_of schedules = map (λ (schedule : Schedule). schedule.stage) schedules

-- the printed text of the package's module with these schedules and depths, as which it reads where it is shorter than 2^32 bytes
pub record IsVerilogOf (ir : Package) (schedules : List Schedule) (depths : List ℕ) (text : List ℕ) : Type 0 where
  pub design : VModule
  pub is : IsModuleOf design ir (stages_of schedules) depths
  pub printed : text ≡ module_text design
  pub reads : length text < 2 ^ 32 → GivesModule text (Ok design)
