-- The command `gen`, read from top to bottom: the order of the steps is the order of the causes.
use Rattle.std.specs.Prelude.{◌≡◌, ℕ, true, ◌+◌, ◌*◌, ◌++◌, List, [], ◌∷◌, None, get_or, codes, max, Result, Ok, Err}
use Rattle.xb_bits.specs.Word.{Word}
use Rattle.xb_span.specs.declared.limit.Limit.{Limit}
use Rattle.xb_span.specs.declared.read_error.ReadError.TheVariants.{Over}
use Rattle.cmd_line.specs.declared.request.Gen.{Gen}
use Rattle.dslx_meaning.specs.Network as source
use Rattle.dslx_tree.specs.declared.item.Module.{Module}
use Rattle.ir_tree.specs.Networks.{behaviors_of, network_of}
use Rattle.ir_tree.specs.declared.package.Package.{Package}
use Rattle.pipe_schedule.specs.declared.schedule.Demands.{Demands}
use Rattle.pipe_schedule.specs.declared.schedule.Schedule.{Schedule}
use Rattle.vlog_tree.specs.declared.module.VModule.{VModule}
use Rattle.block_verilog.specs.Modules.{IsFirstTooDeep, IsModuleOf, NoneTooDeep}
use Rattle.block_verilog.specs.Texts.{stages_of}
use Rattle.xls_gen.specs.Design.Text.{design_text}
use Rattle.xls_gen.specs.Design.Words.{design_words}
use Rattle.xls_gen.specs.Feed.Feeding.{Feeds, is_feedable}
use Rattle.xls_gen.specs.Level.{level_line}
use Rattle.xls_gen.specs.declared.level.Level.TheVariants as level
use Rattle.xls_cmd.specs.Design.Commands.{ReadsModule}
use Rattle.xls_cmd.specs.Design.Written.{depths_by}
use Rattle.xls_cmd.specs.Gen.Told.{TakesItsWords, run_events, run_line}
use Rattle.xls_cmd.specs.Lowered.Commands.{LowersModule, OptimisesPackage}
use Rattle.xls_cmd.specs.Schedule.Commands.{HasSchedules}
use Rattle.xls_cmd.specs.Shared.Fault.{Fault}
use Rattle.xls_cmd.specs.Shared.Loads.{OfText}
use Rattle.xls_cmd.specs.Shared.Step.{Step, Then}
use Rattle.xls_cmd.specs.declared.shared.fault.Fault.TheVariants.{Text}

-- ---- the steps

-- the file that a line names
abbrev pub gen_name : List ℕ
gen_name = codes "gen"

-- what schedules must keep to
abbrev pub gen_demands : Demands
gen_demands = record { clock = 1000; stages = 64; interval = 64 }

-- The module of a package with these schedules, whose FIFOs are as deep as its channels, where none is too deep; else the limit that the first such
-- one passes.
pub data BuildsModule (ir : Package) (schedules : List Schedule) : Result VModule Fault → Type 0 where
  builds : (design : VModule) → NoneTooDeep ir.channels (depths_by None (network_of ir)) → IsModuleOf design ir (stages_of schedules) (depths_by None (network_of ir)) → BuildsModule ir schedules (Ok design)
  too_deep : (limit : Limit) → IsFirstTooDeep ir.channels (depths_by None (network_of ir)) limit → BuildsModule ir schedules (Err (Text gen_name (Over limit)))

-- the greatest number of stages, 0 where there is no proc
abbrev pub most_stages : List Schedule → ℕ
most_stages [] = 0
most_stages (schedule ∷ schedules) = max schedule.stages (most_stages schedules)

-- for how many rows behind the one that resets the module is fed, by the events of the package's run
abbrev pub fed_rows : List Schedule → ℕ → ℕ
fed_rows schedules events = (max (most_stages schedules) 1 + 2) * (events + 1)

-- The line of each level: what the text sends on `b`, its package, the optimised package, the text again, by several threads; and what moves at the
-- module's output while it is fed the words of `a`.
pub data TellsLevels (m : Module) (ir new : Package) (schedules : List Schedule) (design : VModule) (words : List (List Word)) : Result (List ℕ) Fault → Type 0 where
  levels : (moved : List Word) → TakesItsWords (source.network_of m None) words
      → is_feedable design 0 1 (get_or words 0 []) ≡ true → Feeds design 0 1 (get_or words 0 []) (fed_rows schedules (run_events words (network_of new) (behaviors_of new))) moved
      → TellsLevels m ir new schedules design words
      (Ok (run_line level.Dslx words (source.network_of m None) (source.behaviors_of m None)
      ++ run_line level.Ir words (network_of ir) (behaviors_of ir)
      ++ run_line level.Opt words (network_of new) (behaviors_of new)
      ++ run_line level.Threads words (source.network_of m None) (source.behaviors_of m None)
      ++ level_line level.Verilog moved))

-- ---- the command

abbrev pub gen : Gen → Step (List ℕ)
gen arguments =
    Then (ReadsModule gen_name None (design_text arguments.seed arguments.procs)) (λ m.
    Then (OfText gen_name (LowersModule m None)) (λ ir.
    Then (OptimisesPackage ir) (λ new.
    Then (HasSchedules new gen_demands) (λ schedules.
    Then (BuildsModule new schedules) (λ design.
    TellsLevels m ir new schedules design (design_words arguments.procs))))))
