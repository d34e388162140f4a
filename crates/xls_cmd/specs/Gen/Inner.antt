-- Contracts of private parts.
use Rattle.std.specs.Prelude.{◌≡◌, ◌≢◌, ℕ, true, List, [], None, get_or, Ok}
use Rattle.xb_bits.specs.Word.{Word}
use Rattle.xb_value.specs.Width.{width_of}
use Rattle.net_core.specs.Behavior.{Behavior}
use Rattle.net_core.specs.WellFormed.{AreWordsOf}
use Rattle.net_core.specs.declared.net.Chan.{Chan}
use Rattle.net_core.specs.declared.net.Kind.TheVariants as kinds
use Rattle.net_core.specs.declared.net.Net.{Net}
use Rattle.dslx_core.specs.declared.design.Design.{Design}
use Rattle.dslx_elab.specs.Runs.{IsAcceptedText, IsMadeOfChecked}
use Rattle.dslx_meaning.specs.Network as source
use Rattle.dslx_tree.specs.declared.item.Module.{Module}
use Rattle.ir_passes.specs.Optimised.{IsOptimised}
use Rattle.ir_tree.specs.Networks.{behaviors_of, network_of}
use Rattle.ir_tree.specs.declared.package.Package.{Package}
use Rattle.pipe_schedule.specs.Packages.{AreSchedules}
use Rattle.pipe_schedule.specs.declared.schedule.Schedule.{Schedule}
use Rattle.vlog_tree.specs.declared.module.VModule.{VModule}
use Rattle.xls_gen.specs.Feed.Feeding.{Feeds, is_feedable}
use Rattle.xls_gen.specs.Level.{level_line}
use Rattle.xls_gen.specs.declared.level.Level.{Level}
use Rattle.xls_gen.specs.declared.level.Level.TheVariants as level
use Rattle.xls_cmd.specs.Gen.Commands.{BuildsModule, TellsLevels, fed_rows, gen_demands, gen_name}
use Rattle.xls_cmd.specs.Gen.Told.{TakesItsWords, run_events, run_line}
use Rattle.xls_cmd.specs.Lowered.Commands.{LowersModule, OptimisesPackage}
use Rattle.xls_cmd.specs.Schedule.Commands.{HasSchedules}
use Rattle.xls_cmd.specs.Shared.Loads.{OfText}
use Rattle.xls_cmd.specs.Shared.Step.{Step, Then}
use Rattle.xls_cmd.specs.declared.generate.packages.PackageLines.{PackageLines}
use Rattle.xls_cmd.specs.declared.generate.running.Told.{Told}
use Rattle.xls_cmd.specs.declared.generate.source.SourceLines.{SourceLines}

-- a checked text that is made of an accepted text, whose top is the last proc
pub record IsMadeOfText (m : Module) (design : Design) : Type 0 where
  pub accepted : IsAcceptedText m None
  pub is : IsMadeOfChecked m None design

-- words such as the outside gives a channel: of its width, and none where it is no input
pub record FitsChannel (chan : Chan) (words : List Word) : Type 0 where
  pub width : AreWordsOf (width_of chan.ty) words
  pub only : chan.kind ≢ kinds.Input → words ≡ []

-- ---- what parts tell

-- of a run
pub record TellsRun (at : Level) (words : List (List Word)) (net : Net) (behaviors : List Behavior) (told : Told) : Type 0 where
  pub line : told.line.items ≡ run_line at words net behaviors
  pub events : told.events ≡ run_events words net behaviors

-- of the two runs of a network
pub record TellsNetwork (words : List (List Word)) (net : Net) (behaviors : List Behavior) (lines : SourceLines) : Type 0 where
  pub dslx : lines.dslx.items ≡ run_line level.Dslx words net behaviors
  pub threads : lines.threads.items ≡ run_line level.Threads words net behaviors

-- of a text
pub record TellsSource (m : Module) (words : List (List Word)) (lines : SourceLines) : Type 0 where
  pub takes : TakesItsWords (source.network_of m None) words
  pub tells : TellsNetwork words (source.network_of m None) (source.behaviors_of m None) lines

-- of a module, over so many rows
pub record TellsFed (design : VModule) (words : List (List Word)) (rows : ℕ) (text : List ℕ) : Type 0 where
  pub moved : List Word
  pub takes : is_feedable design 0 1 (get_or words 0 []) ≡ true
  pub feeds : Feeds design 0 1 (get_or words 0 []) rows moved
  pub is : text ≡ level_line level.Verilog moved

-- of the module of a package
pub record TellsHardware (ir : Package) (words : List (List Word)) (events : ℕ) (text : List ℕ) : Type 0 where
  pub schedules : List Schedule
  pub scheduled : AreSchedules ir.procs gen_demands schedules
  pub design : VModule
  pub built : BuildsModule ir schedules (Ok design)
  pub fed : TellsFed design words (fed_rows schedules events) text

-- of a package
pub record TellsPackage (ir : Package) (words : List (List Word)) (lines : PackageLines) : Type 0 where
  pub new : Package
  pub optimised : IsOptimised ir new
  pub lowered : lines.ir.items ≡ run_line level.Ir words (network_of ir) (behaviors_of ir)
  pub same : lines.opt.items ≡ run_line level.Opt words (network_of new) (behaviors_of new)
  pub hardware : TellsHardware new words (run_events words (network_of new) (behaviors_of new)) lines.verilog.items

-- ---- the steps behind a text, behind its package, and behind the optimised package

abbrev pub StepsOfOptimised : List (List Word) → Module → Package → Package → Step (List ℕ)
StepsOfOptimised words m ir new = Then (HasSchedules new gen_demands) (λ schedules. Then (BuildsModule new schedules) (λ design. TellsLevels m ir new schedules design words))

abbrev pub StepsOfPackage : List (List Word) → Module → Package → Step (List ℕ)
StepsOfPackage words m ir = Then (OptimisesPackage ir) (λ new. StepsOfOptimised words m ir new)

abbrev pub StepsOfModule : List (List Word) → Module → Step (List ℕ)
StepsOfModule words m = Then (OfText gen_name (LowersModule m None)) (λ ir. StepsOfPackage words m ir)
