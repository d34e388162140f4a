-- What goes through the ports of a package's module over rows, beside what the package's network sends.
use Rattle.std.specs.Prelude.{◌≡◌, ℕ, zero, suc, true, List, [], ◌∷◌, ◌++◌, length, get_or, slice_get, Some, if◌then◌else◌}
use Rattle.std.specs.List.{list_any}
use Rattle.base.specs.Lists.Prefix.{IsPrefix}
use Rattle.xb_bits.specs.Word.{Word}
use Rattle.net_core.specs.Cuts.{Run, words_at, received_at, unbounded_cut}
use Rattle.net_core.specs.WellFormed.{run_of}
use Rattle.ir_tree.specs.declared.package.Channel.{Channel}
use Rattle.ir_tree.specs.declared.package.Ends.{Ends}
use Rattle.ir_tree.specs.declared.package.Ends.TheVariants as ends
use Rattle.ir_tree.specs.declared.package.Package.{Package}
use Rattle.ir_tree.specs.Networks.{network_of, behaviors_of}
use Rattle.ir_tree.specs.Rules.Verified.{IsVerified}
use Rattle.vlog_tree.specs.declared.module.VModule.{VModule}
use Rattle.vlog_tree.specs.declared.row.Outs.{Outs}
use Rattle.vlog_tree.specs.declared.row.Row.{Row}
use Rattle.cycle_sim.specs.Cycles.CycleText.{moved_over, none_moved}
use Rattle.block_verilog.specs.Schedule.Pipelines.{AreLegal}
use Rattle.block_verilog.specs.Modules.{IsModuleOf}

-- a module of a verified package, with a legal schedule for each proc and a depth for each channel
pub record IsHardwareOf (m : VModule) (ir : Package) (schedules : List (List ℕ)) (depths : List ℕ) : Type 0 where
  pub clock : ℕ
  pub verified : IsVerified ir
  pub legal : AreLegal clock ir.procs schedules
  pub made : IsModuleOf m ir schedules depths

-- ---- rows

-- some row resets
abbrev pub SomeResets : List Row → Type 0
SomeResets rows = list_any (λ (row : Row). row.reset) rows ≡ true

-- the rows behind the last that resets, or behind these where none does
abbrev pub rows_since : List Row → List Row → List Row
rows_since before [] = before
rows_since before (row ∷ more) = rows_since (if row.reset then [] else before ++ row ∷ []) more

-- ---- channels

-- a module has the outer channels of its package alone, in their order: where among them the channel of an index stands
abbrev pub behind : Ends → ℕ → ℕ
behind ends.Input place = suc place
behind ends.Output place = suc place
behind (ends.Inner depth) place = place

abbrev pub place_of : List Channel → ℕ → ℕ
place_of channels zero = 0
place_of [] (suc c) = 0
place_of (channel ∷ channels) (suc c) = behind channel.ends (place_of channels c)

-- the words that went through a channel since the last reset, as a simulation counts them
abbrev pub words_moved : VModule → List Channel → List Row → List Outs → ℕ → List Word
words_moved m channels rows outs c = get_or (moved_over rows outs (none_moved m)) (place_of channels c) []

-- ---- the package's network

-- what a run of a package is, over these words of its channels
abbrev pub package_run : Package → List (List Word) → ℕ → List ℕ → Run
package_run ir inputs activations depths = run_of (network_of ir) (behaviors_of ir) inputs activations depths

-- the words of the inputs, by the index of each channel; the others have none from outside
abbrev pub words_given : Ends → List Word → List Word
words_given ends.Input words = words
words_given ends.Output words = []
words_given (ends.Inner depth) words = []

abbrev pub inputs_from : ℕ → List Channel → (ℕ → List Word) → List (List Word)
inputs_from c [] words = []
inputs_from c (channel ∷ channels) words = words_given channel.ends (words c) ∷ inputs_from (suc c) channels words

-- where these words moved at a module's channels: the network runs over those of the inputs, each proc for so many activations and each
-- channel without a bound, whatever its depth. Then each output has moved a prefix of its words there, and each input those that it
-- received there
pub record MovesItsWords (ir : Package) (activations : ℕ) (depths : List ℕ) (moved : ℕ → List Word) : Type 0 where
  pub outputs : (c : ℕ) (channel : Channel) → slice_get ir.channels c ≡ Some channel → channel.ends ≡ ends.Output
      → let run = package_run ir (inputs_from 0 ir.channels moved) activations depths in
      IsPrefix (moved c) (words_at run (unbounded_cut run) c)
  pub inputs : (c : ℕ) (channel : Channel) → slice_get ir.channels c ≡ Some channel → channel.ends ≡ ends.Input
      → let run = package_run ir (inputs_from 0 ir.channels moved) activations depths in
      (words_at run (unbounded_cut run) c ≡ moved c) × (received_at run (unbounded_cut run) c ≡ length (moved c))
