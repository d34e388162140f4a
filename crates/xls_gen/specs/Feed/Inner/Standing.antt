-- Where a feeder stands between two rows.
use Rattle.std.specs.Prelude.{◌≡◌, ℕ, suc, List, length, true, Option, None}
use Rattle.xb_bits.specs.Word.{Word}
use Rattle.vlog_tree.specs.declared.module.Direction.{Direction}
use Rattle.vlog_tree.specs.declared.module.Direction.TheVariants.{Input, Output}
use Rattle.vlog_tree.specs.declared.module.VModule.{VModule}
use Rattle.vlog_tree.specs.declared.row.Drive.{Drive}
use Rattle.vlog_tree.specs.declared.row.Drive.TheVariants.{Offer, Ready}
use Rattle.vlog_tree.specs.declared.row.Outs.{Outs}
use Rattle.vlog_tree.specs.declared.row.Row.{Row}
use Rattle.vlog_tree.specs.Signals.{channels_of}
use Rattle.cycle_sim.specs.Sim.{StandsAfter}
use Rattle.xls_gen.specs.declared.feed.feeder.Feeder.{Feeder}
use Rattle.xls_gen.specs.Feed.Feeding.{AreFedRows, ShowsOnly, feeding_drives, moved_through}

-- a channel at which no word is offered
abbrev pub idle_drive : Direction → Drive
idle_drive Input = Offer None
idle_drive Output = Ready true

-- the feeder has fed its module for so many rows, the first one counted
pub record HasFed (m : VModule) (input output : ℕ) (words : List Word) (feeder : Feeder) (count : ℕ) : Type 0 where
  pub rows : List Row
  pub outs : List Outs
  pub design_is : feeder.sim.design ≡ m
  pub stands : StandsAfter feeder.sim rows outs
  pub size : length rows ≡ count
  pub shown : length outs ≡ length rows
  pub fed : AreFedRows m input words rows outs
  pub only : ShowsOnly m rows outs
  pub offered : Option Word
  pub row_is : feeder.row.channels ≡ feeding_drives input offered (channels_of m)
  pub taken_is : feeder.taken ≡ length (moved_through m input rows outs)
  pub given_is : feeder.given ≡ moved_through m output rows outs

-- behind the row that resets, one more row leaves the feeder as it is. So does any number of rows
abbrev pub IsAtRest : ℕ → ℕ → List Word → Feeder → Type 0
IsAtRest input output words feeder = (m : VModule) (n : ℕ) → HasFed m input output words feeder (suc n) → HasFed m input output words feeder (suc (suc n))
