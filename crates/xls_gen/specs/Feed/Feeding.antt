-- A module that is fed with words at one input, and the words that it gives at one output.
--
-- By hand: an input `in` and an output `out`, words 5, 6, 7, and a module that takes a word in each second row behind the one that
-- resets, and gives it in the row behind.
--   row 0: reset, 5 is offered. Nothing goes through.
--   row 1: 5 is offered, and taken.
--   row 2: 6 is offered, and not taken; 5 goes out.
--   row 3: 6 is offered, and taken.
-- So after three rows behind the first the module has given 5.
use Rattle.std.specs.Prelude.{◌≡◌, ◌==◌, ◌&&◌, ◌<◌, ℕ, suc, Bool, false, true, List, [], length, take, get_or, slice_get, Option, Some, None, if◌then◌else◌}
use Rattle.std.specs.List.{list_all}
use Rattle.base.specs.Lists.Indexed.{indexed}
use Rattle.xb_bits.specs.Word.{Word}
use Rattle.vlog_tree.specs.declared.module.Direction.{Direction}
use Rattle.vlog_tree.specs.declared.module.Direction.TheVariants.{Input, Output}
use Rattle.vlog_tree.specs.declared.module.VModule.{VModule}
use Rattle.vlog_tree.specs.declared.row.Drive.{Drive}
use Rattle.vlog_tree.specs.declared.row.Drive.TheVariants.{Offer, Ready}
use Rattle.vlog_tree.specs.declared.row.Outs.{Outs}
use Rattle.vlog_tree.specs.declared.row.Row.{Row}
use Rattle.vlog_tree.specs.Rows.{Runs}
use Rattle.vlog_tree.specs.Signals.{Channel, channels_of}
use Rattle.vlog_tree.specs.Value.{Values}
use Rattle.cycle_sim.specs.Cycles.CycleText.{moved_over, none_moved}
use Rattle.cycle_sim.specs.Rows.Said.{directed, is_direction}

-- ---- what can be fed

-- an input is there, and these are words of its width
abbrev pub takes_words : Option Channel → List Word → Bool
takes_words None words = false
takes_words (Some channel) words = is_direction Input channel.direction && list_all (λ (w : Word). w.width == channel.width) words

-- the channel `input` takes these words, and the channel `output` is an output
abbrev pub is_feedable : VModule → ℕ → ℕ → List Word → Bool
is_feedable m input output words = takes_words (slice_get (channels_of m) input) words && directed Output (slice_get (channels_of m) output)

-- ---- what the outside does in a row

-- at a channel: it offers this word, or nothing, at one input and nothing at the others, and is ready at each output
abbrev pub feeding_drive : ℕ → Option Word → ℕ → Direction → Drive
feeding_drive input offered c Output = Ready true
feeding_drive input offered c Input = Offer (if c == input then offered else None)

abbrev pub feeding_drives : ℕ → Option Word → List Channel → List Drive
feeding_drives input offered channels = indexed (λ (c : ℕ) (channel : Channel). feeding_drive input offered c channel.direction) 0 channels

abbrev pub feeding_row : VModule → ℕ → Bool → Option Word → Row
feeding_row m input reset offered = record { reset = reset; channels = feeding_drives input offered (channels_of m) }

-- ---- rows

-- the words that went through a channel over rows, over which the module has shown this, since the last row with reset
abbrev pub moved_through : VModule → ℕ → List Row → List Outs → List Word
moved_through m channel rows outs = get_or (moved_over rows outs (none_moved m)) channel []

-- the row that comes behind so many rows, over which the module has shown this: the first row resets, and no other, and each offers
-- the first word that wasn't taken in the rows before it, and nothing once all were
abbrev pub row_behind : VModule → ℕ → List Word → ℕ → List Row → List Outs → Row
row_behind m input words k rows outs = feeding_row m input (k == 0) (slice_get words (length (moved_through m input rows outs)))

-- each row is the one that comes behind those before it
abbrev pub AreFedRows : VModule → ℕ → List Word → List Row → List Outs → Type 0
AreFedRows m input words rows outs = (k : ℕ) → k < length rows → slice_get rows k ≡ Some (row_behind m input words k (take k rows) (take k outs))

-- over the rows up to any of these the module can show nothing else
abbrev pub ShowsOnly : VModule → List Row → List Outs → Type 0
ShowsOnly m rows outs = (k : ℕ) (shown : List Outs) (held : Values) → Runs m (take k rows) shown held → shown ≡ take k outs

-- a module that is fed with these words, for so many rows behind the first, gives this at an output
pub record Feeds (m : VModule) (input output : ℕ) (words : List Word) (count : ℕ) (given : List Word) : Type 0 where
  pub rows : List Row
  pub outs : List Outs
  pub held : Values
  pub runs : Runs m rows outs held
  pub size : length rows ≡ suc count
  pub fed : AreFedRows m input words rows outs
  pub only : ShowsOnly m rows outs
  pub given_is : given ≡ moved_through m output rows outs

-- a drive that offers a word offers one of these
abbrev pub OffersAmong : List Word → Drive → Type 0
OffersAmong words (Offer (Some w)) = (i : ℕ) × (slice_get words i ≡ Some w)
OffersAmong words (Offer None) = Unit {0}
OffersAmong words (Ready ready) = Unit {0}
