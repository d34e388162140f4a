-- What a module does over a list of rows, one a cycle: what it shows, and which words are transferred.
use Rattle.std.specs.Prelude.{◌≡◌, ℕ, zero, suc, ◌+◌, ◌*◌, List, [], ◌∷◌, ◌++◌, length, Bool, true, false, slice_get, Option, Some, None, option_map, unwrap_or, ◌==◌, not, if◌then◌else◌}
use Rattle.xb_bits.specs.Word.{Word, word}
use Rattle.vlog_tree.specs.declared.module.VModule.{VModule}
use Rattle.vlog_tree.specs.declared.module.Direction.{Direction}
use Rattle.vlog_tree.specs.declared.module.Direction.TheVariants.{Input, Output}
use Rattle.vlog_tree.specs.declared.row.Row.{Row}
use Rattle.vlog_tree.specs.declared.row.Outs.{Outs}
use Rattle.vlog_tree.specs.declared.row.Drive.{Drive}
use Rattle.vlog_tree.specs.declared.row.Drive.TheVariants.{Offer, Ready}
use Rattle.vlog_tree.specs.declared.row.Shown.{Shown}
use Rattle.vlog_tree.specs.declared.row.Shown.TheVariants as shown
use Rattle.vlog_tree.specs.Signals.{Declared, Channel, channels_of, signals}
use Rattle.vlog_tree.specs.Value.{Values, bit}
use Rattle.vlog_tree.specs.Meaning.{IsNow, registers_next}

-- what the outside gives at the three ports of a channel; 0 where it gives nothing
abbrev pub data_given : ℕ → Drive → Word
data_given width (Offer (Some w)) = w
data_given width (Offer None) = word width 0
data_given width (Ready _) = word width 0

abbrev pub valid_given : Drive → Word
valid_given (Offer (Some _)) = bit true
valid_given _ = bit false

abbrev pub ready_given : Drive → Word
ready_given (Ready ready) = bit ready
ready_given _ = bit false

-- what the outside gives at the ports of these channels, the first of which is number 0
abbrev pub given_at : List Channel → List Drive → Values
given_at (channel ∷ channels) (drive ∷ drives) zero = data_given channel.width drive
given_at (channel ∷ channels) (drive ∷ drives) (suc zero) = valid_given drive
given_at (channel ∷ channels) (drive ∷ drives) (suc (suc zero)) = ready_given drive
given_at (channel ∷ channels) (drive ∷ drives) (suc (suc (suc k))) = given_at channels drives k
given_at _ _ k = bit false

-- what the outside gives in a cycle: `rst` by the row, then the channels' ports; `clk`, which nothing reads, is 0
abbrev pub given : VModule → Row → Values
given m row zero = bit false
given m row (suc zero) = bit row.reset
given m row (suc (suc k)) = given_at (channels_of m) row.channels k

-- the outside drives each channel by its direction, with words of its width
abbrev pub IsDriveOf : Channel → Drive → Type 0
IsDriveOf channel (Offer None) = channel.direction ≡ Input
IsDriveOf channel (Offer (Some w)) = (channel.direction ≡ Input) × (w.width ≡ channel.width)
IsDriveOf channel (Ready _) = channel.direction ≡ Output

abbrev pub AreDrivesOf : List Channel → List Drive → Type 0
AreDrivesOf [] [] = Unit {0}
AreDrivesOf (channel ∷ channels) (drive ∷ drives) = IsDriveOf channel drive × AreDrivesOf channels drives
AreDrivesOf _ _ = ⊥

abbrev pub IsRowOf : VModule → Row → Type 0
IsRowOf m row = AreDrivesOf (channels_of m) row.channels

-- what a module with these values drives at its channels, the first of whose ports is signal `at`
abbrev pub is_one : Word → Bool
is_one w = not (w.value == 0)

abbrev pub shown_channel : Values → ℕ → Direction → Shown
shown_channel values at Input = shown.Input (is_one (values (at + 2)))
shown_channel values at Output = shown.Output (values at) (is_one (values (at + 1)))

abbrev pub shown_at : Values → ℕ → List Channel → List Shown
shown_at values at [] = []
shown_at values at (channel ∷ channels) = shown_channel values at channel.direction ∷ shown_at values (at + 3) channels

abbrev pub outs_of : VModule → Values → Outs
outs_of m values = record { channels = shown_at values 2 (channels_of m) }

-- the word that is transferred at a channel in a row without reset: `vld` and `rdy` are both 1
abbrev pub transferred : Drive → Shown → Option Word
transferred (Offer offered) (shown.Input true) = offered
transferred (Ready true) (shown.Output w true) = Some w
transferred _ _ = None

-- each register holds 0 before the first row
abbrev pub zeros : VModule → Values
zeros m s = word (unwrap_or (option_map (λ d. d.width) (slice_get (signals m) s)) 1) 0

-- over these rows the module shows this, one for each, and its registers then hold these
pub data Runs (m : VModule) : List Row → List Outs → Values → Type 0 where
  start : Runs m [] [] (zeros m)
  cycle : (rows : List Row) (outs : List Outs) (held values : Values) (row : Row) → Runs m rows outs held
      → IsNow m held (given m row) values
      → Runs m (rows ++ row ∷ []) (outs ++ outs_of m values ∷ []) (registers_next m values held)
