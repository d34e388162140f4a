-- What the outside does in a row at a package's channels, of which the outer ones are a module's, in their order.
use Rattle.std.specs.Prelude.{◌≡◌, ℕ, zero, suc, ◌+◌, Bool, false, drop, slice_get, List, [], ◌∷◌, Option, Some, None}
use Rattle.xb_bits.specs.Word.{Word}
use Rattle.ir_tree.specs.declared.package.Channel.{Channel}
use Rattle.ir_tree.specs.declared.package.Ends.{Ends}
use Rattle.ir_tree.specs.declared.package.Ends.TheVariants as ends
use Rattle.vlog_tree.specs.declared.row.Drive.{Drive}
use Rattle.vlog_tree.specs.declared.row.Drive.TheVariants.{Offer, Ready}
use Rattle.vlog_tree.specs.declared.row.Row.{Row}
use Rattle.vlog_tree.specs.Rows.{data_given, valid_given, ready_given}
use Rattle.vlog_tree.specs.Value.{Values, atom_value}
use Rattle.block_build.specs.declared.netlist.fifos.ChannelEnds.{ChannelEnds}
use Rattle.block_stage.specs.Machine.Cycle.{Ports}
use Rattle.block_build.specs.Rows.{InputRow}
use Rattle.block_verilog.specs.Ports.{data_bits}

-- ---- what it does at one

abbrev pub drive_by : Ends → List Drive → Option Drive
drive_by ends.Input drives = slice_get drives 0
drive_by ends.Output drives = slice_get drives 0
drive_by (ends.Inner depth) drives = None

-- at those behind it
abbrev pub drives_behind : Ends → List Drive → List Drive
drives_behind ends.Input drives = drop 1 drives
drives_behind ends.Output drives = drop 1 drives
drives_behind (ends.Inner depth) drives = drives

-- at the channel of an index
abbrev pub drive_at : List Channel → List Drive → ℕ → Option Drive
drive_at [] drives c = None
drive_at (channel ∷ channels) drives zero = drive_by channel.ends drives
drive_at (channel ∷ channels) drives (suc c) = drive_at channels (drives_behind channel.ends drives) c

-- ---- as a row of a block

abbrev pub word_offered : Option Drive → Option Word
word_offered (Some (Offer word)) = word
word_offered (Some (Ready ready)) = None
word_offered None = None

abbrev pub room_given : Option Drive → Bool
room_given (Some (Ready ready)) = ready
room_given (Some (Offer word)) = false
room_given None = false

abbrev pub row_ports : List Channel → Row → Ports
row_ports channels row = record {
  valid_word = λ c. word_offered (drive_at channels row.channels c);
  room = λ c. room_given (drive_at channels row.channels c);
}

abbrev pub input_row : List Channel → Row → InputRow
input_row channels row = record { rst = row.reset; ports = row_ports channels row }

-- ---- what stands at the ports of a channel, the first of which has this number

-- what the outside does there
abbrev pub PortGiven : Values → Channel → Ends → ℕ → Option Drive → Type 0
PortGiven v channel ends.Input port drive =
    (word : Option Word) × (drive ≡ Some (Offer word)) × (v port ≡ data_given (data_bits channel) (Offer word)) × (v (port + 1) ≡ valid_given (Offer word))
PortGiven v channel ends.Output port drive = (ready : Bool) × (drive ≡ Some (Ready ready)) × (v (port + 2) ≡ ready_given (Ready ready))
PortGiven v channel (ends.Inner depth) port drive = Unit {0}

-- what the module drives there
abbrev pub PortDriven : Values → Ends → ℕ → ChannelEnds → Type 0
PortDriven v ends.Input port end = v (port + 2) ≡ atom_value v end.ready
PortDriven v ends.Output port end = (v port ≡ atom_value v end.word) × (v (port + 1) ≡ atom_value v end.offered)
PortDriven v (ends.Inner depth) port end = Unit {0}
