-- The FIFOs of inner channels: their registers, what procs find at channels, and what the registers hold next.
use Rattle.std.specs.Prelude.{◌≡◌, ℕ, suc, ◌+◌, ◌*◌, min, get_or, slice_get, length, replicate, List, [], ◌∷◌, ◌++◌, Option, Some, None, ◌<◌}
use Rattle.ir_tree.specs.declared.package.Channel.{Channel}
use Rattle.ir_tree.specs.declared.package.Ends.{Ends}
use Rattle.ir_tree.specs.declared.package.Ends.TheVariants as ends
use Rattle.vlog_tree.specs.declared.expression.Atom.{Atom}
use Rattle.vlog_tree.specs.Value.{Values}
use Rattle.block_build.specs.declared.netlist.fifos.ChannelEnds.{ChannelEnds}
use Rattle.block_build.specs.declared.netlist.fifos.ChannelView.{ChannelView}
use Rattle.block_build.specs.declared.netlist.fifos.Fifo.{Fifo}
use Rattle.block_build.specs.declared.netlist.registers.Register.{Register}
use Rattle.block_build.specs.declared.netlist.wires.WireList.{WireList}
use Rattle.block_build.specs.Netlist.Added.{AddsWires}
use Rattle.block_build.specs.Netlist.Buffers.{fifo_nets, view_at, slots_next}
use Rattle.block_build.specs.Netlist.Fifos.{count_net, count_wires, slot_wires, view_wires}
use Rattle.block_build.specs.Netlist.Gates.{net}
use Rattle.block_build.specs.Netlist.Literals.{literal_atom}
use Rattle.block_build.specs.Netlist.Registers.{zero_register, count_bits, laid_fifo}
use Rattle.block_build.specs.Netlist.Wires.{AreWired}
use Rattle.block_verilog.specs.Signals.Nodes.{number_of}
use Rattle.block_verilog.specs.Each.{EachFrom}
use Rattle.block_verilog.specs.Ports.{flat_bits}

-- ---- registers

-- those of a channel's FIFO of so many words, if it is an inner channel
abbrev pub fifo_registers : Ends → ℕ → ℕ → List Register
fifo_registers ends.Input depth width = []
fifo_registers ends.Output depth width = []
fifo_registers (ends.Inner d) depth width = zero_register (count_bits depth) ∷ replicate depth (zero_register width)

-- it, where they stand from one on
abbrev pub fifo_by : Ends → ℕ → ℕ → ℕ → Option Fifo
fifo_by ends.Input depth width k = None
fifo_by ends.Output depth width k = None
fifo_by (ends.Inner d) depth width k = Some (laid_fifo depth width k)

abbrev pub registers_at : List ℕ → ℕ → Channel → List Register
registers_at depths i channel = fifo_registers channel.ends (get_or depths i 0) (flat_bits channel)

-- of channels from an index on, by the depths of all
abbrev pub all_registers : List ℕ → ℕ → List Channel → List Register
all_registers depths i [] = []
all_registers depths i (channel ∷ channels) = registers_at depths i channel ++ all_registers depths (suc i) channels

abbrev pub fifos_from : List ℕ → ℕ → ℕ → List Channel → List (Option Fifo)
fifos_from depths i k [] = []
fifos_from depths i k (channel ∷ channels) =
    fifo_by channel.ends (get_or depths i 0) (flat_bits channel) k ∷ fifos_from depths (suc i) (k + length (registers_at depths i channel)) channels

-- ---- what is found at channels

-- at an input what stands at its ports, the first of which has this number, at an output its own
abbrev pub input_view : ℕ → ChannelView
input_view port = record { valid = net (port + 1); word = net port; room = literal_atom 1 0 }

abbrev pub output_view : ℕ → ℕ → ChannelView
output_view port width = record { valid = literal_atom 1 0; word = literal_atom width 0; room = net (port + 2) }

abbrev pub no_ends : ChannelEnds
no_ends = record { ready = literal_atom 1 0; offered = literal_atom 1 0; word = literal_atom 1 0 }

-- at an inner channel what its FIFO shows
abbrev pub IsShown : Option Fifo → ChannelView → Type 0
IsShown None view = Unit {0}
IsShown (Some fifo) view = view ≡ view_at fifo (number_of view.valid)

abbrev pub ViewIs : Ends → ℕ → ℕ → Option Fifo → ChannelView → Type 0
ViewIs ends.Input port width fifo view = view ≡ input_view port
ViewIs ends.Output port width fifo view = view ≡ output_view port width
ViewIs (ends.Inner d) port width fifo view = IsShown fifo view

-- by these values a FIFO has the wires of what it shows
abbrev pub ShownBy : Values → Option Fifo → ChannelView → Type 0
ShownBy v None view = Unit {0}
ShownBy v (Some fifo) view = AreWired v (number_of view.valid) (view_wires (fifo_nets fifo no_ends (number_of view.valid) 0))

abbrev pub ViewedBy : Values → Ends → Option Fifo → ChannelView → Type 0
ViewedBy v ends.Input fifo view = Unit {0}
ViewedBy v ends.Output fifo view = Unit {0}
ViewedBy v (ends.Inner d) fifo view = ShownBy v fifo view

-- of the channel of an index
abbrev pub IsViewOf : List Channel → List ℕ → List (Option Fifo) → ℕ → ChannelView → Type 0
IsViewOf channels ports fifos i view =
    (channel : Channel) (port : ℕ) (fifo : Option Fifo) → slice_get channels i ≡ Some channel → slice_get ports i ≡ Some port → slice_get fifos i ≡ Some fifo → ViewIs channel.ends port (flat_bits channel) fifo view

abbrev pub IsViewed : Values → List Channel → List (Option Fifo) → ℕ → ChannelView → Type 0
IsViewed v channels fifos i view = (channel : Channel) (fifo : Option Fifo) → slice_get channels i ≡ Some channel → slice_get fifos i ≡ Some fifo → ViewedBy v channel.ends fifo view

-- ---- what FIFOs hold next

-- the signals of that, the first wires of which have this number
abbrev pub next_of : Option Fifo → ChannelEnds → ℕ → List Atom
next_of None end goes = []
next_of (Some fifo) end goes = let nets = fifo_nets fifo end 0 goes in net (count_net nets) ∷ slots_next nets 0 fifo.depth

abbrev pub all_next : List (Option Fifo) → List ChannelEnds → List ℕ → List Atom
all_next [] sides goes = []
all_next (fifo ∷ fifos) [] goes = []
all_next (fifo ∷ fifos) (end ∷ sides) [] = []
all_next (fifo ∷ fifos) (end ∷ sides) (g ∷ goes) = next_of fifo end g ++ all_next fifos sides goes

-- its wires, where this is found at it
pub record FifoGoes (v : Values) (fifo : Fifo) (end : ChannelEnds) (first goes : ℕ) : Type 0 where
  pub count : AreWired v goes (count_wires (fifo_nets fifo end first goes))
  pub slots : (x : ℕ) → x < fifo.depth → AreWired v (goes + 6 + 4 * x) (slot_wires (fifo_nets fifo end first goes) x)

abbrev pub GoesBy : Values → Option Fifo → ChannelView → ChannelEnds → ℕ → Type 0
GoesBy v None view end goes = Unit {0}
GoesBy v (Some fifo) view end goes = FifoGoes v fifo end (number_of view.valid) goes

-- of the channel of an index
abbrev pub GoesAt : Values → List (Option Fifo) → List ChannelView → List ChannelEnds → ℕ → ℕ → Type 0
GoesAt v fifos views sides i goes =
    (fifo : Option Fifo) (view : ChannelView) (end : ChannelEnds) → slice_get fifos i ≡ Some fifo → slice_get views i ≡ Some view → slice_get sides i ≡ Some end → GoesBy v fifo view end goes

-- all FIFOs are shown so
abbrev pub AreShown : List (Option Fifo) → List ChannelView → Type 0
AreShown fifos views = (i : ℕ) (fifo : Option Fifo) (view : ChannelView) → slice_get fifos i ≡ Some fifo → slice_get views i ≡ Some view → IsShown fifo view

-- what their registers hold next stands on these signals, by wires from these numbers on
pub record FifosGo (a b : WireList) (fifos : List (Option Fifo)) (views : List ChannelView) (sides : List ChannelEnds) (old new : List Atom) : Type 0 where
  pub goes : List ℕ
  pub count : length goes ≡ min (min (length fifos) (length views)) (length sides)
  pub nexts : new ≡ old ++ all_next fifos sides goes
  pub wired : AddsWires a b (λ v. EachFrom (GoesAt v fifos views sides) 0 goes)
