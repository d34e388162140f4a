-- The parts of a package's netlist: those of its procs, its FIFOs, what procs find at channels, and what stands at their ends.
use Rattle.std.specs.Prelude.{◌≡◌, ℕ, suc, ◌+◌, ◌≤◌, get_or, slice_get, length, map, List, [], ◌∷◌, ◌++◌, Option, Some, None}
use Rattle.ir_tree.specs.declared.package.Channel.{Channel}
use Rattle.ir_tree.specs.declared.package.Package.{Package}
use Rattle.ir_tree.specs.Networks.{kind_of}
use Rattle.ir_tree.specs.Rules.Verified.{IsVerified}
use Rattle.net_core.specs.declared.net.Kind.TheVariants.{Inner}
use Rattle.vlog_tree.specs.declared.expression.Atom.{Atom}
use Rattle.vlog_tree.specs.Value.{Values}
use Rattle.block_build.specs.declared.netlist.fifos.ChannelEnds.{ChannelEnds}
use Rattle.block_build.specs.declared.netlist.fifos.ChannelView.{ChannelView}
use Rattle.block_build.specs.declared.netlist.fifos.Fifo.{Fifo}
use Rattle.block_build.specs.declared.netlist.registers.Register.{Register}
use Rattle.block_build.specs.Netlist.Blocks.{BlockNets, ChannelNets}
use Rattle.block_build.specs.Netlist.Buffers.{fifo_nets}
use Rattle.block_build.specs.Netlist.Registers.{laid_fifo}
use Rattle.block_verilog.specs.Signals.Nodes.{channel_view, number_of}
use Rattle.block_verilog.specs.Schedule.Pipelines.{AreLegal, pipeline_of, pipelines_of}
use Rattle.block_verilog.specs.declared.pipelines.pipelines.ProcWires.{ProcWires}
use Rattle.block_verilog.specs.Pipelines.Nets.{ProcParts, ArePut, PartsDriven, pipeline_nets}
use Rattle.block_verilog.specs.Pipelines.Pipelines.{proc_registers, next_nets}
use Rattle.block_verilog.specs.Each.{EachFrom}
use Rattle.block_verilog.specs.Ports.{ports_from}
use Rattle.block_verilog.specs.Queues.{all_registers, all_next, fifos_from, no_ends, IsViewOf, IsViewed, GoesAt}
use Rattle.block_verilog.specs.Sides.{IsEnd}

-- of its procs in their order, and of its channels in theirs, where FIFOs go on by wires from these numbers on
pub record BlockParts : Type 0 where
  pub procs : List ProcParts
  pub fifos : List (Option Fifo)
  pub views : List ChannelView
  pub sides : List ChannelEnds
  pub goes : List ℕ

-- ---- its signals

abbrev pub fifo_or : Option (Option Fifo) → Fifo
fifo_or (Some (Some fifo)) = fifo
fifo_or (Some None) = laid_fifo 0 1 0
fifo_or None = laid_fifo 0 1 0

abbrev pub channel_nets : ChannelView → ChannelEnds → ChannelNets
channel_nets view end = record { valid = view.valid; word = view.word; room = view.room; ready = end.ready; offered = end.offered; offered_word = end.word }

abbrev pub block_nets : List Channel → BlockParts → BlockNets
block_nets channels parts = record {
  channels = channels;
  pipelines = map pipeline_nets parts.procs;
  ends = λ c. channel_nets (channel_view parts.views c) (get_or parts.sides c no_ends);
  fifos = λ c. fifo_nets (fifo_or (slice_get parts.fifos c)) (get_or parts.sides c no_ends) (number_of (channel_view parts.views c).valid) (get_or parts.goes c 0);
}

-- ---- registers, and what they hold next

abbrev pub registers_of : List ProcParts → List Register
registers_of [] = []
registers_of (one ∷ more) = proc_registers one.scheduled one.layout.reads ++ registers_of more

abbrev pub nexts_of : List ProcParts → List Atom
nexts_of [] = []
nexts_of (one ∷ more) = next_nets one.scheduled one.layout one.made one.at one.nums ++ nexts_of more

abbrev pub block_registers : List ℕ → List Channel → BlockParts → List Register
block_registers depths channels parts = all_registers depths 0 channels ++ registers_of parts.procs

abbrev pub block_nexts : BlockParts → List Atom
block_nexts parts = all_next parts.fifos parts.sides parts.goes ++ nexts_of parts.procs

-- ---- what is known of them

-- procs from one on, whose registers stand from one on
abbrev pub ArePutFrom : Package → ℕ → ℕ → ℕ → List ProcParts → Type 0
ArePutFrom ir clock p k [] = Unit {0}
ArePutFrom ir clock p k (one ∷ more) = ArePut ir p clock k one × ArePutFrom ir clock (suc p) (k + length (proc_registers one.scheduled one.layout.reads)) more

-- those of a verified package with legal schedules and these depths, whose registers stand from one on
pub record IsBlockPut (ir : Package) (clock k : ℕ) (schedules : List (List ℕ)) (depths : List ℕ) (parts : BlockParts) : Type 0 where
  pub verified : IsVerified ir
  pub legal : AreLegal clock ir.procs schedules
  pub procs : ArePutFrom ir clock 0 (k + length (all_registers depths 0 ir.channels)) parts.procs
  pub pipelines : map (λ (one : ProcParts). pipeline_of one.scheduled.channels one.scheduled.proc one.scheduled.stages) parts.procs ≡ pipelines_of ir.channels ir.procs schedules
  pub deep : (c : ℕ) (channel : Channel) → slice_get ir.channels c ≡ Some channel → kind_of channel.ends ≡ Inner → (1 ≤ get_or depths c 0) × (get_or depths c 0 ≤ 64)
  pub fifos : parts.fifos ≡ fifos_from depths 0 k ir.channels
  pub views : EachFrom (IsViewOf ir.channels (ports_from 2 ir.channels) parts.fifos) 0 parts.views
  pub view_count : length parts.views ≡ length ir.channels
  pub side_count : length parts.sides ≡ length ir.channels
  pub goes_count : length parts.goes ≡ length ir.channels

-- by these values all have their wires
pub record IsBlockDriven (v : Values) (run : Atom) (ir : Package) (parts : BlockParts) : Type 0 where
  pub procs : (p : ℕ) (one : ProcParts) → slice_get parts.procs p ≡ Some one → PartsDriven v run parts.views one
  pub views : EachFrom (IsViewed v ir.channels parts.fifos) 0 parts.views
  pub goes : EachFrom (GoesAt v parts.fifos parts.views parts.sides) 0 parts.goes
  pub sides : EachFrom (IsEnd v ir.procs (map (λ (one : ProcParts). one.made) parts.procs) ir.channels) 0 parts.sides
