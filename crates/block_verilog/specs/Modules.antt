-- The module of a package.
use Rattle.std.specs.Prelude.{◌≡◌, ℕ, ◌+◌, ◌<◌, ◌≤◌, ◌^◌, nat_lt, get_or, Bool, true, false, length, map, codes, List, [], ◌∷◌, ◌++◌, Some, slice_get}
use Rattle.std.specs.List.{AllByRecursion}
use Rattle.xb_span.specs.declared.limit.Limit.{Limit}
use Rattle.xb_span.specs.declared.limit.What.TheVariants as what
use Rattle.ir_tree.specs.declared.package.Channel.{Channel}
use Rattle.ir_tree.specs.declared.package.Ends.{Ends}
use Rattle.ir_tree.specs.declared.package.Ends.TheVariants as ends
use Rattle.ir_tree.specs.declared.package.Package.{Package}
use Rattle.ir_tree.specs.Networks.{kind_of}
use Rattle.net_core.specs.declared.net.Kind.TheVariants.{Inner}
use Rattle.ir_tree.specs.declared.package.Proc.{Proc}
use Rattle.pipe_schedule.specs.declared.schedule.Schedule.{Schedule}
use Rattle.pipe_schedule.specs.Legal.{IsLegalAt, depth_of, interval_of}
use Rattle.pipe_schedule.specs.Timed.{timed_nodes, timed_proc}
use Rattle.vlog_tree.specs.declared.expression.Atom.{Atom}
use Rattle.vlog_tree.specs.declared.module.VModule.{VModule}
use Rattle.vlog_tree.specs.Signals.{declared_port}
use Rattle.vlog_tree.specs.Value.{Values, atom_value, expr_value}
use Rattle.vlog_tree.specs.WellFormed.{CanRun}
use Rattle.block_build.specs.declared.netlist.registers.RegisterList.{RegisterList}
use Rattle.block_build.specs.declared.netlist.wires.WireList.{WireList}
use Rattle.block_build.specs.Netlist.Added.{Carries}
use Rattle.block_build.specs.Netlist.Gates.{net, not_gate}
use Rattle.block_verilog.specs.Schedule.Pipelines.{block_of}
use Rattle.block_verilog.specs.Assembly.{IsAssembled, own_name, port_drivers}
use Rattle.block_verilog.specs.Drives.{DrivesBlock}
use Rattle.block_verilog.specs.Ports.{module_ports, ports_from}
use Rattle.block_verilog.specs.Parts.{BlockParts, IsBlockPut, IsBlockDriven, block_registers, block_nexts}

-- a module that is put together of the parts of a package, whose clock is this
pub record IsMadeOfParts (m : VModule) (ir : Package) (clock : ℕ) (schedules : List (List ℕ)) (depths : List ℕ) : Type 0 where
  pub parts : BlockParts
  pub registers : RegisterList
  pub wires : WireList
  pub put : IsBlockPut ir clock (length (module_ports ir.channels)) schedules depths parts
  pub first : registers.first ≡ length (module_ports ir.channels)
  pub registers_are : registers.registers.items ≡ block_registers depths ir.channels parts
  pub few : registers.first + length registers.registers.items < 2 ^ 32
  pub run : Atom
  pub driven : (v : Values) → Carries v wires → IsBlockDriven v run ir parts
  pub runs : (v : Values) → Carries v wires → atom_value v run ≡ expr_value v (not_gate (net 1)).driver
  pub assembled : IsAssembled m (module_ports ir.channels) registers (block_nexts parts) wires (port_drivers ir.channels (ports_from 2 ir.channels) parts.sides)

-- a name that is `n_` and a decimal number
abbrev pub IsOwnName : List ℕ → Type 0
IsOwnName name = (number : ℕ) × (name ≡ own_name number)

-- the module of a package, with these schedules and depths: it can be simulated, has the package's name and ports, beside which all its
-- names are numbers, and drives there what the package's block does
pub record IsModuleOf (m : VModule) (ir : Package) (schedules : List (List ℕ)) (depths : List ℕ) : Type 0 where
  pub runs : CanRun m
  pub name : m.name ≡ ir.name ++ codes "_top"
  pub ports : map declared_port m.ports ≡ module_ports ir.channels
  pub names : AllByRecursion (λ own. IsOwnName own.name) m.declarations
  pub drives : DrivesBlock m ir.channels (block_of ir schedules depths)

-- each proc has a schedule that is legal at this clock, with its number of stages and its interval
abbrev pub AreScheduled : ℕ → List Proc → List Schedule → Type 0
AreScheduled clock [] [] = Unit {0}
AreScheduled clock [] (schedule ∷ schedules) = ⊥
AreScheduled clock (proc ∷ procs) [] = ⊥
AreScheduled clock (proc ∷ procs) (schedule ∷ schedules) =
    IsLegalAt (timed_nodes proc) clock schedule.stage × (schedule.stages ≡ depth_of schedule.stage) × (schedule.interval ≡ interval_of (timed_proc proc) schedule.stage) × AreScheduled clock procs schedules

-- the first inner channel's FIFO that holds more than 64 words passes this
abbrev pub is_deep : Ends → ℕ → Bool
is_deep ends.Input depth = false
is_deep ends.Output depth = false
is_deep (ends.Inner d) depth = nat_lt 64 depth

abbrev pub limit_of : ℕ → Limit
limit_of depth = record { what = what.Depth; found = depth; most = 64 }

pub record IsFirstTooDeep (channels : List Channel) (depths : List ℕ) (limit : Limit) : Type 0 where
  pub at : ℕ
  pub channel : Channel
  pub there : slice_get channels at ≡ Some channel
  pub deep : is_deep channel.ends (get_or depths at 0) ≡ true
  pub before : (i : ℕ) (other : Channel) → i < at → slice_get channels i ≡ Some other → is_deep other.ends (get_or depths i 0) ≡ false
  pub is : limit ≡ limit_of (get_or depths at 0)

-- no FIFO is too deep, each holds a word at least, and both
abbrev pub NoneTooDeep : List Channel → List ℕ → Type 0
NoneTooDeep channels depths = (i : ℕ) (channel : Channel) → slice_get channels i ≡ Some channel → is_deep channel.ends (get_or depths i 0) ≡ false

abbrev pub HaveSlots : List Channel → List ℕ → Type 0
HaveSlots channels depths = (i : ℕ) (channel : Channel) → slice_get channels i ≡ Some channel → kind_of channel.ends ≡ Inner → 1 ≤ get_or depths i 0

abbrev pub AreFifoDepths : List Channel → List ℕ → Type 0
AreFifoDepths channels depths = (i : ℕ) (channel : Channel) → slice_get channels i ≡ Some channel → kind_of channel.ends ≡ Inner → (1 ≤ get_or depths i 0) × (get_or depths i 0 ≤ 64)
