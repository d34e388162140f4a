-- What the functions promise one another that put the parts of a package together.
use Rattle.std.specs.Prelude.{◌≡◌, ℕ, ◌+◌, min, length, map, List, [], ◌∷◌, ◌++◌, Option}
use Rattle.ir_tree.specs.declared.package.Package.{Package}
use Rattle.vlog_tree.specs.declared.expression.Atom.{Atom}
use Rattle.vlog_tree.specs.Value.{Values, atom_value, expr_value}
use Rattle.block_build.specs.declared.netlist.fifos.ChannelEnds.{ChannelEnds}
use Rattle.block_build.specs.declared.netlist.fifos.ChannelView.{ChannelView}
use Rattle.block_build.specs.declared.netlist.fifos.Fifo.{Fifo}
use Rattle.block_build.specs.declared.netlist.registers.RegisterList.{RegisterList}
use Rattle.block_build.specs.declared.netlist.wires.WireList.{WireList}
use Rattle.block_build.specs.Netlist.Added.{AddsWires}
use Rattle.block_build.specs.Netlist.Gates.{net, not_gate}
use Rattle.pipe_schedule.specs.declared.schedule.Schedule.{Schedule}
use Rattle.block_verilog.specs.declared.pipelines.layout.ProcLayout.{ProcLayout}
use Rattle.block_verilog.specs.declared.pipelines.pipelines.ProcWires.{ProcWires}
use Rattle.block_verilog.specs.Pipelines.Nets.{ProcParts}
use Rattle.block_verilog.specs.Each.{EachFrom}
use Rattle.block_verilog.specs.Queues.{all_registers, all_next, fifos_from, IsViewOf, IsViewed, GoesAt}
use Rattle.block_verilog.specs.Parts.{nexts_of}
use Rattle.block_verilog.specs.Procs.{AreLaidOut, laid_registers, MadeProc, IsMadeProc, IsMadeBy, IsPartOf, GoesNext}
use Rattle.block_verilog.specs.Sides.{IsEnd}

-- all registers, from one on
pub record AllLaid (ir : Package) (schedules : List Schedule) (depths : List ℕ) (first : ℕ) (registers : RegisterList) (fifos : List (Option Fifo)) (layouts : List ProcLayout) : Type 0 where
  pub first_is : registers.first ≡ first
  pub registers_are : registers.registers.items ≡ all_registers depths 0 ir.channels ++ laid_registers ir.channels ir.procs schedules layouts
  pub fifos_are : fifos ≡ fifos_from depths 0 first ir.channels
  pub procs : AreLaidOut ir.channels (first + length (all_registers depths 0 ir.channels)) ir.procs schedules layouts

-- by these values there are the wires of all but what registers hold next
pub record AllDriven (v : Values) (run : Atom) (ir : Package) (schedules : List Schedule) (fifos : List (Option Fifo)) (layouts : List ProcLayout) (views : List ChannelView) (each : List MadeProc) (made : List ProcWires) (sides : List ChannelEnds) : Type 0 where
  pub runs : atom_value v run ≡ expr_value v (not_gate (net 1)).driver
  pub viewed : EachFrom (IsViewed v ir.channels fifos) 0 views
  pub procs : EachFrom (IsMadeBy v run ir.channels ir.procs schedules layouts views) 0 each
  pub ends_are : EachFrom (IsEnd v ir.procs made ir.channels) 0 sides

-- they are put behind those that are there
pub record AllPut (a b : WireList) (ir : Package) (schedules : List Schedule) (ports : List ℕ) (fifos : List (Option Fifo)) (layouts : List ProcLayout) (views : List ChannelView) (made : List ProcWires) (sides : List ChannelEnds) : Type 0 where
  pub run : Atom
  pub each : List MadeProc
  pub are : map (λ (one : MadeProc). one.made) each ≡ made
  pub count : length each ≡ length layouts
  pub stages : EachFrom (IsMadeProc ir.channels ir.procs schedules layouts) 0 each
  pub view_count : length views ≡ min (min (length ir.channels) (length ports)) (length fifos)
  pub views_are : EachFrom (IsViewOf ir.channels ports fifos) 0 views
  pub side_count : length sides ≡ length ir.channels
  pub driven : AddsWires a b (λ v. AllDriven v run ir schedules fifos layouts views each made sides)

-- and those of what registers hold next
pub record AllNext (a b : WireList) (ir : Package) (schedules : List Schedule) (fifos : List (Option Fifo)) (layouts : List ProcLayout) (views : List ChannelView) (each : List MadeProc) (sides : List ChannelEnds) (nexts : List Atom) : Type 0 where
  pub goes : List ℕ
  pub goes_count : length goes ≡ min (min (length fifos) (length views)) (length sides)
  pub parts : List ProcParts
  pub part_count : length parts ≡ length layouts
  pub parts_are : EachFrom (IsPartOf ir.channels ir.procs schedules layouts each) 0 parts
  pub nexts_are : nexts ≡ all_next fifos sides goes ++ nexts_of parts
  pub fifos_go : AddsWires a b (λ v. EachFrom (GoesAt v fifos views sides) 0 goes × EachFrom (GoesNext v) 0 parts)
