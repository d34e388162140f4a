-- All procs of a package, with their schedules: where their registers stand, and what is put for them.
use Rattle.std.specs.Prelude.{◌≡◌, ℕ, ◌+◌, ◌-◌, slice_get, length, map, List, [], ◌∷◌, ◌++◌, Some}
use Rattle.ir_tree.specs.declared.package.Channel.{Channel}
use Rattle.ir_tree.specs.declared.package.Proc.{Proc}
use Rattle.vlog_tree.specs.declared.expression.Atom.{Atom}
use Rattle.vlog_tree.specs.Value.{Values}
use Rattle.block_build.specs.declared.netlist.fifos.ChannelView.{ChannelView}
use Rattle.block_build.specs.declared.netlist.registers.Register.{Register}
use Rattle.block_build.specs.declared.netlist.wires.WireList.{WireList}
use Rattle.block_build.specs.Netlist.Added.{AddsWires}
use Rattle.pipe_schedule.specs.declared.schedule.Schedule.{Schedule}
use Rattle.block_verilog.specs.declared.pipelines.layout.ProcLayout.{ProcLayout}
use Rattle.block_verilog.specs.declared.pipelines.pipelines.ProcWires.{ProcWires}
use Rattle.block_verilog.specs.Pipelines.Nets.{ProcParts}
use Rattle.block_verilog.specs.Pipelines.Pipelines.{ScheduledProc, IsLaidOut, StageNumbers, HasStages, ProcDriven, NextsDriven, proc_registers}
use Rattle.block_verilog.specs.Each.{EachFrom}
use Rattle.block_verilog.specs.Parts.{nexts_of}

-- a proc with its schedule
abbrev pub by_schedule : List Channel → Proc → Schedule → ScheduledProc
by_schedule channels proc schedule = record { channels = channels; proc = proc; stages = schedule.stage; depth = schedule.stages; last = schedule.interval - 1 }

-- ---- registers

-- the procs that are laid out so, from one on, are these, with registers from one on
abbrev pub AreLaidOut : List Channel → ℕ → List Proc → List Schedule → List ProcLayout → Type 0
AreLaidOut channels k [] schedules layouts = layouts ≡ []
AreLaidOut channels k (proc ∷ procs) [] layouts = layouts ≡ []
AreLaidOut channels k (proc ∷ procs) (schedule ∷ schedules) [] = ⊥
AreLaidOut channels k (proc ∷ procs) (schedule ∷ schedules) (layout ∷ layouts) =
    IsLaidOut (by_schedule channels proc schedule) k layout × AreLaidOut channels (k + length (proc_registers (by_schedule channels proc schedule) layout.reads)) procs schedules layouts

abbrev pub laid_registers : List Channel → List Proc → List Schedule → List ProcLayout → List Register
laid_registers channels [] schedules layouts = []
laid_registers channels (proc ∷ procs) [] layouts = []
laid_registers channels (proc ∷ procs) (schedule ∷ schedules) [] = []
laid_registers channels (proc ∷ procs) (schedule ∷ schedules) (layout ∷ layouts) = proc_registers (by_schedule channels proc schedule) layout.reads ++ laid_registers channels procs schedules layouts

-- ---- wires

-- what is put for a proc, with the numbers of its stages' wires
pub record MadeProc : Type 0 where
  pub made : ProcWires
  pub at : StageNumbers

-- for the proc of an index
abbrev pub IsMadeProc : List Channel → List Proc → List Schedule → List ProcLayout → ℕ → MadeProc → Type 0
IsMadeProc channels procs schedules layouts p one =
    (proc : Proc) (schedule : Schedule) (layout : ProcLayout) → slice_get procs p ≡ Some proc → slice_get schedules p ≡ Some schedule → slice_get layouts p ≡ Some layout
    → HasStages (by_schedule channels proc schedule) layout one.made one.at

abbrev pub IsMadeBy : Values → Atom → List Channel → List Proc → List Schedule → List ProcLayout → List ChannelView → ℕ → MadeProc → Type 0
IsMadeBy v run channels procs schedules layouts views p one =
    (proc : Proc) (schedule : Schedule) (layout : ProcLayout) → slice_get procs p ≡ Some proc → slice_get schedules p ≡ Some schedule → slice_get layouts p ≡ Some layout
    → ProcDriven v run (by_schedule channels proc schedule) layout views one.made one.at

-- for all
pub record AreMade (a b : WireList) (run : Atom) (channels : List Channel) (procs : List Proc) (schedules : List Schedule) (layouts : List ProcLayout) (views : List ChannelView) (made : List ProcWires) : Type 0 where
  pub each : List MadeProc
  pub are : map (λ (one : MadeProc). one.made) each ≡ made
  pub count : length each ≡ length layouts
  pub stages : EachFrom (IsMadeProc channels procs schedules layouts) 0 each
  pub wired : AddsWires a b (λ v. EachFrom (IsMadeBy v run channels procs schedules layouts views) 0 each)

-- ---- what their registers hold next

-- the parts of the proc of an index
pub record IsPartOf (channels : List Channel) (procs : List Proc) (schedules : List Schedule) (layouts : List ProcLayout) (made : List MadeProc) (p : ℕ) (one : ProcParts) : Type 0 where
  pub proc : slice_get procs p ≡ Some one.scheduled.proc
  pub schedule : (schedule : Schedule) × (slice_get schedules p ≡ Some schedule) × (one.scheduled ≡ by_schedule channels one.scheduled.proc schedule)
  pub layout : slice_get layouts p ≡ Some one.layout
  pub made_is : slice_get made p ≡ Some (record { made = one.made; at = one.at })

abbrev pub GoesNext : Values → ℕ → ProcParts → Type 0
GoesNext v p one = NextsDriven v one.scheduled one.layout one.made one.at one.nums

-- of all
pub record ArePutNext (a b : WireList) (channels : List Channel) (procs : List Proc) (schedules : List Schedule) (layouts : List ProcLayout) (made : List MadeProc) (old new : List Atom) : Type 0 where
  pub each : List ProcParts
  pub count : length each ≡ length layouts
  pub parts : EachFrom (IsPartOf channels procs schedules layouts made) 0 each
  pub nexts : new ≡ old ++ nexts_of each
  pub wired : AddsWires a b (λ v. EachFrom (GoesNext v) 0 each)
