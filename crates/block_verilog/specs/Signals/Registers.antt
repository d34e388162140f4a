-- Where the registers of a proc's pipeline stand, and in which stages its nodes do.
use Rattle.std.specs.Prelude.{ℕ, false, List, length, slice_get, Option, Some, None}
use Rattle.ir_tree.specs.declared.ir_type.IrType.{IrType}
use Rattle.ir_tree.specs.declared.node.Operand.{Operand}
use Rattle.ir_tree.specs.declared.node.Operand.TheVariants as operand
use Rattle.ir_tree.specs.Types.{ty_of}
use Rattle.vlog_tree.specs.declared.signal.Signal.{Signal}
use Rattle.block_build.specs.declared.netlist.places.Place.{Place}
use Rattle.block_build.specs.Netlist.Leaves.{leaf_widths, nets}
use Rattle.block_verilog.specs.declared.signals.layout.ProcRegisters.{ProcRegisters}
use Rattle.block_build.specs.declared.netlist.layout.SiteRegisters.{SiteRegisters}

abbrev pub given_or : {A : Type 0} → A → Option A → A
given_or d None = d
given_or d (Some x) = x

-- ---- stages

-- the stage of a node, by the list of all
abbrev pub stage_at : List ℕ → ℕ → ℕ
stage_at stages k = given_or 0 (slice_get stages k)

-- that of an operand, of which the state's is 0
abbrev pub stage_of : List ℕ → Operand → ℕ
stage_of stages operand.State = 0
stage_of stages (operand.Node k) = stage_at stages k

-- ---- registers

abbrev pub first_signal : Signal
first_signal = record { 0 = 0 }

abbrev pub no_registers : SiteRegisters
no_registers = record { done = first_signal; kept = first_signal }

-- those of the site of an index
abbrev pub registers_of_site : ProcRegisters → ℕ → SiteRegisters
registers_of_site registers i = given_or no_registers (slice_get registers.sites i)

-- the first copy of a node's value
abbrev pub copies_from : ProcRegisters → ℕ → ℕ
copies_from registers k = given_or 0 (slice_get registers.copies k)

-- where the state stands
abbrev pub state_place : IrType → ProcRegisters → Place
state_place t registers = record { stage = 0; own = nets registers.state (length (leaf_widths (ty_of t))); copies = registers.state_copies; constant = false }
