-- A proc with its schedule, and the parts of its hardware: its registers, the wires of its nodes and stages, and those of what its
-- registers hold next.
use Rattle.std.specs.Prelude.{◌≡◌, ℕ, ◌+◌, ◌-◌, ◌*◌, ◌<◌, ◌^◌, List, ◌++◌, map, length}
use Rattle.ir_tree.specs.declared.node.Operand.{Operand}
use Rattle.ir_tree.specs.declared.package.Channel.{Channel}
use Rattle.ir_tree.specs.declared.package.Proc.{Proc}
use Rattle.ir_tree.specs.Types.{ty_of}
use Rattle.vlog_tree.specs.declared.expression.Atom.{Atom}
use Rattle.vlog_tree.specs.Value.{Values}
use Rattle.block_build.specs.declared.netlist.fifos.ChannelView.{ChannelView}
use Rattle.block_build.specs.declared.netlist.last_reads.LastReads.{LastReads}
use Rattle.block_build.specs.declared.netlist.registers.Register.{Register}
use Rattle.block_build.specs.Netlist.Choices.{choice_wires}
use Rattle.block_build.specs.Netlist.Ends.{all_sites}
use Rattle.block_build.specs.Netlist.LastReads.{stage_by, read_at}
use Rattle.block_build.specs.Netlist.Layout.{last_read, proc_readers}
use Rattle.block_build.specs.Netlist.Leaves.{leaf_widths, nets}
use Rattle.block_build.specs.Netlist.Nexts.{move_of, sites_next_wires, sites_next_nets, done_at, copies_wires, nodes_copies}
use Rattle.block_build.specs.Netlist.Nodes.{IsEarlier}
use Rattle.block_build.specs.Netlist.Places.{shown_at}
use Rattle.block_build.specs.Netlist.ProcRegisters.{state_registers, full_registers, sites_registers, sites_at, copy_registers, nodes_registers, copies_at}
use Rattle.block_build.specs.Netlist.Stages.{StageNets, AreStages}
use Rattle.block_build.specs.Netlist.Staging.{stages_from, shaken_at, move_nets, FullBitsGoOn, kept_net}
use Rattle.block_build.specs.Netlist.Wires.{Wire, AreWired}
use Rattle.block_verilog.specs.declared.signals.layout.ProcRegisters.{ProcRegisters}
use Rattle.block_verilog.specs.declared.signals.layout.Staging.{Staging}
use Rattle.block_verilog.specs.Signals.Nodes.{NodesMade}
use Rattle.block_verilog.specs.declared.pipelines.layout.ProcLayout.{ProcLayout}
use Rattle.block_verilog.specs.declared.pipelines.pipelines.ProcWires.{ProcWires}

-- a proc of a package with these channels; the stages of its nodes, how many there are, and the one in which an activation gives the
-- turn back
pub record ScheduledProc : Type 0 where
  pub channels : List Channel
  pub proc : Proc
  pub stages : List ℕ
  pub depth : ℕ
  pub last : ℕ

abbrev pub scheduled : List Channel → Proc → Staging → ScheduledProc
scheduled channels proc staging = record { channels = channels; proc = proc; stages = staging.stage.now; depth = staging.stages; last = staging.last }

-- ---- registers

-- one behind another: its state, the full bits of its stages, its sites', and copies of its state and of its nodes' values
abbrev pub proc_registers : ScheduledProc → LastReads → List Register
proc_registers s reads =
    state_registers s.proc ++ full_registers 0 s.depth ++ sites_registers s.channels s.proc.nodes ++ copy_registers (leaf_widths (ty_of s.proc.state)) (reads.state - 0)
    ++ nodes_registers s.proc.nodes s.stages reads.nodes.items

-- where they stand from one on
pub record RegistersStand (s : ScheduledProc) (reads : LastReads) (k : ℕ) (laid : ProcRegisters) : Type 0 where
  pub state : laid.state ≡ k
  pub full : laid.full ≡ k + length (state_registers s.proc)
  pub sites : laid.sites ≡ sites_at s.channels (laid.full + s.depth) s.proc.nodes
  pub state_copies : laid.state_copies ≡ laid.full + s.depth + length (sites_registers s.channels s.proc.nodes)
  pub few : laid.state_copies < 2 ^ 32
  pub copies : laid.copies ≡ copies_at (laid.state_copies + length (copy_registers (leaf_widths (ty_of s.proc.state)) (reads.state - 0))) s.proc.nodes s.stages reads.nodes.items

-- up to the last stage in which each value is read
pub record IsLaidOut (s : ScheduledProc) (k : ℕ) (layout : ProcLayout) : Type 0 where
  pub count : length layout.reads.nodes.items ≡ length s.proc.nodes
  pub reads : (o : Operand) → IsEarlier (length s.proc.nodes) o → read_at layout.reads o ≡ last_read (proc_readers (stage_by s.stages) s.proc s.last) o
  pub registers : RegistersStand s layout.reads k layout.registers

-- ---- wires

-- the number of the first wire of its stages, and for each stage that of the first of those by which it moves
pub record StageNumbers : Type 0 where
  pub first : ℕ
  pub moving : ℕ → ℕ

-- its stages, where the bits of stages and of sites go on by wires from these on
abbrev pub stages_by : ScheduledProc → ProcLayout → ProcWires → StageNumbers → (ℕ → ℕ) → (ℕ → ℕ) → List StageNets
stages_by s layout made at next done = stages_from layout.registers.full (record { moving = at.moving; next = next; done = done }) at.first 0 0 s.depth made.nodes.sites

-- what is said of the stages is theirs
pub record HasStages (s : ScheduledProc) (layout : ProcLayout) (made : ProcWires) (at : StageNumbers) : Type 0 where
  pub handshakes : (next done : ℕ → ℕ) → made.stages.handshakes.items ≡ map shaken_at (all_sites (stages_by s layout made at next done))
  pub moves : (next done : ℕ → ℕ) → made.stages.moves.items ≡ move_nets (stages_by s layout made at next done)

-- by these values its nodes and stages have their wires
pub record ProcDriven (v : Values) (run : Atom) (s : ScheduledProc) (layout : ProcLayout) (views : List ChannelView) (made : ProcWires) (at : StageNumbers) : Type 0 where
  pub nodes : NodesMade v s.channels s.proc s.stages layout.registers views made.nodes
  pub stages : (next done : ℕ → ℕ) → AreStages v run (stages_by s layout made at next done)

-- ---- what its registers hold next

-- the numbers of the first wires of what they hold next
pub record NextNumbers : Type 0 where
  pub state : ℕ
  pub full : ℕ
  pub sites : ℕ
  pub copies : ℕ
  pub nodes : ℕ

-- the next state where an activation gives the turn back, else the one that there is
abbrev pub state_wires : ScheduledProc → ProcWires → List Wire
state_wires s made = choice_wires (move_of made.stages.moves.items s.last) (leaf_widths (ty_of s.proc.state)) (shown_at made.nodes.places s.last s.proc.next) made.nodes.places.state.own

-- the copies of the state, and of the values of nodes
abbrev pub state_copies_wires : ScheduledProc → ProcLayout → ProcWires → List Wire
state_copies_wires s layout made =
    copies_wires (leaf_widths (ty_of s.proc.state)) made.nodes.places.state made.stages.moves.items made.nodes.places.state.stage (layout.reads.state - made.nodes.places.state.stage)

abbrev pub node_copies_wires : ScheduledProc → ProcLayout → ProcWires → List Wire
node_copies_wires s layout made = nodes_copies made.stages.moves.items s.proc.nodes made.nodes.places.nodes layout.reads.nodes.items

-- its stages, whose bits go on by these
abbrev pub stages_of : ScheduledProc → ProcLayout → ProcWires → StageNumbers → NextNumbers → List StageNets
stages_of s layout made at nums = stages_by s layout made at (λ j. nums.full + 3 * j) (done_at nums.sites made.nodes.sites)

-- what they hold next, in their order
abbrev pub next_nets : ScheduledProc → ProcLayout → ProcWires → StageNumbers → NextNumbers → List Atom
next_nets s layout made at nums =
    nets nums.state (length (state_wires s made)) ++ map kept_net (stages_of s layout made at nums) ++ sites_next_nets nums.sites made.nodes.sites made.stages.handshakes.items
    ++ nets nums.copies (length (state_copies_wires s layout made)) ++ nets nums.nodes (length (node_copies_wires s layout made))

-- by these values that has its wires
pub record NextsDriven (v : Values) (s : ScheduledProc) (layout : ProcLayout) (made : ProcWires) (at : StageNumbers) (nums : NextNumbers) : Type 0 where
  pub state : AreWired v nums.state (state_wires s made)
  pub full : FullBitsGoOn v (move_of made.stages.moves.items s.last) (stages_of s layout made at nums)
  pub sites : AreWired v nums.sites (sites_next_wires nums.sites made.stages.moves.items made.nodes.sites made.stages.handshakes.items)
  pub copies : AreWired v nums.copies (state_copies_wires s layout made)
  pub nodes : AreWired v nums.nodes (node_copies_wires s layout made)
