-- The netlist of a block: a pipeline for each proc, a FIFO for each inner channel, and what its registers hold of the block.
use Rattle.std.specs.Prelude.{◌≡◌, ℕ, zero, suc, ◌<◌, ◌≤◌, ◌^◌, Bool, true, false, not, List, [], ◌∷◌, ◌++◌, map, length, slice_get, is_some, Option, Some, None}
use Rattle.xb_bits.specs.Word.{Word, word}
use Rattle.net_core.specs.declared.net.Chan.{Chan}
use Rattle.net_core.specs.declared.net.Kind.{Kind}
use Rattle.net_core.specs.declared.net.Kind.TheVariants.{Input, Output, Inner}
use Rattle.ir_tree.specs.declared.node.Node.{Node}
use Rattle.xb_value.specs.Typing.{IsOfType}
use Rattle.ir_tree.specs.declared.node.Operand.{Operand}
use Rattle.ir_tree.specs.declared.node.Operand.TheVariants as operand
use Rattle.ir_tree.specs.Types.{ty_of}
use Rattle.ir_tree.specs.declared.node.Role.{Role}
use Rattle.ir_tree.specs.declared.node.Role.TheVariants as role
use Rattle.ir_tree.specs.declared.package.Channel.{Channel}
use Rattle.ir_tree.specs.declared.package.Proc.{Proc}
use Rattle.ir_tree.specs.NodeValues.{role_of}
use Rattle.block_stage.specs.Machine.Pipeline.{Pipeline, first}
use Rattle.block_stage.specs.Machine.Cycle.{Ports}
use Rattle.vlog_tree.specs.declared.expression.Atom.{Atom}
use Rattle.vlog_tree.specs.Value.{Values, bit, atom_value}
use Rattle.block_build.specs.Block.{Block, receiver_of}
use Rattle.block_build.specs.Rows.{State, Machine, InputRow, sender_of, depth_of}
use Rattle.block_build.specs.Netlist.Ends.{some_wires, some_net, word_wires, word_net, all_sites, end_requests}
use Rattle.block_build.specs.Netlist.Fifos.{FifoNets, there_net, room_net, count_net, slot_net, IsFifo}
use Rattle.block_build.specs.Netlist.Gates.{net}
use Rattle.block_build.specs.Netlist.Handshakes.{SiteNets}
use Rattle.block_build.specs.Netlist.Holding.{AreReset, PipelineMade, PipelineHeld, RegistersGoOn}
use Rattle.block_build.specs.Netlist.Leaves.{ShowsValue}
use Rattle.block_build.specs.Netlist.Nodes.{ProcNets}
use Rattle.block_build.specs.Netlist.Stages.{StageNets}
use Rattle.block_build.specs.Netlist.Wires.{AreWired}

-- ---- its signals

-- of a channel: whether a word is there to be received, which, and whether there is room for one that is sent; whether its reader is
-- ready for a word, whether its writer has one valid, and which
pub record ChannelNets : Type 0 where
  pub valid : Atom
  pub word : Atom
  pub room : Atom
  pub ready : Atom
  pub offered : Atom
  pub offered_word : Atom

-- of a proc's pipeline: the stages of its nodes, the values that it carries on, its stages' wires, and its nodes' signals
pub record PipelineNets : Type 0 where
  pub pipeline : Pipeline
  pub proc : Proc
  pub nets : ProcNets
  pub stage : Operand → ℕ
  pub carried : Operand → ℕ → Bool
  pub stages : List StageNets

-- of a block, whose procs have these channels; pipelines and channels by their numbers
pub record BlockNets : Type 0 where
  pub channels : List Channel
  pub pipelines : List PipelineNets
  pub ends : ℕ → ChannelNets
  pub fifos : ℕ → FifoNets

-- ---- what its wires promise

-- a site's partner is its channel's other side
abbrev pub PartnerMade : ProcNets → (ℕ → ChannelNets) → SiteNets → ℕ → Role → Type 0
PartnerMade nets ends site i role.Pure = ⊥
PartnerMade nets ends site i (role.Receive predicate chan) = (site.partner ≡ (ends chan).valid) × ((nets.receive i).word ≡ (ends chan).word)
PartnerMade nets ends site i (role.Send predicate chan) = site.partner ≡ (ends chan).room

abbrev pub PartnersMade : Proc → ProcNets → (ℕ → ChannelNets) → ℕ → List SiteNets → Type 0
PartnersMade proc nets ends i [] = Unit {0}
PartnersMade proc nets ends i (site ∷ sites) =
    ((n : Node) → slice_get proc.nodes (nets.node i) ≡ Some n → PartnerMade nets ends site i (role_of n)) × PartnersMade proc nets ends (suc i) sites

abbrev pub AllPartnersMade : Proc → ProcNets → (ℕ → ChannelNets) → Pipeline → ℕ → List StageNets → Type 0
AllPartnersMade proc nets ends q j [] = Unit {0}
AllPartnersMade proc nets ends q j (one ∷ more) = PartnersMade proc nets ends (first q j) one.sites × AllPartnersMade proc nets ends q (suc j) more

-- whether one of these requests is asserted stands on a signal
pub record SomeMade (v : Values) (one : PipelineNets) (chan : ℕ) (sends : Bool) (signal : Atom) : Type 0 where
  pub from : ℕ
  pub zeros : Atom
  pub wired : AreWired v from (some_wires from zeros (end_requests one.pipeline.proc.behavior.sites chan sends one.nets.sent 0 (all_sites one.stages)))
  pub none : atom_value v zeros ≡ bit false
  pub is : signal ≡ some_net from zeros (end_requests one.pipeline.proc.behavior.sites chan sends one.nets.sent 0 (all_sites one.stages))

-- and the word of the one that is
pub record WordMade (v : Values) (one : PipelineNets) (chan : ℕ) (signal : Atom) : Type 0 where
  pub from : ℕ
  pub width : ℕ
  pub zeros : Atom
  pub wired : AreWired v from (word_wires width from zeros (end_requests one.pipeline.proc.behavior.sites chan true one.nets.sent 0 (all_sites one.stages)))
  pub is : signal ≡ word_net from zeros (end_requests one.pipeline.proc.behavior.sites chan true one.nets.sent 0 (all_sites one.stages))

-- the sides of a channel, where a proc is there
abbrev pub ReaderMade : Values → ℕ → ChannelNets → Option PipelineNets → Type 0
ReaderMade v chan end None = atom_value v end.ready ≡ bit false
ReaderMade v chan end (Some one) = SomeMade v one chan false end.ready

abbrev pub WriterMade : Values → ℕ → ChannelNets → Option PipelineNets → Type 0
WriterMade v chan end None = atom_value v end.offered ≡ bit false
WriterMade v chan end (Some one) = SomeMade v one chan true end.offered × WordMade v one chan end.offered_word

-- a FIFO between them
pub record FifoMade (v : Values) (end : ChannelNets) (fifo : FifoNets) (depth : ℕ) : Type 0 where
  pub is : IsFifo v fifo
  pub deep : fifo.depth ≡ depth
  pub wide : fifo.depth < 2 ^ fifo.count_width
  pub one : 1 < 2 ^ fifo.count_width
  pub numbers : (x : ℕ) → x ≤ fifo.depth → atom_value v (fifo.number x) ≡ word fifo.count_width x
  pub number_one : atom_value v (fifo.number 1) ≡ word fifo.count_width 1
  pub valid : end.valid ≡ net (there_net fifo)
  pub word : end.word ≡ fifo.slot 0
  pub room : end.room ≡ net (room_net fifo)
  pub ready : fifo.asserted ≡ end.ready
  pub offered : fifo.offers ≡ end.offered
  pub offered_word : fifo.word ≡ end.offered_word

pub record BlockMade (v : Values) (run : Atom) (block : Block) (nets : BlockNets) : Type 0 where
  pub pipelines : map (λ (one : PipelineNets). one.pipeline) nets.pipelines ≡ block.pipelines
  pub made : (p : ℕ) (one : PipelineNets) → slice_get nets.pipelines p ≡ Some one → PipelineMade v run nets.channels one.proc one.nets one.stage one.carried one.pipeline one.stages
  pub partners : (p : ℕ) (one : PipelineNets) → slice_get nets.pipelines p ≡ Some one → AllPartnersMade one.proc one.nets nets.ends one.pipeline 0 one.stages
  pub readers : (chan : ℕ) → ReaderMade v chan (nets.ends chan) (slice_get nets.pipelines (receiver_of block chan))
  pub writers : (chan : ℕ) → WriterMade v chan (nets.ends chan) (slice_get nets.pipelines (sender_of block chan))
  pub fifos : (c : ℕ) (chan : Chan) → slice_get block.chans c ≡ Some chan → chan.kind ≡ Inner → FifoMade v (nets.ends c) (nets.fifos c) (depth_of block c)

-- ---- what stands at its own ports

-- at an input whether a word is valid, and which; at an output whether the outside is ready. A side at which the outside is no partner
-- has none
pub record SidesShown (v : Values) (end : ChannelNets) (valid_word : Option Word) (has_room : Bool) : Type 0 where
  pub valid : atom_value v end.valid ≡ bit (is_some valid_word)
  pub word : (w : Word) → valid_word ≡ Some w → atom_value v end.word ≡ w
  pub room : atom_value v end.room ≡ bit has_room

abbrev pub OuterShown : Values → ChannelNets → Ports → ℕ → Kind → Type 0
OuterShown v end row c Input = SidesShown v end (row.valid_word c) false
OuterShown v end row c Output = SidesShown v end None (row.room c)
OuterShown v end row c Inner = Unit {0}

abbrev pub PortShown : Values → ChannelNets → Ports → ℕ → Option Chan → Type 0
PortShown v end row c None = SidesShown v end None false
PortShown v end row c (Some chan) = OuterShown v end row c chan.kind

abbrev pub RowShown : Values → Block → BlockNets → Ports → Type 0
RowShown v block nets row = (c : ℕ) → PortShown v (nets.ends c) row c (slice_get block.chans c)

-- ---- what it says of a channel

-- whether its reader is ready, whether its writer has a word valid, and which
pub record ChannelShown (v : Values) (end : ChannelNets) (is_ready : Bool) (offer : Option Word) : Type 0 where
  pub ready : atom_value v end.ready ≡ bit is_ready
  pub offered : atom_value v end.offered ≡ bit (is_some offer)
  pub word : (w : Word) → offer ≡ Some w → atom_value v end.offered_word ≡ w

-- ---- what its registers hold

-- a FIFO's hold these words
pub record QueueHeld (v : Values) (fifo : FifoNets) (words : List Word) : Type 0 where
  pub count : atom_value v fifo.count ≡ word fifo.count_width (length words)
  pub slots : (k : ℕ) → k < length words → slice_get words k ≡ Some (atom_value v (fifo.slot k))
  pub few : length words ≤ fifo.depth

pub record BlockHeld (v : Values) (block : Block) (nets : BlockNets) (state : State) : Type 0 where
  pub machines : (p : ℕ) (one : PipelineNets) (machine : Machine) → slice_get nets.pipelines p ≡ Some one → slice_get state.machines p ≡ Some machine
      → PipelineHeld v nets.channels one.proc one.nets one.stage one.carried one.pipeline one.stages machine.since.contents
  pub queues : (c : ℕ) (chan : Chan) → slice_get block.chans c ≡ Some chan → chan.kind ≡ Inner → QueueHeld v (nets.fifos c) (state.queues c)

-- what they hold next
pub record FifoGoesOn (v next : Values) (fifo : FifoNets) : Type 0 where
  pub count : atom_value next fifo.count ≡ v (count_net fifo)
  pub slots : (x : ℕ) → x < fifo.depth → atom_value next (fifo.slot x) ≡ v (slot_net fifo x)

pub record BlockGoesOn (v next : Values) (block : Block) (nets : BlockNets) : Type 0 where
  pub pipelines : (p : ℕ) (one : PipelineNets) → slice_get nets.pipelines p ≡ Some one → RegistersGoOn v next one.proc one.nets one.stage one.carried one.pipeline one.stages
  pub fifos : (c : ℕ) (chan : Chan) → slice_get block.chans c ≡ Some chan → chan.kind ≡ Inner → FifoGoesOn v next (nets.fifos c)

-- what they are reset to
pub record BlockReset (next : Values) (block : Block) (nets : BlockNets) : Type 0 where
  pub bits : (p : ℕ) (one : PipelineNets) → slice_get nets.pipelines p ≡ Some one → AreReset next 0 one.stages
  pub states : (p : ℕ) (one : PipelineNets) → slice_get nets.pipelines p ≡ Some one
      → ShowsValue next (one.nets.shown 0 operand.State) one.pipeline.proc.opening × IsOfType (ty_of one.proc.state) one.pipeline.proc.opening
  pub fifos : (c : ℕ) (chan : Chan) → slice_get block.chans c ≡ Some chan → chan.kind ≡ Inner → atom_value next (nets.fifos c).count ≡ word (nets.fifos c).count_width 0

-- ---- rows

-- in a row with this at its ports, where `run` says that there is no reset
pub record BlockRow (v : Values) (run : Atom) (block : Block) (nets : BlockNets) (row : InputRow) : Type 0 where
  pub made : BlockMade v run block nets
  pub runs : atom_value v run ≡ bit (not row.rst)
  pub ports : RowShown v block nets row.ports

-- from a row to the next
abbrev pub BlockNext : Values → Values → Block → BlockNets → Bool → Type 0
BlockNext v next block nets true = BlockReset next block nets
BlockNext v next block nets false = BlockGoesOn v next block nets

-- the first rows of a run
abbrev pub rows_before : (ℕ → InputRow) → ℕ → List InputRow
rows_before row zero = []
rows_before row (suc n) = rows_before row n ++ row n ∷ []
