-- The signals of a proc's pipeline, by the parts that are put for it.
use Rattle.std.specs.Prelude.{◌≡◌, ℕ, zero, suc, false, List, [], ◌∷◌, get_or, slice_get, Some}
use Rattle.ir_tree.specs.declared.node.Node.{Node}
use Rattle.ir_tree.specs.declared.node.Role.{Role}
use Rattle.ir_tree.specs.declared.node.Role.TheVariants as role
use Rattle.ir_tree.specs.declared.package.Channel.{Channel}
use Rattle.ir_tree.specs.declared.package.Package.{Package}
use Rattle.ir_tree.specs.declared.package.Proc.{Proc}
use Rattle.ir_tree.specs.Activations.{width_at}
use Rattle.ir_tree.specs.NodeValues.{channel_type, role_of}
use Rattle.ir_tree.specs.Rules.Verified.{IsVerified}
use Rattle.net_core.specs.Behavior.{IsWordOf}
use Rattle.pipe_schedule.specs.Legal.{IsLegalAt, depth_of, turn_stage}
use Rattle.pipe_schedule.specs.Timed.{timed_nodes, timed_proc}
use Rattle.vlog_tree.specs.declared.expression.Atom.{Atom}
use Rattle.vlog_tree.specs.Value.{Values, atom_value}
use Rattle.block_build.specs.declared.netlist.fifos.ChannelView.{ChannelView}
use Rattle.block_build.specs.declared.netlist.sites.Site.{Site}
use Rattle.block_build.specs.Netlist.Blocks.{ChannelNets, PipelineNets}
use Rattle.block_build.specs.Netlist.Ends.{all_sites}
use Rattle.block_build.specs.Netlist.Handshakes.{SiteNets}
use Rattle.block_build.specs.Netlist.Layout.{is_carried, proc_readers}
use Rattle.block_build.specs.Netlist.Literals.{literal_atom}
use Rattle.block_build.specs.Netlist.Nexts.{done_at}
use Rattle.block_build.specs.Netlist.Nodes.{site_index, ProcNets}
use Rattle.block_build.specs.Netlist.Places.{shown_at}
use Rattle.block_build.specs.Netlist.Receives.{ReceiveNets}
use Rattle.block_build.specs.Netlist.Sites.{site_nets}
use Rattle.block_build.specs.Netlist.Stages.{StageNets}
use Rattle.block_verilog.specs.Signals.Nodes.{number_of}
use Rattle.block_verilog.specs.Signals.Registers.{stage_of}
use Rattle.block_verilog.specs.Schedule.Pipelines.{pipeline_of}
use Rattle.block_verilog.specs.declared.pipelines.layout.ProcLayout.{ProcLayout}
use Rattle.block_verilog.specs.declared.pipelines.pipelines.ProcWires.{ProcWires}
use Rattle.block_verilog.specs.Pipelines.Pipelines.{ScheduledProc, IsLaidOut, StageNumbers, HasStages, ProcDriven, NextNumbers, NextsDriven, stages_of}

-- the parts of a proc's hardware
pub record ProcParts : Type 0 where
  pub scheduled : ScheduledProc
  pub layout : ProcLayout
  pub made : ProcWires
  pub at : StageNumbers
  pub nums : NextNumbers

-- ---- sites

-- the index of the node that a site is
abbrev pub place_by : Role → (ℕ → ℕ) → ℕ → ℕ
place_by role.Pure rest i = suc (rest i)
place_by (role.Receive predicate c) rest zero = 0
place_by (role.Receive predicate c) rest (suc i) = suc (rest i)
place_by (role.Send predicate c) rest zero = 0
place_by (role.Send predicate c) rest (suc i) = suc (rest i)

abbrev pub site_place : List Node → ℕ → ℕ
site_place [] i = 0
site_place (n ∷ nodes) i = place_by (role_of n) (site_place nodes) i

abbrev pub no_atom : Atom
no_atom = literal_atom 1 0

-- what stands for a site that isn't there
abbrev pub no_site : Site
no_site = record {
  channel = 0;
  sends = false;
  stage = 0;
  on = no_atom;
  done = no_atom;
  kept = no_atom;
  partner = no_atom;
  word = no_atom;
  width = 0;
  own = no_atom;
}

abbrev pub site_at : ProcParts → ℕ → Site
site_at parts i = get_or parts.made.nodes.sites i no_site

-- ---- signals

abbrev pub parts_stages : ProcParts → List StageNets
parts_stages parts = stages_of parts.scheduled parts.layout parts.made parts.at parts.nums

abbrev pub site_nets_at : ProcParts → ℕ → SiteNets
site_nets_at parts i = get_or (all_sites (parts_stages parts)) i (site_nets no_site 0 0)

-- a receive keeps its word behind the wires of its done bit
abbrev pub receive_nets : ProcParts → ℕ → ReceiveNets
receive_nets parts i = record {
  site = site_nets_at parts i;
  kept = (site_at parts i).kept;
  word = (site_at parts i).word;
  width = (site_at parts i).width;
  has = number_of (site_at parts i).own;
  keeps = suc (suc (suc (done_at parts.nums.sites parts.made.nodes.sites i)));
}

abbrev pub proc_nets : ProcParts → ProcNets
proc_nets parts = record {
  node = site_place parts.scheduled.proc.nodes;
  receive = receive_nets parts;
  sent = λ i. (site_at parts i).own;
  shown = shown_at parts.made.nodes.places;
}

abbrev pub pipeline_nets : ProcParts → PipelineNets
pipeline_nets parts = record {
  pipeline = pipeline_of parts.scheduled.channels parts.scheduled.proc parts.scheduled.stages;
  proc = parts.scheduled.proc;
  nets = proc_nets parts;
  stage = stage_of parts.scheduled.stages;
  carried = is_carried (stage_of parts.scheduled.stages) (proc_readers (stage_of parts.scheduled.stages) parts.scheduled.proc parts.scheduled.last);
  stages = parts_stages parts;
}

-- ---- what is known of them

-- they are those of a proc of a verified package with a legal schedule, whose registers stand from one on
pub record ArePut (ir : Package) (p clock k : ℕ) (parts : ProcParts) : Type 0 where
  pub verified : IsVerified ir
  pub there : slice_get ir.procs p ≡ Some parts.scheduled.proc
  pub channels : parts.scheduled.channels ≡ ir.channels
  pub legal : IsLegalAt (timed_nodes parts.scheduled.proc) clock parts.scheduled.stages
  pub depth : parts.scheduled.depth ≡ depth_of parts.scheduled.stages
  pub last : parts.scheduled.last ≡ turn_stage (timed_proc parts.scheduled.proc) parts.scheduled.stages
  pub laid : IsLaidOut parts.scheduled k parts.layout
  pub stages : HasStages parts.scheduled parts.layout parts.made parts.at

-- by these values all have their wires, where this is found at channels
pub record PartsDriven (v : Values) (run : Atom) (views : List ChannelView) (parts : ProcParts) : Type 0 where
  pub now : ProcDriven v run parts.scheduled parts.layout views parts.made parts.at
  pub next : NextsDriven v parts.scheduled parts.layout parts.made parts.at parts.nums

-- ---- what they find at channels

-- the signals of a channel are what a proc finds at it
pub record ShowsView (end : ChannelNets) (view : ChannelView) : Type 0 where
  pub valid : end.valid ≡ view.valid
  pub word : end.word ≡ view.word
  pub room : end.room ≡ view.room

-- a receive finds a word of its channel there, and in the register of the word that it keeps
abbrev pub KeepsWord : Values → List Channel → ProcNets → ℕ → Role → Type 0
KeepsWord v channels nets i role.Pure = Unit {0}
KeepsWord v channels nets i (role.Receive predicate c) =
    IsWordOf (width_at (channel_type channels c)) (atom_value v (nets.receive i).kept) × IsWordOf (width_at (channel_type channels c)) (atom_value v (nets.receive i).word)
KeepsWord v channels nets i (role.Send predicate c) = Unit {0}

abbrev pub KeepsWords : Values → List Channel → Proc → ProcNets → Type 0
KeepsWords v channels proc nets = (k : ℕ) (n : Node) → slice_get proc.nodes k ≡ Some n → KeepsWord v channels nets (site_index proc.nodes k) (role_of n)
