-- The signals of a proc's nodes and sites.
use Rattle.std.specs.Prelude.{◌≡◌, ℕ, ◌<◌, Bool, true, false, List, [], ◌∷◌, ◌++◌, length, slice_get, Option, Some, None, option_to_list}
use Rattle.ir_tree.specs.declared.node.Node.{Node}
use Rattle.ir_tree.specs.declared.node.Operand.{Operand}
use Rattle.ir_tree.specs.declared.node.Role.{Role}
use Rattle.ir_tree.specs.declared.node.Role.TheVariants as role
use Rattle.ir_tree.specs.declared.package.Channel.{Channel}
use Rattle.ir_tree.specs.declared.package.Proc.{Proc}
use Rattle.ir_tree.specs.NodeValues.{role_of, count_sites}
use Rattle.ir_tree.specs.Types.{ty_of}
use Rattle.vlog_tree.specs.declared.expression.Atom.{Atom}
use Rattle.vlog_tree.specs.declared.expression.Atom.TheVariants as atom
use Rattle.vlog_tree.specs.declared.signal.Signal.{Signal}
use Rattle.vlog_tree.specs.Value.{Values}
use Rattle.block_build.specs.declared.netlist.fifos.ChannelView.{ChannelView}
use Rattle.block_build.specs.declared.netlist.places.Place.{Place}
use Rattle.block_build.specs.declared.netlist.scopes.Scope.{Scope}
use Rattle.block_build.specs.declared.netlist.sites.Site.{Site}
use Rattle.block_build.specs.Netlist.Gates.{choice_gate}
use Rattle.block_build.specs.Netlist.Leaves.{leaf_widths}
use Rattle.block_build.specs.Netlist.Literals.{literal_atom}
use Rattle.block_build.specs.Netlist.Nodes.{site_index, word_nets, ProcNets}
use Rattle.block_build.specs.Netlist.Places.{shown_at}
use Rattle.block_build.specs.Netlist.Pure.{PureShows, IsScopeOf}
use Rattle.block_build.specs.Netlist.Wires.{AreWired}
use Rattle.block_build.specs.Netlist.Words.{on_signal, CarriesSent, ShowsReceived}
use Rattle.block_verilog.specs.declared.signals.layout.ProcRegisters.{ProcRegisters}
use Rattle.block_build.specs.declared.netlist.layout.SiteRegisters.{SiteRegisters}
use Rattle.block_verilog.specs.declared.signals.procs.NodeWires.{NodeWires}
use Rattle.block_verilog.specs.declared.signals.procs.OwnSignals.{OwnSignals}
use Rattle.block_verilog.specs.Signals.Registers.{given_or, stage_at, registers_of_site, copies_from, state_place}
use Rattle.block_build.specs.Netlist.Nexts.{is_literal}
use Rattle.block_build.specs.Netlist.ProcRegisters.{channel_bits}

-- ---- what a proc finds at its channels

abbrev pub all_alike : Atom → ChannelView
all_alike a = record { valid = a; word = a; room = a }

-- at one that isn't there
abbrev pub nothing_there : ChannelView
nothing_there = all_alike (literal_atom 1 0)

abbrev pub channel_view : List ChannelView → ℕ → ChannelView
channel_view views c = given_or nothing_there (slice_get views c)

-- ---- a site

-- a receive, the word of which stands on a wire of its own
abbrev pub receive_site_of : ℕ → SiteRegisters → ChannelView → ℕ → ℕ → Atom → Signal → Site
receive_site_of stage registers view c width on has = record {
  channel = c;
  sends = false;
  stage = stage;
  on = on;
  done = atom.Signal registers.done;
  kept = atom.Signal registers.kept;
  partner = view.valid;
  word = view.word;
  width = width;
  own = atom.Signal has;
}

-- a send of this word
abbrev pub send_site_of : ℕ → SiteRegisters → ChannelView → ℕ → ℕ → Atom → Atom → Site
send_site_of stage registers view c width on word = record {
  channel = c;
  sends = true;
  stage = stage;
  on = on;
  done = atom.Signal registers.done;
  kept = atom.Signal registers.kept;
  partner = view.room;
  word = view.word;
  width = width;
  own = word;
}

-- ---- the signals of a node

pub record PurePut (v : Values) (scope : Scope) (n : Node) (own : OwnSignals) : Type 0 where
  pub shows : PureShows v scope n own.signals
  pub site : own.site ≡ None

-- on a wire stands the word that the receive keeps where it is done, else its channel's
pub record ReceivePut (v : Values) (scope : Scope) (registers : SiteRegisters) (view : ChannelView) (predicate : Option Operand) (c : ℕ) (own : OwnSignals) : Type 0 where
  pub has : Signal
  pub wired : AreWired v has.0 (choice_gate (channel_bits scope.channels.now c) (atom.Signal registers.done) (atom.Signal registers.kept) view.word ∷ [])
  pub shows : ShowsReceived v scope.channels.now c has.0 (on_signal scope predicate) own.signals
  pub site : own.site ≡ Some (receive_site_of scope.stage registers view c (channel_bits scope.channels.now c) (on_signal scope predicate) has)

pub record SendPut (v : Values) (scope : Scope) (registers : SiteRegisters) (view : ChannelView) (operands : List Operand) (predicate : Option Operand) (c : ℕ) (own : OwnSignals) : Type 0 where
  pub word : Atom
  pub carries : CarriesSent v scope operands word
  pub none : own.signals ≡ []
  pub site : own.site ≡ Some (send_site_of scope.stage registers view c (channel_bits scope.channels.now c) (on_signal scope predicate) word)

abbrev pub NodePut : Values → Scope → SiteRegisters → List ChannelView → Node → OwnSignals → Role → Type 0
NodePut v scope registers views n own role.Pure = PurePut v scope n own
NodePut v scope registers views n own (role.Receive predicate c) = ReceivePut v scope registers (channel_view views c) predicate c own
NodePut v scope registers views n own (role.Send predicate c) = SendPut v scope registers (channel_view views c) n.operands predicate c own

-- ---- all nodes

abbrev pub place_of : OwnSignals → ℕ → ℕ → Bool → Place
place_of own stage copies constant = record { stage = stage; own = own.signals; copies = copies; constant = constant }

-- one node more
abbrev pub with_node : NodeWires → OwnSignals → ℕ → ℕ → Bool → NodeWires
with_node made own stage copies constant = record {
  places = record { state = made.places.state; nodes = made.places.nodes ++ place_of own stage copies constant ∷ [] };
  sites = made.sites ++ option_to_list own.site;
}

-- the site of an index, if there is to be one
abbrev pub IsSiteAt : List Site → ℕ → Option Site → Type 0
IsSiteAt sites i None = Unit {0}
IsSiteAt sites i (Some site) = slice_get sites i ≡ Some site

-- node k has its place, in its stage, with a signal for each number in its value, and if it is a site its signals, by the registers and views of
-- channels
pub record NodeMade (v : Values) (channels : List Channel) (proc : Proc) (stages : List ℕ) (registers : ProcRegisters) (views : List ChannelView) (made : NodeWires) (k : ℕ) (n : Node) : Type 0 where
  pub scope : Scope
  pub own : OwnSignals
  pub stands : IsScopeOf scope channels proc k (shown_at made.places (stage_at stages k))
  pub stage : scope.stage ≡ stage_at stages k
  pub place : slice_get made.places.nodes k ≡ Some (place_of own (stage_at stages k) (copies_from registers k) (is_literal n.attributes))
  pub site : IsSiteAt made.sites (site_index proc.nodes k) own.site
  pub put : NodePut v scope (registers_of_site registers (site_index proc.nodes k)) views n own (role_of n)
  pub count : length own.signals ≡ length (leaf_widths (ty_of n.ty))

-- the first nodes
pub record FirstMade (v : Values) (channels : List Channel) (proc : Proc) (stages : List ℕ) (registers : ProcRegisters) (views : List ChannelView) (made : NodeWires) (i : ℕ) : Type 0 where
  pub state : made.places.state ≡ state_place proc.state registers
  pub count : length made.places.nodes ≡ i
  pub site_count : length made.sites ≡ site_index proc.nodes i
  pub each : (k : ℕ) (n : Node) → k < i → slice_get proc.nodes k ≡ Some n → NodeMade v channels proc stages registers views made k n

-- all
pub record NodesMade (v : Values) (channels : List Channel) (proc : Proc) (stages : List ℕ) (registers : ProcRegisters) (views : List ChannelView) (made : NodeWires) : Type 0 where
  pub state : made.places.state ≡ state_place proc.state registers
  pub count : length made.places.nodes ≡ length proc.nodes
  pub site_count : length made.sites ≡ count_sites 0 proc.nodes
  pub each : (k : ℕ) (n : Node) → slice_get proc.nodes k ≡ Some n → NodeMade v channels proc stages registers views made k n

-- ---- as a proc's signals

-- the number of the signal that an atom is
abbrev pub number_of : Atom → ℕ
number_of (atom.Signal s) = s.0
number_of (atom.Literal l) = 0

-- a proc's signals are these: those that show its operands, and that of the word that each receive has
pub record AreOfNodes (nets : ProcNets) (made : NodeWires) : Type 0 where
  pub shown : (j : ℕ) (o : Operand) → nets.shown j o ≡ shown_at made.places j o
  pub has : (i : ℕ) (site : Site) → slice_get made.sites i ≡ Some site → word_nets nets i ≡ number_of site.own
