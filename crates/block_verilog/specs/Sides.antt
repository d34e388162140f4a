-- What stands at the ends of channels: whether a site there is asserted, and its word.
use Rattle.std.specs.Prelude.{◌≡◌, ℕ, Bool, true, false, not, ◌&&◌, ◌==◌, slice_get, List, Option, Some, None}
use Rattle.std.specs.List.{list_any}
use Rattle.net_core.specs.Cuts.{index_of}
use Rattle.net_core.specs.declared.net.Site.{Site}
use Rattle.ir_tree.specs.declared.package.Channel.{Channel}
use Rattle.ir_tree.specs.declared.package.Proc.{Proc}
use Rattle.ir_tree.specs.Activations.{sites_of}
use Rattle.vlog_tree.specs.declared.expression.Atom.{Atom}
use Rattle.vlog_tree.specs.Value.{Values}
use Rattle.block_build.specs.declared.netlist.fifos.ChannelEnds.{ChannelEnds}
use Rattle.block_build.specs.Netlist.Ends.{some_wires, some_net, word_wires, word_net}
use Rattle.block_build.specs.Netlist.Literals.{literal_atom}
use Rattle.block_build.specs.Netlist.Requests.{requests_at}
use Rattle.block_build.specs.Netlist.Wires.{AreWired}
use Rattle.block_verilog.specs.declared.pipelines.pipelines.ProcWires.{ProcWires}
use Rattle.block_verilog.specs.Ports.{flat_bits}

-- a site stands at an end of a channel
abbrev pub stands_at : Bool → ℕ → Site → Bool
stands_at true c site = site.sends && (site.chan == c)
stands_at false c site = not site.sends && (site.chan == c)

abbrev pub has_site : Bool → ℕ → Proc → Bool
has_site sends c proc = list_any (stands_at sends c) (sites_of proc.nodes)

-- the index of the proc that has sites there, or the number of procs
abbrev pub proc_at : List Proc → Bool → ℕ → ℕ
proc_at procs sends c = index_of (has_site sends c) procs

-- whether one of its sites is asserted stands on a signal
pub record SomeStands (v : Values) (one : ProcWires) (c : ℕ) (sends : Bool) (signal : Atom) : Type 0 where
  pub from : ℕ
  pub wired : AreWired v from (some_wires from (literal_atom 1 0) (requests_at c sends one.nodes.sites one.stages.handshakes.items))
  pub is : signal ≡ some_net from (literal_atom 1 0) (requests_at c sends one.nodes.sites one.stages.handshakes.items)

-- and the word of the one that is
pub record WordStands (v : Values) (one : ProcWires) (c width : ℕ) (signal : Atom) : Type 0 where
  pub from : ℕ
  pub wired : AreWired v from (word_wires width from (literal_atom width 0) (requests_at c true one.nodes.sites one.stages.handshakes.items))
  pub is : signal ≡ word_net from (literal_atom width 0) (requests_at c true one.nodes.sites one.stages.handshakes.items)

-- where there is no proc, zeros
abbrev pub SomeAt : Values → Option ProcWires → ℕ → Bool → Atom → Type 0
SomeAt v None c sends signal = signal ≡ literal_atom 1 0
SomeAt v (Some one) c sends signal = SomeStands v one c sends signal

abbrev pub WordAt : Values → Option ProcWires → ℕ → ℕ → Atom → Type 0
WordAt v None c width signal = signal ≡ literal_atom width 0
WordAt v (Some one) c width signal = WordStands v one c width signal

-- at the two ends of a channel, where these procs read and write it
pub record EndsAt (v : Values) (made : List ProcWires) (reader writer c width : ℕ) (end : ChannelEnds) : Type 0 where
  pub ready : SomeAt v (slice_get made reader) c false end.ready
  pub offered : SomeAt v (slice_get made writer) c true end.offered
  pub word : WordAt v (slice_get made writer) c width end.word

-- of the channel of an index
abbrev pub IsEnd : Values → List Proc → List ProcWires → List Channel → ℕ → ChannelEnds → Type 0
IsEnd v procs made channels c end = (channel : Channel) → slice_get channels c ≡ Some channel → EndsAt v made (proc_at procs false c) (proc_at procs true c) c (flat_bits channel) end
