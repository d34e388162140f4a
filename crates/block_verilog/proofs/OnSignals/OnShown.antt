-- The signals that are put for nodes show their values.
use Rattle.std.proofs.Common.{◌≡◌, ℕ, ◌+◌, ◌-◌, ◌*◌, List, length, Bool, true, Option, Some, refl, sym, ap, ◌∙◌, subst, arith}
use Rattle.std.specs.Prelude.{slice_get, nat_le, ◌||◌, if◌then◌else◌}
use Rattle.std.proofs.lemmas.Bool.Decides.{nat_tests}
use Rattle.ir_tree.specs.declared.node.Node.{Node}
use Rattle.ir_tree.specs.declared.node.Operand.{Operand}
use Rattle.ir_tree.specs.declared.node.Operand.TheVariants as operand
use Rattle.ir_tree.specs.declared.node.Role.{Role}
use Rattle.ir_tree.specs.declared.node.Role.TheVariants as role
use Rattle.ir_tree.specs.declared.package.Package.{Package}
use Rattle.ir_tree.specs.declared.package.Proc.{Proc}
use Rattle.ir_tree.specs.NodeValues.{role_of}
use Rattle.ir_tree.specs.Rules.Verified.{IsVerified}
use Rattle.vlog_tree.specs.declared.expression.Atom.{Atom}
use Rattle.vlog_tree.specs.Value.{Values}
use Rattle.block_build.specs.declared.netlist.fifos.ChannelView.{ChannelView}
use Rattle.block_build.specs.declared.netlist.sites.Site.{Site}
use Rattle.block_build.specs.Netlist.Leaves.{nets as wires}
use Rattle.block_build.specs.Netlist.Nodes.{site_index, word_nets, NodeShows, NodesShow, ProcNets}
use Rattle.block_build.specs.Netlist.Places.{optional_at, place_at}
use Rattle.block_build.specs.Netlist.Pure.{PureShows, IsScopeOf}
use Rattle.block_build.specs.Netlist.Words.{on_signal, ShowsReceived}
use Rattle.block_build.proofs.Lemmas.Netlist.Fitting.{verified_node_shows, verified_receive_shows, verified_send_shows}
use Rattle.block_verilog.specs.declared.signals.layout.ProcRegisters.{ProcRegisters}
use Rattle.block_verilog.specs.declared.signals.procs.NodeWires.{NodeWires}
use Rattle.block_verilog.specs.declared.signals.procs.OwnSignals.{OwnSignals}
use Rattle.block_verilog.specs.Signals.Nodes.{place_of, receive_site_of, channel_view, AreOfNodes, IsSiteAt, NodeMade, NodePut, NodesMade}
use Rattle.block_verilog.specs.Signals.Registers.{stage_at, stage_of, registers_of_site, copies_from}
use Rattle.block_build.specs.Netlist.Nexts.{is_literal}
use Rattle.block_build.specs.Netlist.ProcRegisters.{channel_bits}

-- in its own stage a value stands on its own signals
le_self : (j : ℕ) → nat_le j j ≡ true
le_self j = grind (arith, nat_tests)

own_place : (own : OwnSignals) (j copies : ℕ) (constant : Bool) → place_at j (place_of own j copies constant) ≡ own.signals
own_place own j copies constant = ap (λ t. if t || constant then own.signals else wires (copies + (j - j - 1) * length own.signals) (length own.signals)) (le_self j)

site_is : (sites : List Site) (i : ℕ) (o : Option Site) (site : Site) → o ≡ Some site → IsSiteAt sites i o → slice_get sites i ≡ Some site
site_is sites i o site e h = subst (IsSiteAt sites i) e h

node_shows : (ir : Package) (p : ℕ) (proc : Proc) → IsVerified ir → slice_get ir.procs p ≡ Some proc → (v : Values) (stages : List ℕ) (registers : ProcRegisters) (views : List ChannelView) (made : NodeWires) (nets : ProcNets) → AreOfNodes nets made
    → (k : ℕ) (n : Node) → slice_get proc.nodes k ≡ Some n → NodeMade v ir.channels proc stages registers views made k n
    → NodeShows v ir.channels proc.state proc.nodes (word_nets nets) (nets.shown (stage_at stages k)) k n
node_shows ir p proc h e v stages registers views made nets are k n there m = by (role_of n) refl m.put
  where
    shown : Operand → List Atom
    shown = nets.shown (stage_at stages k)

    stands : IsScopeOf m.scope ir.channels proc k shown
    stands = record {
      of = m.stands.of;
      state = m.stands.state;
      before = m.stands.before;
      earlier = λ o early. are.shown (stage_at stages k) o ∙ m.stands.earlier o early;
    }

    own_is : shown (operand.Node k) ≡ m.own.signals
    own_is =
        are.shown (stage_at stages k) (operand.Node k) ∙ ap (optional_at (stage_at stages k)) m.place
        ∙ own_place m.own (stage_at stages k) (copies_from registers k) (is_literal n.attributes)

    by : (r : Role) → role_of n ≡ r → NodePut v m.scope (registers_of_site registers (site_index proc.nodes k)) views n m.own r
        → NodeShows v ir.channels proc.state proc.nodes (word_nets nets) shown k n
    by role.Pure is put = verified_node_shows ir p proc h e k n there v m.scope shown stands is (word_nets nets) (subst (λ xs. PureShows v m.scope n xs) (sym own_is) put.shows)
    by (role.Receive predicate c) is put =
        let i = site_index proc.nodes k in
        let site = receive_site_of m.scope.stage (registers_of_site registers i) (channel_view views c) c (channel_bits m.scope.channels.now c) (on_signal m.scope predicate) put.has in
        let has : word_nets nets i ≡ put.has.0 = are.has i site (site_is made.sites i m.own.site site put.site m.site) in
        verified_receive_shows ir p proc h e k n there v m.scope shown stands predicate c is (word_nets nets)
        (subst (λ xs. ShowsReceived v ir.channels c (word_nets nets i) (on_signal m.scope predicate) xs) (sym own_is)
        (subst (λ s. ShowsReceived v ir.channels c s (on_signal m.scope predicate) m.own.signals) (sym has)
        (subst (λ cs. ShowsReceived v cs c put.has.0 (on_signal m.scope predicate) m.own.signals) m.stands.of put.shows)))
    by (role.Send predicate c) is put = verified_send_shows ir proc k n v shown predicate c is (word_nets nets) (own_is ∙ put.none)

pub made_nodes_show : (ir : Package) (p : ℕ) (proc : Proc) → IsVerified ir → slice_get ir.procs p ≡ Some proc → (v : Values) (stages : List ℕ) (registers : ProcRegisters) (views : List ChannelView) (made : NodeWires)
    → NodesMade v ir.channels proc stages registers views made → (nets : ProcNets) → AreOfNodes nets made → NodesShow v ir.channels proc nets (stage_of stages)
made_nodes_show ir p proc h e v stages registers views made all nets are = λ k n there. node_shows ir p proc h e v stages registers views made nets are k n there (all.each k n there)
