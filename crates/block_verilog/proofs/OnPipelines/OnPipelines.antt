-- A proc's pipeline, with all that its parts promise.
use Rattle.std.proofs.Common.{◌≡◌, ℕ, zero, suc, ◌+◌, ◌*◌, ◌<◌, List, [], ◌∷◌, length, get_or, map, Bool, true, false, cond, Some, refl, sym, ap, ◌∙◌, subst, arith}
use Rattle.std.specs.Prelude.{slice_get, ◌==◌}
use Rattle.std.proofs.lemmas.Option.{get_or_from_slice_get, slice_get_within}
use Rattle.xb_bits.specs.Word.{Word}
use Rattle.net_core.specs.Behavior.{IsWordOf}
use Rattle.ir_tree.specs.declared.node.Node.{Node}
use Rattle.ir_tree.specs.declared.node.Role.{Role}
use Rattle.ir_tree.specs.declared.node.Role.TheVariants as role
use Rattle.ir_tree.specs.declared.package.Channel.{Channel}
use Rattle.ir_tree.specs.declared.package.Package.{Package}
use Rattle.ir_tree.specs.Activations.{sites_of, width_at}
use Rattle.ir_tree.specs.NodeValues.{channel_type, role_of}
use Rattle.ir_tree.specs.Rules.Fitting.{type_in, types_behind}
use Rattle.pipe_schedule.specs.Legal.{turn_stage, depth_of}
use Rattle.pipe_schedule.specs.Timed.{timed_proc}
use Rattle.vlog_tree.specs.declared.expression.Atom.{Atom}
use Rattle.vlog_tree.specs.Value.{Values, atom_value}
use Rattle.block_stage.specs.Machine.Pipeline.{IsPipeline, first}
use Rattle.block_build.specs.declared.netlist.fifos.ChannelView.{ChannelView}
use Rattle.block_build.specs.declared.netlist.scopes.Scope.{Scope}
use Rattle.block_build.specs.declared.netlist.sites.Site.{Site}
use Rattle.block_build.specs.Netlist.Blocks.{ChannelNets, PartnersMade, AllPartnersMade}
use Rattle.block_build.specs.Netlist.Ends.{all_sites, end_requests}
use Rattle.block_build.specs.Netlist.Gates.{choice_gate}
use Rattle.block_build.specs.Netlist.Handshakes.{SiteNets}
use Rattle.block_build.specs.Netlist.Holding.{CarriesOn, AllSitesMade, HasChannelWidth, HaveChannelWidths, HasTypedValues, PipelineMade}
use Rattle.block_build.specs.Netlist.Layout.{is_carried, proc_readers}
use Rattle.block_build.specs.Netlist.Literals.{literal_atom}
use Rattle.block_build.specs.Netlist.Nexts.{move_of, sites_next_wires}
use Rattle.block_build.specs.Netlist.Nodes.{site_index, IsEarlier, ReadEarlierNodes, ProcNets, NodesShow}
use Rattle.block_build.specs.Netlist.ProcRegisters.{channel_bits}
use Rattle.block_build.specs.Netlist.Requests.{requests_at}
use Rattle.block_build.specs.Netlist.Stages.{StageNets, AreNext, IsControl, move_at}
use Rattle.block_build.specs.Netlist.Staging.{Later, shaken_at, move_nets, FullBitsGoOn, AllKeepWords}
use Rattle.block_build.specs.Netlist.Wires.{AreWired}
use Rattle.block_build.specs.Netlist.Words.{on_signal}
use Rattle.block_verilog.specs.declared.signals.procs.OwnSignals.{OwnSignals}
use Rattle.block_verilog.specs.Signals.Nodes.{channel_view, receive_site_of, number_of, AreOfNodes, IsSiteAt, NodePut, NodesMade}
use Rattle.block_verilog.specs.Signals.Registers.{registers_of_site, stage_of}
use Rattle.block_verilog.specs.Pipelines.Nets.{ProcParts, no_site, site_at, parts_stages, proc_nets, pipeline_nets, ArePut, PartsDriven, ShowsView, KeepsWord, KeepsWords}
use Rattle.block_verilog.specs.Pipelines.Pipelines.{HasStages, NextsDriven}
use Rattle.block_verilog.proofs.OnPipelines.OnMade.{pipeline, done_of, Placed, placed, site_made, sites_made, StageSites, all_sites_made, partner_made, partners_made, all_partners_made}
use Rattle.block_verilog.proofs.OnPipelines.OnRequests.{IsAsked, requests_are}
use Rattle.block_verilog.proofs.OnPipelines.OnSites.{each_stands, facts, site_is, sites_are, site_count, are_ordered}
use Rattle.block_verilog.proofs.OnPipelines.OnStaged.{stages_long, are_staged, next_is_early}
use Rattle.block_verilog.proofs.OnPipelines.OnStages.{OfStage, stages_stand, stages_count, all_sites_count}

-- ---- its stages go on

moves_at : (stages : List StageNets) (j : ℕ) (d : Atom) → j < length stages → get_or (move_nets stages) j d ≡ move_at stages j
moves_at [] j d l = absurd (omega (arith, l))
moves_at (one ∷ more) zero d l = refl
moves_at (one ∷ more) (suc j) d l = moves_at more j d (omega (arith, l))

-- what a stage that is there says of whether it moves
pub move_is : (parts : ProcParts) → HasStages parts.scheduled parts.layout parts.made parts.at → (j : ℕ) → j < parts.scheduled.depth → move_of parts.made.stages.moves.items j ≡ move_at (parts_stages parts) j
move_is parts has j l =
    let later : Later = record { moving = parts.at.moving; next = λ x. parts.nums.full + 3 * x; done = done_of parts } in
    let count : length (parts_stages parts) ≡ parts.scheduled.depth = stages_count parts.layout.registers.full later parts.at.first 0 0 parts.scheduled.depth parts.made.nodes.sites in
    ap (λ ms. move_of ms j) (has.moves (λ x. parts.nums.full + 3 * x) (done_of parts)) ∙ moves_at (parts_stages parts) j (literal_atom 1 0) (omega (arith, l, count))

pub record GoesOn (v : Values) (parts : ProcParts) : Type 0 where
  pub next : AreNext v (move_of parts.made.stages.moves.items parts.scheduled.last) (parts_stages parts)
  pub keep : AllKeepWords v (done_of parts) parts.at.first 0 0 parts.scheduled.depth parts.made.nodes.sites

pub goes_on : (v : Values) (parts : ProcParts) → HasStages parts.scheduled parts.layout parts.made parts.at → NextsDriven v parts.scheduled parts.layout parts.made parts.at parts.nums
    → (FullBitsGoOn v (move_of parts.made.stages.moves.items parts.scheduled.last) (parts_stages parts)
    → AreWired v parts.nums.sites (sites_next_wires parts.nums.sites (move_nets (parts_stages parts)) parts.made.nodes.sites (map shaken_at (all_sites (parts_stages parts))))
    → AreNext v (move_of parts.made.stages.moves.items parts.scheduled.last) (parts_stages parts) × AllKeepWords v (done_of parts) parts.at.first 0 0 parts.scheduled.depth parts.made.nodes.sites)
    → GoesOn v parts
goes_on v parts has d law =
    let next : ℕ → ℕ = λ x. parts.nums.full + 3 * x in
    let wired = subst (λ hs. AreWired v parts.nums.sites (sites_next_wires parts.nums.sites (move_nets (parts_stages parts)) parts.made.nodes.sites hs)) (has.handshakes next (done_of parts))
    (subst (λ ms. AreWired v parts.nums.sites (sites_next_wires parts.nums.sites ms parts.made.nodes.sites parts.made.stages.handshakes.items)) (has.moves next (done_of parts)) d.sites) in
    let both = law d.full wired in
    record { next = both.0; keep = both.1 }

-- ---- its stages stand

pub record Known (ir : Package) (p clock k : ℕ) (v : Values) (run : Atom) (views : List ChannelView) (parts : ProcParts) : Type 0 where
  pub put : ArePut ir p clock k parts
  pub driven : PartsDriven v run views parts
  pub is : IsPipeline (pipeline parts)
  pub goes : GoesOn v parts

pub known_long : (ir : Package) (p clock k : ℕ) (v : Values) (run : Atom) (views : List ChannelView) (parts : ProcParts) → Known ir p clock k v run views parts → length parts.scheduled.stages ≡ length parts.scheduled.proc.nodes
known_long ir p clock k v run views parts w = stages_long parts.scheduled.proc clock parts.scheduled.stages w.put.legal

pub stage_stands : (ir : Package) (p clock k : ℕ) (v : Values) (run : Atom) (views : List ChannelView) (parts : ProcParts) → Known ir p clock k v run views parts → (x : ℕ) (one : StageNets) → slice_get (parts_stages parts) x ≡ Some one
    → OfStage v (pipeline parts) parts.made.nodes.sites parts.layout.registers.full (record { moving = parts.at.moving; next = λ j. parts.nums.full + 3 * j; done = done_of parts }) (all_sites (parts_stages parts)) x one
stage_stands ir p clock k v run views parts w x one there =
    let later : Later = record { moving = parts.at.moving; next = λ j. parts.nums.full + 3 * j; done = done_of parts } in
    stages_stand v (pipeline parts) parts.made.nodes.sites parts.layout.registers.full later parts.scheduled.depth parts.at.first
    (are_ordered v views parts w.driven.now.nodes (known_long ir p clock k v run views parts w) w.is) w.put.depth w.goes.keep x one there

-- each site of a stage, by its index
pub each_placed : (ir : Package) (p clock k : ℕ) (v : Values) (run : Atom) (views : List ChannelView) (parts : ProcParts) → Known ir p clock k v run views parts → (x : ℕ) (one : StageNets) → slice_get (parts_stages parts) x ≡ Some one
    → (m : ℕ) (own : SiteNets) → slice_get one.sites m ≡ Some own → Placed v views parts x (first (pipeline parts) x + m) own
each_placed ir p clock k v run views parts w x one there m own e =
    let i = first (pipeline parts) x + m in
    let o = (stage_stands ir p clock k v run views parts w x one there).each m own e in
    let within = slice_get_within parts.made.nodes.sites i o.site o.at in
    let count = site_count v views parts w.driven.now.nodes in
    let l : i < length (sites_of parts.scheduled.proc.nodes) = omega (arith, within, count) in
    placed v views parts x i own (known_long ir p clock k v run views parts w) l o (each_stands v views parts w.driven.now.nodes i l)

stage_sites : (ir : Package) (p clock k : ℕ) (v : Values) (run : Atom) (views : List ChannelView) (parts : ProcParts) → Known ir p clock k v run views parts → (x : ℕ) (one : StageNets) → slice_get (parts_stages parts) x ≡ Some one → StageSites v parts x one
stage_sites ir p clock k v run views parts w x one there = record {
  made = sites_made v parts x (first (pipeline parts) x) one.sites
      (λ m own e. site_made ir p clock k parts w.put v views x (first (pipeline parts) x + m) own (each_placed ir p clock k v run views parts w x one there m own e));
  count = (stage_stands ir p clock k v run views parts w x one there).count;
}

pub all_made : (ir : Package) (p clock k : ℕ) (v : Values) (run : Atom) (views : List ChannelView) (parts : ProcParts) → Known ir p clock k v run views parts
    → AllSitesMade v parts.scheduled.proc (proc_nets parts) (stage_of parts.scheduled.stages) (pipeline parts) 0 (parts_stages parts)
all_made ir p clock k v run views parts w =
    all_sites_made v parts 0 (parts_stages parts) (λ x one e. let at : x ≡ 0 + x = omega arith in subst (λ y. StageSites v parts y one) at (stage_sites ir p clock k v run views parts w x one e))

-- ---- its partners

pub partners_are : (ir : Package) (p clock k : ℕ) (v : Values) (run : Atom) (views : List ChannelView) (parts : ProcParts) → Known ir p clock k v run views parts → (ends : ℕ → ChannelNets) → ((c : ℕ) → ShowsView (ends c) (channel_view views c))
    → AllPartnersMade parts.scheduled.proc (proc_nets parts) ends (pipeline parts) 0 (parts_stages parts)
partners_are ir p clock k v run views parts w ends shows =
    all_partners_made parts ends 0 (parts_stages parts)
    (λ x one e.
    let at : x ≡ 0 + x = omega arith in
    subst (λ y. PartnersMade parts.scheduled.proc (proc_nets parts) ends (first (pipeline parts) y) one.sites) at
    (partners_made parts ends (first (pipeline parts) x) one.sites
    (λ m own f. partner_made v views parts x (first (pipeline parts) x + m) own (each_placed ir p clock k v run views parts w x one e m own f) ends shows)))

-- ---- what it asks

pub requests_same : (ir : Package) (p clock k : ℕ) (v : Values) (run : Atom) (views : List ChannelView) (parts : ProcParts) → Known ir p clock k v run views parts → (chan : ℕ) (sends : Bool)
    → requests_at chan sends parts.made.nodes.sites parts.made.stages.handshakes.items ≡ end_requests (pipeline parts).proc.behavior.sites chan sends (proc_nets parts).sent 0 (all_sites (parts_stages parts))
requests_same ir p clock k v run views parts w chan sends =
    let all = w.driven.now.nodes in
    let long = known_long ir p clock k v run views parts w in
    let later : Later = record { moving = parts.at.moving; next = λ j. parts.nums.full + 3 * j; done = done_of parts } in
    let count = all_sites_count (pipeline parts) parts.made.nodes.sites parts.layout.registers.full later parts.scheduled.depth parts.at.first (are_ordered v views parts all long w.is) w.put.depth in
    ap (requests_at chan sends parts.made.nodes.sites) (w.put.stages.handshakes (λ j. parts.nums.full + 3 * j) (done_of parts))
    ∙ requests_are (sites_of parts.scheduled.proc.nodes) (proc_nets parts).sent chan sends 0 parts.made.nodes.sites (all_sites (parts_stages parts)) count
    (λ m site e. let at : m ≡ 0 + m = omega arith in subst (λ i. IsAsked (sites_of parts.scheduled.proc.nodes) (proc_nets parts).sent i site) at (asked m site e))
    ∙ ap (λ nets. end_requests nets chan sends (proc_nets parts).sent 0 (all_sites (parts_stages parts))) (sym (sites_are parts))
  where
    asked : (m : ℕ) (site : Site) → slice_get parts.made.nodes.sites m ≡ Some site → IsAsked (sites_of parts.scheduled.proc.nodes) (proc_nets parts).sent m site
    asked m site e =
        let within = slice_get_within parts.made.nodes.sites m site e in
        let count = site_count v views parts w.driven.now.nodes in
        let s = each_stands v views parts w.driven.now.nodes m (omega (arith, within, count)) in
        let f = facts v views parts m s in
        let same : site ≡ s.site = some_same (sym e ∙ s.at) in
        record {
          end = s.found.site;
          there = s.found.at;
          channel = ap (λ (t : Site). t.channel) same ∙ f.channel;
          sends = ap (λ (t : Site). t.sends) same ∙ f.sends;
          own = ap (λ (t : Site). t.own) (site_is v views parts m s ∙ sym same);
        }
      where
        some_same : {y z : Site} → Some y ≡ Some z → y ≡ z
        some_same f = cc

-- ---- widths

either_word : (t : Bool) (w : ℕ) (a b : Word) → IsWordOf w a → IsWordOf w b → IsWordOf w (cond t a b)
either_word true w a b p q = p
either_word false w a b p q = q

width_by : (v : Values) (channels : List Channel) (views : List ChannelView) (parts : ProcParts) (i : ℕ) (scope : Scope) (n : Node) (own : OwnSignals) (r : Role) → IsSiteAt parts.made.nodes.sites i own.site
    → NodePut v scope (registers_of_site parts.layout.registers i) views n own r → KeepsWord v channels (proc_nets parts) i r → HasChannelWidth v channels (proc_nets parts) i r
width_by v channels views parts i scope n own role.Pure at put h = tt
width_by v channels views parts i scope n own (role.Receive predicate c) at put h =
    let site = receive_site_of scope.stage (registers_of_site parts.layout.registers i) (channel_view views c) c (channel_bits scope.channels.now c) (on_signal scope predicate) put.has in
    let is : site_at parts i ≡ site = get_or_from_slice_get parts.made.nodes.sites i site no_site (subst (IsSiteAt parts.made.nodes.sites i) put.site at) in
    let wired = subst (λ (t : Site). AreWired v (number_of t.own) (choice_gate t.width t.done t.kept t.word ∷ [])) (sym is) put.wired in
    subst (IsWordOf (width_at (channel_type channels c))) (sym wired.0)
    (either_word ((atom_value v (site_at parts i).done).value == 0) (width_at (channel_type channels c)) (atom_value v (site_at parts i).word) (atom_value v (site_at parts i).kept) h.1 h.0)
width_by v channels views parts i scope n own (role.Send predicate c) at put h = tt

have_widths : (v : Values) (views : List ChannelView) (parts : ProcParts) → NodesMade v parts.scheduled.channels parts.scheduled.proc parts.scheduled.stages parts.layout.registers views parts.made.nodes
    → KeepsWords v parts.scheduled.channels parts.scheduled.proc (proc_nets parts) → HaveChannelWidths v parts.scheduled.channels parts.scheduled.proc (proc_nets parts)
have_widths v views parts all keep = λ j n there.
    let m = all.each j n there in
    width_by v parts.scheduled.channels views parts (site_index parts.scheduled.proc.nodes j) m.scope n m.own (role_of n) m.site m.put (keep j n there)

-- ---- all

are_of_nodes : (parts : ProcParts) → AreOfNodes (proc_nets parts) parts.made.nodes
are_of_nodes parts = record {
  shown = λ j o. refl;
  has = λ i site there. ap (λ (t : Site). number_of t.own) (get_or_from_slice_get parts.made.nodes.sites i site no_site there);
}

-- what its nodes promise, in the words of the law
abbrev pub ShowLaw : Package → Values → List ChannelView → ProcParts → Type 0
ShowLaw ir v views parts =
    NodesMade v ir.channels parts.scheduled.proc parts.scheduled.stages parts.layout.registers views parts.made.nodes → (nets : ProcNets) → AreOfNodes nets parts.made.nodes
    → NodesShow v ir.channels parts.scheduled.proc nets (stage_of parts.scheduled.stages)

pub nodes_show : (ir : Package) (v : Values) (views : List ChannelView) (parts : ProcParts) → parts.scheduled.channels ≡ ir.channels
    → NodesMade v parts.scheduled.channels parts.scheduled.proc parts.scheduled.stages parts.layout.registers views parts.made.nodes → ShowLaw ir v views parts
    → NodesShow v ir.channels parts.scheduled.proc (proc_nets parts) (stage_of parts.scheduled.stages)
nodes_show ir v views parts same all law =
    law (subst (λ cs. NodesMade v cs parts.scheduled.proc parts.scheduled.stages parts.layout.registers views parts.made.nodes) same all) (proc_nets parts) (are_of_nodes parts)

-- the next state stands in the stage in which an activation gives the turn back
last_within : (ir : Package) (p clock k : ℕ) (parts : ProcParts) → ArePut ir p clock k parts → IsPipeline (pipeline parts) → parts.scheduled.last < parts.scheduled.depth
last_within ir p clock k parts a is =
    let last = a.last in
    let depth = a.depth in
    let within : turn_stage (timed_proc parts.scheduled.proc) parts.scheduled.stages < depth_of parts.scheduled.stages = is.last in
    omega (arith, last, depth, within)

control_made : (ir : Package) (p clock k : ℕ) (v : Values) (run : Atom) (views : List ChannelView) (parts : ProcParts) → Known ir p clock k v run views parts → IsControl v run (pipeline parts) (parts_stages parts)
control_made ir p clock k v run views parts w = record {
  count = stages_count parts.layout.registers.full (record { moving = parts.at.moving; next = λ x. parts.nums.full + 3 * x; done = done_of parts }) parts.at.first 0 0 parts.scheduled.depth parts.made.nodes.sites ∙ w.put.depth;
  now = w.driven.now.stages (λ x. parts.nums.full + 3 * x) (done_of parts);
  next = subst (λ a. AreNext v a (parts_stages parts))
      (move_is parts w.put.stages parts.scheduled.last (last_within ir p clock k parts w.put w.is) ∙ ap (move_at (parts_stages parts)) w.put.last) w.goes.next;
}

pub pipeline_made : (ir : Package) (p clock k : ℕ) (v : Values) (run : Atom) (views : List ChannelView) (parts : ProcParts) → Known ir p clock k v run views parts → KeepsWords v parts.scheduled.channels parts.scheduled.proc (proc_nets parts)
    → ReadEarlierNodes parts.scheduled.proc.nodes → IsEarlier (length parts.scheduled.proc.nodes) parts.scheduled.proc.next → type_in (types_behind parts.scheduled.proc.state parts.scheduled.proc.nodes) parts.scheduled.proc.next ≡ parts.scheduled.proc.state
    → HasTypedValues ir.channels parts.scheduled.proc
    → CarriesOn parts.scheduled.proc parts.scheduled.last (stage_of parts.scheduled.stages) (is_carried (stage_of parts.scheduled.stages) (proc_readers (stage_of parts.scheduled.stages) parts.scheduled.proc parts.scheduled.last))
    → NodesShow v ir.channels parts.scheduled.proc (proc_nets parts) (stage_of parts.scheduled.stages)
    → let one = pipeline_nets parts in PipelineMade v run parts.scheduled.channels one.proc one.nets one.stage one.carried one.pipeline one.stages
pipeline_made ir p clock k v run views parts w keep early there typed types carries shows =
    let proc = parts.scheduled.proc in
    let stages = parts.scheduled.stages in
    record {
      legal = w.is;
      behaves = refl;
      staged = are_staged proc clock stages w.put.legal early;
      carries = subst (λ l. CarriesOn proc l (stage_of stages) (is_carried (stage_of stages) (proc_readers (stage_of stages) proc parts.scheduled.last))) w.put.last carries;
      types = subst (λ cs. HasTypedValues cs proc) (sym w.put.channels) types;
      next_early = next_is_early proc stages;
      next_there = there;
      next_typed = typed;
      control = control_made ir p clock k v run views parts w;
      sites = all_made ir p clock k v run views parts w;
      shows = subst (λ cs. NodesShow v cs proc (proc_nets parts) (stage_of stages)) (sym w.put.channels) shows;
      widths = have_widths v views parts w.driven.now.nodes keep;
    }
