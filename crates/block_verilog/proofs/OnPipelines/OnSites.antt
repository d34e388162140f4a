-- The signals of a proc's sites.
use Rattle.std.proofs.Common.{◌≡◌, ℕ, ◌<◌, List, [], ◌∷◌, length, Bool, true, false, Some, refl, sym, ap, ◌∙◌, subst, arith}
use Rattle.std.specs.Prelude.{slice_get}
use Rattle.std.proofs.lemmas.Option.{get_or_from_slice_get, slice_get_within}
use Rattle.net_core.specs.declared.net.Site as net_site
use Rattle.ir_tree.specs.declared.node.Node.{Node}
use Rattle.ir_tree.specs.declared.node.Operand.{Operand}
use Rattle.ir_tree.specs.declared.node.Role.{Role}
use Rattle.ir_tree.specs.declared.node.Role.TheVariants as role
use Rattle.ir_tree.specs.Activations.{activation, sites_of}
use Rattle.ir_tree.specs.NodeValues.{role_of}
use Rattle.vlog_tree.specs.declared.expression.Atom.{Atom}
use Rattle.vlog_tree.specs.declared.expression.Atom.TheVariants as atom
use Rattle.vlog_tree.specs.declared.signal.Signal.{Signal}
use Rattle.vlog_tree.specs.Value.{Values}
use Rattle.block_stage.specs.Machine.Pipeline.{IsPipeline}
use Rattle.block_build.specs.declared.netlist.fifos.ChannelView.{ChannelView}
use Rattle.block_build.specs.declared.netlist.layout.SiteRegisters.{SiteRegisters}
use Rattle.block_build.specs.declared.netlist.scopes.Scope.{Scope}
use Rattle.block_build.specs.declared.netlist.sites.Site.{Site}
use Rattle.block_build.specs.Netlist.Gates.{choice_gate}
use Rattle.block_build.specs.Netlist.Places.{shown_at}
use Rattle.block_build.specs.Netlist.ProcRegisters.{channel_bits}
use Rattle.block_build.specs.Netlist.Pure.{IsScopeOf}
use Rattle.block_build.specs.Netlist.Wires.{AreWired}
use Rattle.block_build.specs.Netlist.Words.{on_signal, CarriesSent}
use Rattle.block_verilog.specs.declared.signals.procs.OwnSignals.{OwnSignals}
use Rattle.block_verilog.specs.Signals.Nodes.{channel_view, receive_site_of, send_site_of, number_of, IsSiteAt, NodePut, NodesMade}
use Rattle.block_verilog.specs.Signals.Registers.{registers_of_site, stage_at}
use Rattle.block_verilog.specs.Schedule.Pipelines.{pipeline_of}
use Rattle.block_verilog.specs.Pipelines.Nets.{ProcParts, site_place, no_site, site_at}
use Rattle.block_verilog.proofs.OnPipelines.OnFound.{IsSiteOf, Found, site_found, sites_counted, stage_of_site}
use Rattle.block_verilog.proofs.OnPipelines.OnStages.{AreOrdered}

-- ---- one site

-- what is put for it, by what its node is
abbrev pub SiteIs : Values → Scope → List Operand → SiteRegisters → List ChannelView → Site → Role → Type 0
SiteIs v scope operands registers views site role.Pure = ⊥
SiteIs v scope operands registers views site (role.Receive predicate c) =
    (has : Signal)
    × (site ≡ receive_site_of scope.stage registers (channel_view views c) c (channel_bits scope.channels.now c) (on_signal scope predicate) has)
    × AreWired v has.0 (choice_gate (channel_bits scope.channels.now c) (atom.Signal registers.done) (atom.Signal registers.kept) (channel_view views c).word ∷ [])
SiteIs v scope operands registers views site (role.Send predicate c) =
    (word : Atom)
    × (site ≡ send_site_of scope.stage registers (channel_view views c) c (channel_bits scope.channels.now c) (on_signal scope predicate) word)
    × CarriesSent v scope operands word

record SitePut (v : Values) (scope : Scope) (operands : List Operand) (registers : SiteRegisters) (views : List ChannelView) (sites : List Site) (i : ℕ) (r : Role) : Type 0 where
  site : Site
  at : slice_get sites i ≡ Some site
  stage : site.stage ≡ scope.stage
  is : SiteIs v scope operands registers views site r

site_put : (v : Values) (scope : Scope) (n : Node) (registers : SiteRegisters) (views : List ChannelView) (sites : List Site) (i : ℕ) (own : OwnSignals) (net : net_site.Site) (r : Role) → IsSiteOf net r → NodePut v scope registers views n own r
    → IsSiteAt sites i own.site → SitePut v scope n.operands registers views sites i r
site_put v scope n registers views sites i own net role.Pure is put at = absurd is
site_put v scope n registers views sites i own net (role.Receive predicate c) is put at = record {
  site = receive_site_of scope.stage registers (channel_view views c) c (channel_bits scope.channels.now c) (on_signal scope predicate) put.has;
  at = subst (IsSiteAt sites i) put.site at;
  stage = refl;
  is = (put.has, refl, put.wired);
}
site_put v scope n registers views sites i own net (role.Send predicate c) is put at = record {
  site = send_site_of scope.stage registers (channel_view views c) c (channel_bits scope.channels.now c) (on_signal scope predicate) put.word;
  at = subst (IsSiteAt sites i) put.site at;
  stage = refl;
  is = (put.word, refl, put.carries);
}

-- ---- each site of a proc

pub record Stands (v : Values) (views : List ChannelView) (parts : ProcParts) (i : ℕ) : Type 0 where
  pub found : Found parts.scheduled.proc.nodes i
  pub scope : Scope
  pub stands : IsScopeOf scope parts.scheduled.channels parts.scheduled.proc (site_place parts.scheduled.proc.nodes i) (shown_at parts.made.nodes.places (stage_at parts.scheduled.stages (site_place parts.scheduled.proc.nodes i)))
  pub site : Site
  pub at : slice_get parts.made.nodes.sites i ≡ Some site
  pub stage : site.stage ≡ stage_at parts.scheduled.stages (site_place parts.scheduled.proc.nodes i)
  pub is : SiteIs v scope found.line.operands (registers_of_site parts.layout.registers i) views site (role_of found.line)

pub each_stands : (v : Values) (views : List ChannelView) (parts : ProcParts) → NodesMade v parts.scheduled.channels parts.scheduled.proc parts.scheduled.stages parts.layout.registers views parts.made.nodes
    → (i : ℕ) → i < length (sites_of parts.scheduled.proc.nodes) → Stands v views parts i
each_stands v views parts all i l =
    let nodes = parts.scheduled.proc.nodes in
    let f = site_found nodes i l in
    let m = all.each (site_place nodes i) f.line f.there in
    let put : NodePut v m.scope (registers_of_site parts.layout.registers i) views f.line m.own (role_of f.line) = subst (λ j. NodePut v m.scope (registers_of_site parts.layout.registers j) views f.line m.own (role_of f.line)) f.index m.put in
    let at : IsSiteAt parts.made.nodes.sites i m.own.site = subst (λ j. IsSiteAt parts.made.nodes.sites j m.own.site) f.index m.site in
    let s = site_put v m.scope f.line (registers_of_site parts.layout.registers i) views parts.made.nodes.sites i m.own f.site (role_of f.line) f.is put at in
    record { found = f; scope = m.scope; stands = m.stands; site = s.site; at = s.at; stage = s.stage ∙ m.stage; is = s.is }

-- ---- what is read of it

pub record SiteFacts (v : Values) (registers : SiteRegisters) (site : Site) (net : net_site.Site) : Type 0 where
  pub channel : site.channel ≡ net.chan
  pub sends : site.sends ≡ net.sends
  pub done : site.done ≡ atom.Signal registers.done
  pub kept : site.kept ≡ atom.Signal registers.kept
  pub has : site.sends ≡ false → AreWired v (number_of site.own) (choice_gate site.width site.done site.kept site.word ∷ [])

facts_by : (v : Values) (scope : Scope) (operands : List Operand) (registers : SiteRegisters) (views : List ChannelView) (site : Site) (net : net_site.Site) (r : Role) → IsSiteOf net r → SiteIs v scope operands registers views site r → SiteFacts v registers site net
facts_by v scope operands registers views site net role.Pure n is = absurd n
facts_by v scope operands registers views site net (role.Receive predicate c) n is = record {
  channel = ap (λ (s : Site). s.channel) is.1 ∙ sym (ap (λ (s : net_site.Site). s.chan) n);
  sends = ap (λ (s : Site). s.sends) is.1 ∙ sym (ap (λ (s : net_site.Site). s.sends) n);
  done = ap (λ (s : Site). s.done) is.1;
  kept = ap (λ (s : Site). s.kept) is.1;
  has = λ receives. subst (λ (s : Site). AreWired v (number_of s.own) (choice_gate s.width s.done s.kept s.word ∷ [])) (sym is.1) is.2;
}
facts_by v scope operands registers views site net (role.Send predicate c) n is = record {
  channel = ap (λ (s : Site). s.channel) is.1 ∙ sym (ap (λ (s : net_site.Site). s.chan) n);
  sends = ap (λ (s : Site). s.sends) is.1 ∙ sym (ap (λ (s : net_site.Site). s.sends) n);
  done = ap (λ (s : Site). s.done) is.1;
  kept = ap (λ (s : Site). s.kept) is.1;
  has = λ receives. let sends : site.sends ≡ true = ap (λ (s : Site). s.sends) is.1 in absurd (clash site.sends sends receives);
}
  where
    clash : (t : Bool) → t ≡ true → t ≡ false → ⊥
    clash t a b = cc

pub facts : (v : Values) (views : List ChannelView) (parts : ProcParts) (i : ℕ) (s : Stands v views parts i) → SiteFacts v (registers_of_site parts.layout.registers i) s.site s.found.site
facts v views parts i s = facts_by v s.scope s.found.line.operands (registers_of_site parts.layout.registers i) views s.site s.found.site (role_of s.found.line) s.found.is s.is

pub site_is : (v : Values) (views : List ChannelView) (parts : ProcParts) (i : ℕ) (s : Stands v views parts i) → site_at parts i ≡ s.site
site_is v views parts i s = get_or_from_slice_get parts.made.nodes.sites i s.site no_site s.at

-- ---- all

pub sites_are : (parts : ProcParts) → (activation parts.scheduled.channels parts.scheduled.proc).sites ≡ sites_of parts.scheduled.proc.nodes
unfolding activation
sites_are parts = refl

pub site_count : (v : Values) (views : List ChannelView) (parts : ProcParts) → NodesMade v parts.scheduled.channels parts.scheduled.proc parts.scheduled.stages parts.layout.registers views parts.made.nodes
    → length parts.made.nodes.sites ≡ length (sites_of parts.scheduled.proc.nodes)
site_count v views parts all = let e = sites_counted 0 parts.scheduled.proc.nodes in let f = all.site_count in omega (arith, e, f)

pub are_ordered : (v : Values) (views : List ChannelView) (parts : ProcParts) → NodesMade v parts.scheduled.channels parts.scheduled.proc parts.scheduled.stages parts.layout.registers views parts.made.nodes
    → length parts.scheduled.stages ≡ length parts.scheduled.proc.nodes → IsPipeline (pipeline_of parts.scheduled.channels parts.scheduled.proc parts.scheduled.stages)
    → AreOrdered (pipeline_of parts.scheduled.channels parts.scheduled.proc parts.scheduled.stages) parts.made.nodes.sites
are_ordered v views parts all long is =
    let count = site_count v views parts all in
    record {
      is = is;
      count = count ∙ sym (ap length (sites_are parts));
      stage = λ i site there.
          let within = slice_get_within parts.made.nodes.sites i site there in
          let l : i < length (sites_of parts.scheduled.proc.nodes) = omega (arith, within, count) in
          let s = each_stands v views parts all i l in
          let same : site ≡ s.site = some_same (sym there ∙ s.at) in
          ap (λ (x : Site). x.stage) same ∙ s.stage ∙ sym (stage_of_site parts.scheduled.proc.nodes parts.scheduled.stages i long l);
    }
  where
    some_same : {x y : Site} → Some x ≡ Some y → x ≡ y
    some_same e = cc
