-- Each part of a proc's pipeline promises what it is to.
use Rattle.std.proofs.Common.{◌≡◌, ℕ, suc, ◌+◌, ◌-◌, ◌<◌, List, [], ◌∷◌, length, false, Some, refl, sym, ap, ◌∙◌, subst, arith}
use Rattle.std.specs.Prelude.{slice_get}
use Rattle.std.proofs.lemmas.Option.{get_or_from_slice_get}
use Rattle.net_core.specs.declared.net.Site as net_site
use Rattle.ir_tree.specs.declared.node.Node.{Node}
use Rattle.ir_tree.specs.declared.node.Operand.{Operand}
use Rattle.ir_tree.specs.declared.node.Role.{Role}
use Rattle.ir_tree.specs.declared.node.Role.TheVariants as role
use Rattle.ir_tree.specs.declared.package.Package.{Package}
use Rattle.ir_tree.specs.Activations.{sites_of}
use Rattle.ir_tree.specs.NodeValues.{role_of}
use Rattle.vlog_tree.specs.Value.{Values, atom_value}
use Rattle.block_stage.specs.Machine.Pipeline.{Pipeline, first}
use Rattle.block_build.specs.declared.netlist.fifos.ChannelView.{ChannelView}
use Rattle.block_build.specs.declared.netlist.layout.SiteRegisters.{SiteRegisters}
use Rattle.block_build.specs.declared.netlist.scopes.Scope.{Scope}
use Rattle.block_build.specs.declared.netlist.sites.Site.{Site}
use Rattle.block_build.specs.Netlist.Blocks.{ChannelNets, PartnerMade, PartnersMade, AllPartnersMade}
use Rattle.block_build.specs.Netlist.Ends.{all_sites}
use Rattle.block_build.specs.Netlist.Gates.{choice_gate}
use Rattle.block_build.specs.Netlist.Handshakes.{SiteNets}
use Rattle.block_build.specs.Netlist.Holding.{ReceiveMade, SendMade, SiteMade, SitesMade, AllSitesMade}
use Rattle.block_build.specs.Netlist.Leaves.{ShowsValue}
use Rattle.block_build.specs.Netlist.Nexts.{done_at}
use Rattle.block_build.specs.Netlist.Nodes.{predicate_of, IsOnSignal}
use Rattle.block_build.specs.Netlist.Places.{shown_at}
use Rattle.block_build.specs.Netlist.Pure.{IsScopeOf}
use Rattle.block_build.specs.Netlist.Receives.{ReceiveWired}
use Rattle.block_build.specs.Netlist.Sites.{site_nets}
use Rattle.block_build.specs.Netlist.Stages.{StageNets}
use Rattle.block_build.specs.Netlist.Wires.{AreWired}
use Rattle.block_build.specs.Netlist.Words.{on_signal}
use Rattle.block_build.proofs.Lemmas.Netlist.Fitting.{verified_site_is_on, verified_send_carries}
use Rattle.block_verilog.specs.Signals.Nodes.{channel_view, number_of}
use Rattle.block_verilog.specs.Signals.Registers.{stage_at, stage_of, registers_of_site}
use Rattle.block_verilog.specs.Schedule.Pipelines.{pipeline_of}
use Rattle.block_verilog.specs.Pipelines.Nets.{ProcParts, site_place, no_site, site_at, parts_stages, site_nets_at, receive_nets, proc_nets, ArePut, ShowsView}
use Rattle.block_verilog.proofs.OnPipelines.OnFound.{IsSiteOf, stage_of_site}
use Rattle.block_verilog.proofs.OnPipelines.OnSites.{SiteIs, Stands, facts, site_is}
use Rattle.block_verilog.proofs.OnPipelines.OnStages.{KeepsBy, SiteOfStage}

-- ---- one site

-- its pipeline, and the number of the first wire of those by which a site's done bit goes on
abbrev pub pipeline : ProcParts → Pipeline
pipeline parts = pipeline_of parts.scheduled.channels parts.scheduled.proc parts.scheduled.stages

abbrev pub done_of : ProcParts → ℕ → ℕ
done_of parts = done_at parts.nums.sites parts.made.nodes.sites

-- a site of a stage, with what is put for it
pub record Placed (v : Values) (views : List ChannelView) (parts : ProcParts) (j i : ℕ) (own : SiteNets) : Type 0 where
  pub of : SiteOfStage v (pipeline parts) parts.made.nodes.sites (done_of parts) (all_sites (parts_stages parts)) j i own
  pub put : Stands v views parts i
  pub same : of.site ≡ put.site
  pub nets : site_nets_at parts i ≡ own
  pub stands : stage_at parts.scheduled.stages (site_place parts.scheduled.proc.nodes i) ≡ j

pub placed : (v : Values) (views : List ChannelView) (parts : ProcParts) (j i : ℕ) (own : SiteNets) → length parts.scheduled.stages ≡ length parts.scheduled.proc.nodes → i < length (sites_of parts.scheduled.proc.nodes)
    → SiteOfStage v (pipeline parts) parts.made.nodes.sites (done_of parts) (all_sites (parts_stages parts)) j i own → Stands v views parts i → Placed v views parts j i own
placed v views parts j i own long within o s = record {
  of = o;
  put = s;
  same = some_same (sym o.at ∙ s.at);
  nets = get_or_from_slice_get (all_sites (parts_stages parts)) i own (site_nets no_site 0 0) o.place;
  stands = sym (stage_of_site parts.scheduled.proc.nodes parts.scheduled.stages i long within) ∙ o.stands;
}
  where
    some_same : {x y : Site} → Some x ≡ Some y → x ≡ y
    some_same e = cc

-- what is put says whether it is on
on_by : (v : Values) (scope : Scope) (operands : List Operand) (registers : SiteRegisters) (views : List ChannelView) (site : Site) (r : Role) → SiteIs v scope operands registers views site r → site.on ≡ on_signal scope (predicate_of r)
on_by v scope operands registers views site role.Pure is = absurd is
on_by v scope operands registers views site (role.Receive predicate c) is = ap (λ (s : Site). s.on) is.1
on_by v scope operands registers views site (role.Send predicate c) is = ap (λ (s : Site). s.on) is.1

scope_of : (ir : Package) (p clock k : ℕ) (parts : ProcParts) → ArePut ir p clock k parts → (v : Values) (views : List ChannelView) (i : ℕ) (s : Stands v views parts i)
    → IsScopeOf s.scope ir.channels parts.scheduled.proc (site_place parts.scheduled.proc.nodes i) (shown_at parts.made.nodes.places (stage_at parts.scheduled.stages (site_place parts.scheduled.proc.nodes i)))
scope_of ir p clock k parts a v views i s =
    subst (λ cs. IsScopeOf s.scope cs parts.scheduled.proc (site_place parts.scheduled.proc.nodes i) (shown_at parts.made.nodes.places (stage_at parts.scheduled.stages (site_place parts.scheduled.proc.nodes i)))) a.channels s.stands

site_on : (ir : Package) (p clock k : ℕ) (parts : ProcParts) → ArePut ir p clock k parts → (v : Values) (views : List ChannelView) (j i : ℕ) (own : SiteNets) (x : Placed v views parts j i own)
    → IsOnSignal v parts.scheduled.proc.state parts.scheduled.proc.nodes (shown_at parts.made.nodes.places j) (predicate_of (role_of x.put.found.line)) own.on
site_on ir p clock k parts a v views j i own x =
    let s = x.put in
    let on : own.on ≡ on_signal s.scope (predicate_of (role_of s.found.line)) =
    ap (λ (n : SiteNets). n.on) x.of.is ∙ ap (λ (t : Site). t.on) x.same ∙ on_by v s.scope s.found.line.operands (registers_of_site parts.layout.registers i) views s.site (role_of s.found.line) s.is in
    subst (λ m. IsOnSignal v parts.scheduled.proc.state parts.scheduled.proc.nodes (shown_at parts.made.nodes.places m) (predicate_of (role_of s.found.line)) own.on) x.stands
    (verified_site_is_on ir p parts.scheduled.proc a.verified a.there (site_place parts.scheduled.proc.nodes i) s.found.line s.found.there v s.scope
    (shown_at parts.made.nodes.places (stage_at parts.scheduled.stages (site_place parts.scheduled.proc.nodes i))) (scope_of ir p clock k parts a v views i s) own.on on)

receive_wired : (v : Values) (views : List ChannelView) (parts : ProcParts) (j i : ℕ) (own : SiteNets) (x : Placed v views parts j i own) → x.put.site.sends ≡ false → ReceiveWired v (receive_nets parts i)
receive_wired v views parts j i own x receives =
    let s = x.put in
    let f = facts v views parts i s in
    let at : s.site ≡ site_at parts i = sym (site_is v views parts i s) in
    let done : s.site.done ≡ (site_nets_at parts i).done = sym (ap (λ (n : SiteNets). n.done) x.nets ∙ ap (λ (n : SiteNets). n.done) x.of.is ∙ ap (λ (t : Site). t.done) x.same) in
    let keeps : KeepsBy v (done_of parts) i (site_at parts i) (site_nets_at parts i) =
    subst (KeepsBy v (done_of parts) i (site_at parts i)) (sym x.nets) (subst (λ t. KeepsBy v (done_of parts) i t own) (x.same ∙ at) x.of.keeps) in
    record {
      has = subst (λ (t : Site). AreWired v (number_of t.own) (choice_gate t.width (site_nets_at parts i).done t.kept t.word ∷ [])) at
          (subst (λ d. AreWired v (number_of s.site.own) (choice_gate s.site.width d s.site.kept s.site.word ∷ [])) done (f.has receives));
      keeps = keeps (subst (λ (t : Site). t.sends ≡ false) at receives);
    }

receive_made : (v : Values) (views : List ChannelView) (parts : ProcParts) (j i : ℕ) (own : SiteNets) (x : Placed v views parts j i own) (r : Role) → IsSiteOf x.put.found.site r → ReceiveMade v (proc_nets parts) own i r
receive_made v views parts j i own x role.Pure is = tt
receive_made v views parts j i own x (role.Receive predicate c) is =
    (x.nets, receive_wired v views parts j i own x ((facts v views parts i x.put).sends ∙ ap (λ (t : net_site.Site). t.sends) is))
receive_made v views parts j i own x (role.Send predicate c) is = tt

send_made : (ir : Package) (p clock k : ℕ) (parts : ProcParts) → ArePut ir p clock k parts → (v : Values) (views : List ChannelView) (j i : ℕ) (own : SiteNets) (x : Placed v views parts j i own) (r : Role) → role_of x.put.found.line ≡ r
    → SiteIs v x.put.scope x.put.found.line.operands (registers_of_site parts.layout.registers i) views x.put.site r → SendMade v parts.scheduled.proc (proc_nets parts) j i x.put.found.line r
send_made ir p clock k parts a v views j i own x role.Pure e is = tt
send_made ir p clock k parts a v views j i own x (role.Receive predicate c) e is = tt
send_made ir p clock k parts a v views j i own x (role.Send predicate c) e is =
    let s = x.put in
    let place = site_place parts.scheduled.proc.nodes i in
    let given = verified_send_carries ir p parts.scheduled.proc a.verified a.there place s.found.line s.found.there v s.scope (shown_at parts.made.nodes.places (stage_at parts.scheduled.stages place))
    (scope_of ir p clock k parts a v views i s) predicate c e is.0 is.2 in
    let word : (site_at parts i).own ≡ is.0 = ap (λ (t : Site). t.own) (site_is v views parts i s ∙ is.1) in (
      given.0,
      given.1,
      λ value fits shows.
          ap (atom_value v) word ∙ given.2 value fits (subst (λ m. ShowsValue v (shown_at parts.made.nodes.places m given.0) value) (sym x.stands) shows),
    )

pub site_made : (ir : Package) (p clock k : ℕ) (parts : ProcParts) → ArePut ir p clock k parts → (v : Values) (views : List ChannelView) (j i : ℕ) (own : SiteNets) → Placed v views parts j i own
    → SiteMade v parts.scheduled.proc (proc_nets parts) (stage_of parts.scheduled.stages) j i own
site_made ir p clock k parts a v views j i own x = record {
  line = x.put.found.line;
  there = x.put.found.there;
  stands = x.stands;
  index = x.put.found.index;
  on = site_on ir p clock k parts a v views j i own x;
  receive = receive_made v views parts j i own x (role_of x.put.found.line) x.put.found.is;
  send = send_made ir p clock k parts a v views j i own x (role_of x.put.found.line) refl x.put.is;
}

-- ---- all sites

pub sites_made : (v : Values) (parts : ProcParts) (j i : ℕ) (sites : List SiteNets) → ((m : ℕ) (own : SiteNets) → slice_get sites m ≡ Some own → SiteMade v parts.scheduled.proc (proc_nets parts) (stage_of parts.scheduled.stages) j (i + m) own)
    → SitesMade v parts.scheduled.proc (proc_nets parts) (stage_of parts.scheduled.stages) j i sites
sites_made v parts j i [] each = tt
sites_made v parts j i (own ∷ sites) each =
    let at : i + 0 ≡ i = omega arith in (
      subst (λ m. SiteMade v parts.scheduled.proc (proc_nets parts) (stage_of parts.scheduled.stages) j m own) at (each 0 own refl),
      sites_made v parts j (suc i) sites (λ m s e. let sum : i + suc m ≡ suc i + m = omega arith in
          subst (λ x. SiteMade v parts.scheduled.proc (proc_nets parts) (stage_of parts.scheduled.stages) j x s) sum (each (suc m) s e)),
    )

-- the sites of stage j
pub record StageSites (v : Values) (parts : ProcParts) (j : ℕ) (one : StageNets) : Type 0 where
  pub made : SitesMade v parts.scheduled.proc (proc_nets parts) (stage_of parts.scheduled.stages) j (first (pipeline parts) j) one.sites
  pub count : length one.sites ≡ first (pipeline parts) (suc j) - first (pipeline parts) j

pub all_sites_made : (v : Values) (parts : ProcParts) (j : ℕ) (stages : List StageNets) → ((x : ℕ) (one : StageNets) → slice_get stages x ≡ Some one → StageSites v parts (j + x) one)
    → AllSitesMade v parts.scheduled.proc (proc_nets parts) (stage_of parts.scheduled.stages) (pipeline parts) j stages
all_sites_made v parts j [] each = tt
all_sites_made v parts j (one ∷ more) each =
    let at : j + 0 ≡ j = omega arith in
    let here = subst (λ x. StageSites v parts x one) at (each 0 one refl) in
    (here.made, here.count, all_sites_made v parts (suc j) more (λ x s e. let sum : j + suc x ≡ suc j + x = omega arith in subst (λ y. StageSites v parts y s) sum (each (suc x) s e)))

-- ---- partners

partner_by : (v : Values) (views : List ChannelView) (parts : ProcParts) (j i : ℕ) (own : SiteNets) (x : Placed v views parts j i own) (ends : ℕ → ChannelNets) → ((c : ℕ) → ShowsView (ends c) (channel_view views c)) → (r : Role)
    → SiteIs v x.put.scope x.put.found.line.operands (registers_of_site parts.layout.registers i) views x.put.site r → PartnerMade (proc_nets parts) ends own i r
partner_by v views parts j i own x ends shows role.Pure is = is
partner_by v views parts j i own x ends shows (role.Receive predicate c) is = (
  ap (λ (n : SiteNets). n.partner) x.of.is ∙ ap (λ (t : Site). t.partner) x.same ∙ ap (λ (t : Site). t.partner) is.1 ∙ sym (shows c).valid,
  ap (λ (t : Site). t.word) (site_is v views parts i x.put ∙ is.1) ∙ sym (shows c).word,
)
partner_by v views parts j i own x ends shows (role.Send predicate c) is =
    ap (λ (n : SiteNets). n.partner) x.of.is ∙ ap (λ (t : Site). t.partner) x.same ∙ ap (λ (t : Site). t.partner) is.1 ∙ sym (shows c).room

-- of whatever node it is said to be
abbrev pub PartnerAt : ProcParts → (ℕ → ChannelNets) → ℕ → SiteNets → Type 0
PartnerAt parts ends i own = (n : Node) → slice_get parts.scheduled.proc.nodes (site_place parts.scheduled.proc.nodes i) ≡ Some n → PartnerMade (proc_nets parts) ends own i (role_of n)

pub partner_made : (v : Values) (views : List ChannelView) (parts : ProcParts) (j i : ℕ) (own : SiteNets) → Placed v views parts j i own → (ends : ℕ → ChannelNets) → ((c : ℕ) → ShowsView (ends c) (channel_view views c)) → PartnerAt parts ends i own
partner_made v views parts j i own x ends shows n there =
    let same : x.put.found.line ≡ n = some_same (sym x.put.found.there ∙ there) in
    subst (λ m. PartnerMade (proc_nets parts) ends own i (role_of m)) same (partner_by v views parts j i own x ends shows (role_of x.put.found.line) x.put.is)
  where
    some_same : {y z : Node} → Some y ≡ Some z → y ≡ z
    some_same e = cc

pub partners_made : (parts : ProcParts) (ends : ℕ → ChannelNets) (i : ℕ) (sites : List SiteNets) → ((m : ℕ) (own : SiteNets) → slice_get sites m ≡ Some own → PartnerAt parts ends (i + m) own)
    → PartnersMade parts.scheduled.proc (proc_nets parts) ends i sites
partners_made parts ends i [] each = tt
partners_made parts ends i (own ∷ sites) each =
    let at : i + 0 ≡ i = omega arith in (
      subst (λ m. PartnerAt parts ends m own) at (each 0 own refl),
      partners_made parts ends (suc i) sites (λ m s e. let sum : i + suc m ≡ suc i + m = omega arith in subst (λ x. PartnerAt parts ends x s) sum (each (suc m) s e)),
    )

pub all_partners_made : (parts : ProcParts) (ends : ℕ → ChannelNets) (j : ℕ) (stages : List StageNets)
    → ((x : ℕ) (one : StageNets) → slice_get stages x ≡ Some one → PartnersMade parts.scheduled.proc (proc_nets parts) ends (first (pipeline parts) (j + x)) one.sites)
    → AllPartnersMade parts.scheduled.proc (proc_nets parts) ends (pipeline parts) j stages
all_partners_made parts ends j [] each = tt
all_partners_made parts ends j (one ∷ more) each =
    let at : j + 0 ≡ j = omega arith in (
      subst (λ x. PartnersMade parts.scheduled.proc (proc_nets parts) ends (first (pipeline parts) x) one.sites) at (each 0 one refl),
      all_partners_made parts ends (suc j) more
          (λ x s e. let sum : j + suc x ≡ suc j + x = omega arith in subst (λ y. PartnersMade parts.scheduled.proc (proc_nets parts) ends (first (pipeline parts) y) s.sites) sum (each (suc x) s e)),
    )
