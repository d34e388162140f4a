-- What a proc's registers hold where they take what they are reset to.
use Rattle.std.proofs.Common.{◌≡◌, ℕ, zero, suc, ◌+◌, ◌-◌, ◌<◌, ◌^◌, List, [], ◌∷◌, ◌++◌, length, map, Bool, true, false, cond, Some, refl, sym, ap, ap₂, ◌∙◌, subst, arith}
use Rattle.std.specs.Prelude.{slice_get, option_map, ◌==◌}
use Rattle.std.specs.List.{AllByRecursion}
use Rattle.std.proofs.lemmas.List.{length-append, length-map, map-append}
use Rattle.std.proofs.lemmas.Option.{slice_get-map, slice_get_within}
use Rattle.xb_bits.specs.Word.{Word}
use Rattle.xb_value.specs.Typing.{IsOfType}
use Rattle.net_core.specs.declared.net.Site as net_site
use Rattle.net_core.specs.WellFormed.{IsNet}
use Rattle.ir_tree.specs.declared.node.Node.{Node}
use Rattle.ir_tree.specs.declared.node.Operand.TheVariants as operand
use Rattle.ir_tree.specs.declared.node.Role.{Role}
use Rattle.ir_tree.specs.declared.node.Role.TheVariants as role
use Rattle.ir_tree.specs.declared.package.Channel.{Channel}
use Rattle.ir_tree.specs.declared.package.Package.{Package}
use Rattle.ir_tree.specs.declared.package.Proc.{Proc}
use Rattle.ir_tree.specs.Activations.{sites_by, sites_of}
use Rattle.ir_tree.specs.Constants.{constant_value}
use Rattle.ir_tree.specs.Networks.{head_of, network_of}
use Rattle.ir_tree.specs.NodeValues.{role_of}
use Rattle.ir_tree.specs.Types.{ty_of}
use Rattle.vlog_tree.specs.declared.expression.Atom.{Atom}
use Rattle.vlog_tree.specs.Value.{Values, bit, atom_value}
use Rattle.block_stage.specs.Machine.Pipeline.{first}
use Rattle.block_build.specs.declared.netlist.fifos.ChannelView.{ChannelView}
use Rattle.block_build.specs.declared.netlist.places.Place.{Place}
use Rattle.block_build.specs.declared.netlist.registers.Register.{Register}
use Rattle.block_build.specs.declared.netlist.sites.Site.{Site}
use Rattle.block_build.specs.Netlist.Handshakes.{SiteNets}
use Rattle.block_build.specs.Netlist.Holding.{AreReset}
use Rattle.block_build.specs.Netlist.Leaves.{ShowsValue, leaf_widths, literals_of, nets}
use Rattle.block_build.specs.Netlist.Literals.{literal_atom}
use Rattle.block_build.specs.Netlist.Places.{shown_at}
use Rattle.block_build.specs.Netlist.ProcRegisters.{registers_of, state_registers, full_register, full_registers, site_registers, sites_registers, copy_registers, nodes_registers}
use Rattle.block_build.specs.Netlist.Registers.{AreTaken, resets_of}
use Rattle.block_build.specs.Netlist.Stages.{StageNets}
use Rattle.block_verilog.specs.Pipelines.Nets.{ProcParts, parts_stages, ArePut}
use Rattle.block_verilog.specs.Pipelines.Pipelines.{proc_registers}
use Rattle.block_verilog.proofs.OnPipelines.OnGoing.{Begins, counts, same_ways, have_registers, full_small}
use Rattle.block_verilog.proofs.OnPipelines.OnLayout.{full_count}
use Rattle.block_verilog.proofs.OnPipelines.OnLeaves.{leaf_count, literal_value, literals_shown}
use Rattle.block_verilog.proofs.OnPipelines.OnMade.{pipeline}
use Rattle.block_verilog.proofs.OnPipelines.OnPipelines.{Known, stage_stands, each_placed}
use Rattle.block_verilog.proofs.OnPipelines.OnPlaces.{place_first}
use Rattle.block_verilog.proofs.OnPipelines.OnSiteRegisters.{registers_count, StandFrom, HaveRegisters, sites_stand, SameWays}
use Rattle.block_verilog.proofs.OnPipelines.OnSites.{site_count}
use Rattle.block_verilog.proofs.OnPipelines.OnTaken.{taken_parts, taken_at}

-- ---- parts

reset_parts : (v next : Values) (k : ℕ) (xs ys : List Register) → AreTaken v next k (resets_of (xs ++ ys)) → AreTaken v next k (resets_of xs) × AreTaken v next (k + length xs) (resets_of ys)
reset_parts v next k xs ys h =
    let both = taken_parts v next k (resets_of xs) (resets_of ys) (subst (AreTaken v next k) (map-append (λ (register : Register). register.reset) xs ys) h) in
    (both.0, subst (λ n. AreTaken v next (k + n) (resets_of ys)) (length-map xs (λ (register : Register). register.reset)) both.1)

-- ---- the first state

resets_given : (ws : List ℕ) (resets : List Atom) → length resets ≡ length ws → resets_of (registers_of ws resets) ≡ resets
resets_given [] [] e = refl
resets_given [] (r ∷ resets) e = absurd (omega (arith, e))
resets_given (w ∷ ws) [] e = absurd (omega (arith, e))
resets_given (w ∷ ws) (r ∷ resets) e = ap (λ rs. r ∷ rs) (resets_given ws resets (omega (arith, e)))

taken_map : (v next : Values) (k : ℕ) (xs : List Atom) → AreTaken v next k xs → map (atom_value next) (nets k (length xs)) ≡ map (atom_value v) xs
taken_map v next k [] h = refl
taken_map v next k (x ∷ xs) h = ap₂ (λ (y : Word) ys. y ∷ ys) h.0 (taken_map v next (suc k) xs h.1)

pub opening_typed : (ir : Package) (p : ℕ) (proc : Proc) → IsNet (network_of ir) → slice_get ir.procs p ≡ Some proc → IsOfType (ty_of proc.state) (constant_value (ty_of proc.state) proc.init)
opening_typed ir p proc is there = is.opening p (head_of proc) (slice_get-map head_of ir.procs p ∙ ap (option_map head_of) there)

state_shown : (v next : Values) (k : ℕ) (proc : Proc) → IsOfType (ty_of proc.state) (constant_value (ty_of proc.state) proc.init) → AreTaken v next k (resets_of (state_registers proc))
    → ShowsValue next (nets k (length (leaf_widths (ty_of proc.state)))) (constant_value (ty_of proc.state) proc.init)
state_shown v next k proc of h =
    let opening = constant_value (ty_of proc.state) proc.init in
    let long : length (literals_of opening) ≡ length (leaf_widths (ty_of proc.state)) = length-map _ _ ∙ leaf_count (ty_of proc.state) opening of in
    let own = subst (AreTaken v next k) (resets_given (leaf_widths (ty_of proc.state)) (literals_of opening) long) h in
    ap (λ n. map (atom_value next) (nets k n)) (sym long) ∙ taken_map v next k (literals_of opening) own ∙ literals_shown v (ty_of proc.state) opening of

-- ---- full bits

full_at : (stage n j : ℕ) → j < n → slice_get (full_registers stage n) j ≡ Some (full_register (stage + j))
full_at stage zero j l = absurd (omega (arith, l))
full_at stage (suc n) zero l = let e : stage ≡ stage + 0 = omega arith in ap (λ i. Some (full_register i)) e
full_at stage (suc n) (suc j) l = let e : suc stage + j ≡ stage + suc j = omega arith in full_at (suc stage) n j (omega (arith, l)) ∙ ap (λ i. Some (full_register i)) e

bit_value : (v : Values) (t : Bool) → atom_value v (literal_atom 1 (cond t 1 0)) ≡ bit t
bit_value v true = literal_value v 1 1 (omega arith) (omega arith) (let l : 1 < 2 = omega arith in l)
bit_value v false = literal_value v 1 0 (omega arith) (omega arith) (let l : 0 < 2 = omega arith in l)

full_reset : (v next : Values) (full n j : ℕ) → j < n → full + j < 2 ^ 32 → AreTaken v next full (resets_of (full_registers 0 n)) → next (full + j) ≡ bit (j == 0)
full_reset v next full n j l few h =
    let e : 0 + j ≡ j = omega arith in
    taken_at v next full (resets_of (full_registers 0 n)) j ((full_register j).reset) h
    (slice_get-map (λ (register : Register). register.reset) (full_registers 0 n) j ∙ ap (option_map (λ (register : Register). register.reset)) (full_at 0 n j l ∙ ap (λ i. Some (full_register i)) e))
    ∙ bit_value v (j == 0)

-- ---- sites

abbrev AllUndone : Values → List Site → Type 0
AllUndone next sites = AllByRecursion (λ (site : Site). atom_value next site.done ≡ bit false) sites

undone_by : (v next : Values) (channels : List Channel) (k : ℕ) (r : Role) (rest : List Register) (ends : List net_site.Site) (sites : List Site) → length sites ≡ length (sites_by r ends) → SameWays sites (sites_by r ends) → StandFrom k sites
    → AreTaken v next k (resets_of (site_registers channels r ++ rest))
    → ((m : ℕ) (more : List Site) → length more ≡ length ends → SameWays more ends → StandFrom m more → AreTaken v next m (resets_of rest) → AllUndone next more) → AllUndone next sites
undone_by v next channels k role.Pure rest ends sites long ways stand h ih = ih k sites long ways stand h
undone_by v next channels k (role.Receive predicate c) rest ends [] long ways stand h ih = tt
undone_by v next channels k (role.Receive predicate c) rest ends (site ∷ sites) long ways stand h ih =
    let sends = ways 0 site (record { chan = c; sends = false }) refl refl in
    let at : k + registers_count site ≡ suc (suc k) = ap (λ t. k + cond t 1 2) sends ∙ (let e : k + 2 ≡ suc (suc k) = omega arith in e) in
    (ap (atom_value next) stand.0 ∙ h.0 ∙ bit_value v false, ih (suc (suc k)) sites (omega (arith, long)) (λ i s e f g. ways (suc i) s e f g) (subst (λ m. StandFrom m sites) at stand.2) h.1.1)
undone_by v next channels k (role.Send predicate c) rest ends [] long ways stand h ih = tt
undone_by v next channels k (role.Send predicate c) rest ends (site ∷ sites) long ways stand h ih =
    let sends = ways 0 site (record { chan = c; sends = true }) refl refl in
    let at : k + registers_count site ≡ suc k = ap (λ t. k + cond t 1 2) sends ∙ (let e : k + 1 ≡ suc k = omega arith in e) in
    (ap (atom_value next) stand.0 ∙ h.0 ∙ bit_value v false, ih (suc k) sites (omega (arith, long)) (λ i s e f g. ways (suc i) s e f g) (subst (λ m. StandFrom m sites) at stand.2) h.1)

all_undone : (v next : Values) (channels : List Channel) (k : ℕ) (nodes : List Node) (sites : List Site) → length sites ≡ length (sites_of nodes) → SameWays sites (sites_of nodes) → StandFrom k sites
    → AreTaken v next k (resets_of (sites_registers channels nodes)) → AllUndone next sites
all_undone v next channels k [] [] long ways stand h = tt
all_undone v next channels k [] (site ∷ sites) long ways stand h = absurd (omega (arith, long))
all_undone v next channels k (n ∷ nodes) sites long ways stand h =
    undone_by v next channels k (role_of n) (sites_registers channels nodes) (sites_of nodes) sites long ways stand h (λ m more l w s g. all_undone v next channels m nodes more l w s g)

undone_at : (next : Values) (sites : List Site) (i : ℕ) (site : Site) → AllUndone next sites → slice_get sites i ≡ Some site → atom_value next site.done ≡ bit false
undone_at next [] i site h e = absurd (cc)
undone_at next (x ∷ sites) zero site h e = let same : x ≡ site = cc in subst (λ (s : Site). atom_value next s.done ≡ bit false) same h.0
undone_at next (x ∷ sites) (suc i) site h e = undone_at next sites i site h.1 e

-- ---- all

undone_all : (next : Values) (sites : List SiteNets) → ((m : ℕ) (own : SiteNets) → slice_get sites m ≡ Some own → atom_value next own.done ≡ bit false) → AllByRecursion (λ (site : SiteNets). atom_value next site.done ≡ bit false) sites
undone_all next [] each = tt
undone_all next (own ∷ sites) each = (each 0 own refl, undone_all next sites (λ m s e. each (suc m) s e))

record StageReset (next : Values) (j : ℕ) (one : StageNets) : Type 0 where
  full : atom_value next one.full ≡ bit (j == 0)
  sites : AllByRecursion (λ (site : SiteNets). atom_value next site.done ≡ bit false) one.sites

stages_reset : (next : Values) (j : ℕ) (stages : List StageNets) → ((x : ℕ) (one : StageNets) → slice_get stages x ≡ Some one → StageReset next (j + x) one) → AreReset next j stages
stages_reset next j [] each = tt
stages_reset next j (one ∷ more) each =
    let at : j + 0 ≡ j = omega arith in
    let here = subst (λ x. StageReset next x one) at (each 0 one refl) in
    (here.full, here.sites, stages_reset next (suc j) more (λ x s e. let sum : j + suc x ≡ suc j + x = omega arith in subst (λ y. StageReset next y s) sum (each (suc x) s e)))

-- the parts of what registers are reset to
record ResetParts (v next : Values) (k : ℕ) (parts : ProcParts) : Type 0 where
  state : AreTaken v next k (resets_of (state_registers parts.scheduled.proc))
  full : AreTaken v next parts.layout.registers.full (resets_of (full_registers 0 parts.scheduled.depth))
  sites : AreTaken v next (parts.layout.registers.full + parts.scheduled.depth) (resets_of (sites_registers parts.scheduled.channels parts.scheduled.proc.nodes))

resets_apart : (ir : Package) (p clock k : ℕ) (v next : Values) (parts : ProcParts) → ArePut ir p clock k parts → AreTaken v next k (resets_of (proc_registers parts.scheduled parts.layout.reads)) → ResetParts v next k parts
resets_apart ir p clock k v next parts put h =
    let s = parts.scheduled in
    let a = state_registers s.proc in
    let b = full_registers 0 s.depth in
    let d = sites_registers s.channels s.proc.nodes in
    let e = copy_registers (leaf_widths (ty_of s.proc.state)) (parts.layout.reads.state - 0) in
    let f = nodes_registers s.proc.nodes s.stages parts.layout.reads.nodes.items in
    let five = reset_parts v next k (a ++ b ++ d ++ e) f h in
    let four = reset_parts v next k (a ++ b ++ d) e five.0 in
    let three = reset_parts v next k (a ++ b) d four.0 in
    let two = reset_parts v next k a b three.0 in
    let full_is = put.laid.registers.full in
    let both = length-append a b in
    let count = full_count 0 s.depth in
    let at : k + length (a ++ b) ≡ parts.layout.registers.full + s.depth = omega (arith, full_is, both, count) in
    record { state = two.0; full = subst (λ r. AreTaken v next r (resets_of b)) (sym full_is) two.1; sites = subst (λ r. AreTaken v next r (resets_of d)) at three.1 }

pub registers_reset : (ir : Package) (p clock k : ℕ) (v next : Values) (run : Atom) (views : List ChannelView) (parts : ProcParts) → Known ir p clock k next run views parts → Begins ir parts
    → AreTaken v next k (resets_of (proc_registers parts.scheduled parts.layout.reads)) → AreReset next 0 (parts_stages parts)
registers_reset ir p clock k v next run views parts w b h =
    let all = w.driven.now.nodes in
    let c = counts ir p clock k next run views parts w b in
    let r = resets_apart ir p clock k v next parts w.put h in
    let count = site_count next views parts all in
    let have = subst (λ rs. HaveRegisters parts.made.nodes.sites rs (sites_of parts.scheduled.proc.nodes)) w.put.laid.registers.sites (have_registers next views parts all) in
    let stand = sites_stand parts.scheduled.channels (parts.layout.registers.full + parts.scheduled.depth) parts.scheduled.proc.nodes parts.made.nodes.sites count have in
    let undone = all_undone v next parts.scheduled.channels (parts.layout.registers.full + parts.scheduled.depth) parts.scheduled.proc.nodes parts.made.nodes.sites count (same_ways next views parts all) stand r.sites in
    let depth = c.full in
    let laid = w.put.laid.registers.state_copies in
    let few = w.put.laid.registers.few in
    stages_reset next 0 (parts_stages parts)
    (λ x one e.
    let none : x ≡ 0 + x = omega arith in
    let within = slice_get_within (parts_stages parts) x one e in
    let small : parts.layout.registers.full + x < 2 ^ 32 = omega (arith, within, depth, laid, few) in
    let stands = stage_stands ir p clock k next run views parts w x one e in
    subst (λ y. StageReset next y one) none
    (record {
      full = ap (atom_value next) (stands.full_is ∙ full_small parts.layout.registers.full x small) ∙ full_reset v next parts.layout.registers.full parts.scheduled.depth x (omega (arith, within, depth)) small r.full;
      sites = undone_all next one.sites
          (λ m own f.
          let y = each_placed ir p clock k next run views parts w x one e m own f in
          ap (λ (n : SiteNets). atom_value next n.done) y.of.is ∙ undone_at next parts.made.nodes.sites (first (pipeline parts) x + m) y.of.site undone y.of.at);
    }))

pub state_reset : (ir : Package) (p clock k : ℕ) (v next : Values) (run : Atom) (views : List ChannelView) (parts : ProcParts) → Known ir p clock k next run views parts → Begins ir parts
    → AreTaken v next k (resets_of (proc_registers parts.scheduled parts.layout.reads)) → ShowsValue next (shown_at parts.made.nodes.places 0 operand.State) (constant_value (ty_of parts.scheduled.proc.state) parts.scheduled.proc.init)
state_reset ir p clock k v next run views parts w b h =
    let own : parts.made.nodes.places.state.own ≡ nets parts.layout.registers.state (length (leaf_widths (ty_of parts.scheduled.proc.state))) = ap (λ (q : Place). q.own) w.driven.now.nodes.state in
    let r = resets_apart ir p clock k v next parts w.put h in
    subst (λ xs. ShowsValue next xs (constant_value (ty_of parts.scheduled.proc.state) parts.scheduled.proc.init)) (sym (place_first parts.made.nodes.places.state ∙ own ∙ ap (λ m. nets m (length (leaf_widths (ty_of parts.scheduled.proc.state)))) w.put.laid.registers.state))
    (state_shown v next k parts.scheduled.proc b.opening r.state)
