-- The registers of a proc's pipeline go on as they are set.
use Rattle.std.proofs.Common.{◌≡◌, ℕ, zero, suc, ◌+◌, ◌-◌, ◌*◌, ◌<◌, ◌≤◌, ◌^◌, min, List, [], ◌∷◌, ◌++◌, length, map, Bool, true, false, cond, Some, refl, sym, ap, ◌∙◌, subst, arith}
use Rattle.std.specs.Prelude.{slice_get, option_map, nat_lt, nat_le, ◌&&◌}
use Rattle.std.proofs.lemmas.Bool.Decides.{nat_tests}
use Rattle.std.proofs.lemmas.List.{length-append, length-map}
use Rattle.std.proofs.lemmas.Option.{slice_get-map, slice_get_within, get_or_from_slice_get}
use Rattle.xb_bits.specs.Word.{Word}
use Rattle.xb_value.specs.Typing.{IsOfType}
use Rattle.net_core.specs.declared.net.Site as net_site
use Rattle.ir_tree.specs.declared.node.Node.{Node}
use Rattle.ir_tree.specs.declared.node.Operand.{Operand}
use Rattle.ir_tree.specs.declared.node.Operand.TheVariants as operand
use Rattle.ir_tree.specs.declared.node.Role.{Role}
use Rattle.ir_tree.specs.declared.node.Role.TheVariants as role
use Rattle.ir_tree.specs.declared.package.Package.{Package}
use Rattle.ir_tree.specs.Activations.{sites_of}
use Rattle.ir_tree.specs.Constants.{constant_value}
use Rattle.ir_tree.specs.NodeValues.{role_of, node_values, no_word}
use Rattle.ir_tree.specs.Types.{ty_of}
use Rattle.ir_tree.specs.Rules.Fitting.{type_in, types_behind}
use Rattle.ir_tree.proofs.Lemmas.Rules.Typed.Checked.{both_true}
use Rattle.pipe_schedule.specs.Legal.{depth_of, turn_stage}
use Rattle.pipe_schedule.specs.Timed.{timed_proc}
use Rattle.vlog_tree.specs.declared.expression.Atom.{Atom}
use Rattle.vlog_tree.specs.Value.{Values, atom_value}
use Rattle.block_stage.specs.Machine.Pipeline.{first}
use Rattle.block_build.specs.declared.netlist.fifos.ChannelView.{ChannelView}
use Rattle.block_build.specs.declared.netlist.places.Place.{Place}
use Rattle.block_build.specs.declared.netlist.sites.Site.{Site}
use Rattle.block_build.specs.Netlist.Gates.{net}
use Rattle.block_build.specs.Netlist.Handshakes.{SiteNets}
use Rattle.block_build.specs.Netlist.Holding.{AreCarriedOn, CarriesOn, HasTypedValues, WordGoesOn, SitesGoOn, StagesGoOn, RegistersGoOn}
use Rattle.block_build.specs.Netlist.LastReads.{read_at}
use Rattle.block_build.specs.Netlist.Layout.{is_carried, last_read, proc_readers}
use Rattle.block_build.specs.Netlist.Leaves.{leaf_widths, literals_of, nets}
use Rattle.block_build.specs.Netlist.Nexts.{move_of, copies_wires, node_copies, nodes_copies, is_literal, sites_next_nets}
use Rattle.block_build.specs.Netlist.Nodes.{IsEarlier, NodesShow}
use Rattle.block_build.specs.Netlist.Places.{place_at, shown_at}
use Rattle.block_build.specs.Netlist.Procs.{setting_by}
use Rattle.block_build.specs.Netlist.ProcRegisters.{registers_of, state_registers, sites_registers, copy_registers, node_registers, nodes_registers, full_registers}
use Rattle.block_build.specs.Netlist.Registers.{AreTaken}
use Rattle.block_build.specs.Netlist.Stages.{StageNets, move_at}
use Rattle.block_build.specs.Netlist.Staging.{full_bit, kept_net, Later}
use Rattle.block_build.specs.Netlist.Wires.{AreWired}
use Rattle.block_build.proofs.Lemmas.Netlist.Fitting.{verified_nodes_fit}
use Rattle.block_verilog.specs.Signals.Nodes.{NodesMade}
use Rattle.block_verilog.specs.Signals.Registers.{given_or, stage_at, stage_of}
use Rattle.block_verilog.specs.Pipelines.Nets.{ProcParts, site_place, parts_stages, proc_nets, pipeline_nets, ArePut}
use Rattle.block_verilog.specs.Pipelines.Pipelines.{state_wires, state_copies_wires, node_copies_wires, next_nets, proc_registers}
use Rattle.block_verilog.proofs.OnPipelines.OnCopies.{CarryLaw, choice_long, copies_long, copies_carried, copy_registers_long, node_copies_long, AreMatched, copies_stand, nodes_long}
use Rattle.block_verilog.proofs.OnPipelines.OnFound.{IsSiteOf}
use Rattle.block_verilog.proofs.OnPipelines.OnLayout.{full_count}
use Rattle.block_verilog.proofs.OnPipelines.OnLeaves.{leaf_count}
use Rattle.block_verilog.proofs.OnPipelines.OnLiterals.{literal_kept}
use Rattle.block_verilog.proofs.OnPipelines.OnMade.{pipeline, done_of, Placed}
use Rattle.block_verilog.proofs.OnPipelines.OnPipelines.{Known, known_long, stage_stands, each_placed, move_is}
use Rattle.block_verilog.proofs.OnPipelines.OnPlaces.{IsPlaced, node_placed, shown_place, shown_long, place_first, place_constant}
use Rattle.block_verilog.proofs.OnPipelines.OnSiteRegisters.{HaveRegisters, sites_stand, SiteTaken, sites_taken, site_taken, SameWays, sites_long}
use Rattle.block_verilog.proofs.OnPipelines.OnSites.{Stands, each_stands, facts, site_is, site_count, are_ordered}
use Rattle.block_verilog.proofs.OnPipelines.OnStaged.{stages_same}
use Rattle.block_verilog.proofs.OnPipelines.OnStages.{stages_count, all_sites_count}
use Rattle.block_verilog.proofs.OnPipelines.OnTaken.{taken_parts, taken_at, TakeWires, wires_taken, wires_within, wires_map, nets_long}

-- ---- how many registers there are of each kind

some_same : {A : Type 0} {x y : A} → Some x ≡ Some y → x ≡ y
some_same e = cc

registers_long : (ws : List ℕ) (resets : List Atom) → length resets ≡ length ws → length (registers_of ws resets) ≡ length ws
registers_long [] resets e = refl
registers_long (w ∷ ws) [] e = absurd (omega (arith, e))
registers_long (w ∷ ws) (r ∷ resets) e = ap suc (registers_long ws resets (omega (arith, e)))

pub state_count : (parts : ProcParts) → IsOfType (ty_of parts.scheduled.proc.state) (constant_value (ty_of parts.scheduled.proc.state) parts.scheduled.proc.init) → length (state_registers parts.scheduled.proc) ≡ length (leaf_widths (ty_of parts.scheduled.proc.state))
state_count parts of =
    let opening = constant_value (ty_of parts.scheduled.proc.state) parts.scheduled.proc.init in
    registers_long (leaf_widths (ty_of parts.scheduled.proc.state)) (literals_of opening) (length-map _ _ ∙ leaf_count (ty_of parts.scheduled.proc.state) opening of)

state_wires_long : (v : Values) (views : List ChannelView) (parts : ProcParts) → NodesMade v parts.scheduled.channels parts.scheduled.proc parts.scheduled.stages parts.layout.registers views parts.made.nodes
    → IsEarlier (length parts.scheduled.proc.nodes) parts.scheduled.proc.next → type_in (types_behind parts.scheduled.proc.state parts.scheduled.proc.nodes) parts.scheduled.proc.next ≡ parts.scheduled.proc.state
    → (j : ℕ) → length (shown_at parts.made.nodes.places j parts.scheduled.proc.next) ≡ length (leaf_widths (ty_of parts.scheduled.proc.state))
state_wires_long v views parts all early typed j = shown_long v views parts all j parts.scheduled.proc.next early ∙ ap (λ t. length (leaf_widths (ty_of t))) typed

-- what is known of the values that a proc begins with
pub record Begins (ir : Package) (parts : ProcParts) : Type 0 where
  pub opening : IsOfType (ty_of parts.scheduled.proc.state) (constant_value (ty_of parts.scheduled.proc.state) parts.scheduled.proc.init)
  pub next_there : IsEarlier (length parts.scheduled.proc.nodes) parts.scheduled.proc.next
  pub next_typed : type_in (types_behind parts.scheduled.proc.state parts.scheduled.proc.nodes) parts.scheduled.proc.next ≡ parts.scheduled.proc.state
  pub types : HasTypedValues ir.channels parts.scheduled.proc

-- the parts of what is put, with how many there are of each
pub record Counts (parts : ProcParts) : Type 0 where
  pub state : length (state_wires parts.scheduled parts.made) ≡ length (state_registers parts.scheduled.proc)
  pub numbers : length (state_registers parts.scheduled.proc) ≡ length (leaf_widths (ty_of parts.scheduled.proc.state))
  pub full : length (parts_stages parts) ≡ parts.scheduled.depth
  pub sites : length (sites_next_nets parts.nums.sites parts.made.nodes.sites parts.made.stages.handshakes.items) ≡ length (sites_registers parts.scheduled.channels parts.scheduled.proc.nodes)
  pub copies : length (state_copies_wires parts.scheduled parts.layout parts.made) ≡ length (copy_registers (leaf_widths (ty_of parts.scheduled.proc.state)) (parts.layout.reads.state - 0))
  pub nodes : length (node_copies_wires parts.scheduled parts.layout parts.made) ≡ length (nodes_registers parts.scheduled.proc.nodes parts.scheduled.stages parts.layout.reads.nodes.items)
  pub shaken : length parts.made.stages.handshakes.items ≡ length parts.made.nodes.sites

state_own : (v : Values) (views : List ChannelView) (parts : ProcParts) → NodesMade v parts.scheduled.channels parts.scheduled.proc parts.scheduled.stages parts.layout.registers views parts.made.nodes
    → length parts.made.nodes.places.state.own ≡ length (leaf_widths (ty_of parts.scheduled.proc.state))
state_own v views parts all = ap (λ (p : Place). length p.own) all.state ∙ nets_long parts.layout.registers.state (length (leaf_widths (ty_of parts.scheduled.proc.state)))

pub same_ways : (v : Values) (views : List ChannelView) (parts : ProcParts) → NodesMade v parts.scheduled.channels parts.scheduled.proc parts.scheduled.stages parts.layout.registers views parts.made.nodes
    → SameWays parts.made.nodes.sites (sites_of parts.scheduled.proc.nodes)
same_ways v views parts all i site end e f =
    let within = slice_get_within parts.made.nodes.sites i site e in
    let count = site_count v views parts all in
    let s = each_stands v views parts all i (omega (arith, within, count)) in
    let one : site ≡ s.site = some_same (sym e ∙ s.at) in
    let two : s.found.site ≡ end = some_same (sym s.found.at ∙ f) in
    ap (λ (t : Site). t.sends) one ∙ (facts v views parts i s).sends ∙ ap (λ (t : net_site.Site). t.sends) two

nodes_match : (v : Values) (views : List ChannelView) (parts : ProcParts) → NodesMade v parts.scheduled.channels parts.scheduled.proc parts.scheduled.stages parts.layout.registers views parts.made.nodes
    → AreMatched parts.made.stages.moves.items parts.scheduled.proc.nodes parts.made.nodes.places.nodes parts.scheduled.stages parts.layout.reads.nodes.items
nodes_match v views parts all k n place stage last e f g h =
    let p = node_placed v views parts all k n e in
    let same : p.0 ≡ place = some_same (sym p.1.at ∙ f) in
    let at : p.0.stage ≡ stage = p.1.stage ∙ ap (given_or 0) g in
    subst (λ q. length (node_copies parts.made.stages.moves.items n q last) ≡ length (node_registers n stage last)) same (node_copies_long parts.made.stages.moves.items n p.0 stage last at p.1.long)

pub counts : (ir : Package) (p clock k : ℕ) (v : Values) (run : Atom) (views : List ChannelView) (parts : ProcParts) → Known ir p clock k v run views parts → Begins ir parts → Counts parts
counts ir p clock k v run views parts w b =
    let all = w.driven.now.nodes in
    let later : Later = record { moving = parts.at.moving; next = λ j. parts.nums.full + 3 * j; done = done_of parts } in
    let long = known_long ir p clock k v run views parts w in
    let numbers = state_count parts b.opening in
    let own = state_own v views parts all in
    let place = ap (λ (q : Place). q.stage) all.state in
    let shaken = ap length (w.put.stages.handshakes (λ j. parts.nums.full + 3 * j) (done_of parts)) ∙ length-map _ _
    ∙ all_sites_count (pipeline parts) parts.made.nodes.sites parts.layout.registers.full later parts.scheduled.depth parts.at.first (are_ordered v views parts all long w.is) w.put.depth in
    record {
      state = choice_long (move_of parts.made.stages.moves.items parts.scheduled.last) (leaf_widths (ty_of parts.scheduled.proc.state)) (shown_at parts.made.nodes.places parts.scheduled.last parts.scheduled.proc.next) parts.made.nodes.places.state.own
          (state_wires_long v views parts all b.next_there b.next_typed parts.scheduled.last) own ∙ sym numbers;
      numbers = numbers;
      full = stages_count parts.layout.registers.full later parts.at.first 0 0 parts.scheduled.depth parts.made.nodes.sites;
      sites = sites_long parts.scheduled.channels parts.nums.sites parts.scheduled.proc.nodes parts.made.nodes.sites parts.made.stages.handshakes.items (site_count v views parts all) shaken (same_ways v views parts all);
      copies = copies_long (leaf_widths (ty_of parts.scheduled.proc.state)) parts.made.nodes.places.state parts.made.stages.moves.items parts.made.nodes.places.state.stage (parts.layout.reads.state - parts.made.nodes.places.state.stage) own
          ∙ ap (λ s. (parts.layout.reads.state - s) * length (leaf_widths (ty_of parts.scheduled.proc.state))) place ∙ sym (copy_registers_long (leaf_widths (ty_of parts.scheduled.proc.state)) (parts.layout.reads.state - 0));
      nodes = nodes_long parts.made.stages.moves.items parts.scheduled.proc.nodes parts.made.nodes.places.nodes parts.scheduled.stages parts.layout.reads.nodes.items (nodes_match v views parts all) all.count long w.put.laid.count;
      shaken = shaken;
    }

both_long : {A B : Type 0} (xs : List A) (ys : List B) (us : List A) (ws : List B) → length xs ≡ length ys → length us ≡ length ws → length (xs ++ us) ≡ length (ys ++ ws)
both_long xs ys us ws e f = let one = length-append xs us in let two = length-append ys ws in omega (arith, one, two, e, f)

five_long : {A B : Type 0} (a b c d e : List A) (x y z u w : List B) → length a ≡ length x → length b ≡ length y → length c ≡ length z → length d ≡ length u → length e ≡ length w → length (a ++ b ++ c ++ d ++ e) ≡ length (x ++ y ++ z ++ u ++ w)
five_long a b c d e x y z u w f g h i j = both_long (a ++ b ++ c ++ d) (x ++ y ++ z ++ u) e w (both_long (a ++ b ++ c) (x ++ y ++ z) d u (both_long (a ++ b) (x ++ y) c z (both_long a x b y f g) h) i) j

pub as_many : (parts : ProcParts) → Counts parts → length (next_nets parts.scheduled parts.layout parts.made parts.at parts.nums) ≡ length (proc_registers parts.scheduled parts.layout.reads)
as_many parts c =
    let s = parts.scheduled in
    five_long (nets parts.nums.state (length (state_wires s parts.made))) (map kept_net (parts_stages parts)) (sites_next_nets parts.nums.sites parts.made.nodes.sites parts.made.stages.handshakes.items)
    (nets parts.nums.copies (length (state_copies_wires s parts.layout parts.made))) (nets parts.nums.nodes (length (node_copies_wires s parts.layout parts.made)))
    (state_registers s.proc) (full_registers 0 s.depth) (sites_registers s.channels s.proc.nodes) (copy_registers (leaf_widths (ty_of s.proc.state)) (parts.layout.reads.state - 0)) (nodes_registers s.proc.nodes s.stages parts.layout.reads.nodes.items)
    (nets_long parts.nums.state (length (state_wires s parts.made)) ∙ c.state) (length-map (parts_stages parts) kept_net ∙ c.full ∙ sym (full_count 0 s.depth)) c.sites
    (nets_long parts.nums.copies (length (state_copies_wires s parts.layout parts.made)) ∙ c.copies) (nets_long parts.nums.nodes (length (node_copies_wires s parts.layout parts.made)) ∙ c.nodes)

-- ---- what each part takes

pub record Taken (v next : Values) (parts : ProcParts) : Type 0 where
  pub state : TakeWires v next parts.layout.registers.state parts.nums.state (length (leaf_widths (ty_of parts.scheduled.proc.state)))
  pub full : AreTaken v next parts.layout.registers.full (map kept_net (parts_stages parts))
  pub sites : AreTaken v next (parts.layout.registers.full + parts.scheduled.depth) (sites_next_nets parts.nums.sites parts.made.nodes.sites parts.made.stages.handshakes.items)
  pub copies : TakeWires v next parts.layout.registers.state_copies parts.nums.copies (length (state_copies_wires parts.scheduled parts.layout parts.made))
  pub nodes : TakeWires v next (parts.layout.registers.state_copies + length (copy_registers (leaf_widths (ty_of parts.scheduled.proc.state)) (parts.layout.reads.state - 0))) parts.nums.nodes (length (node_copies_wires parts.scheduled parts.layout parts.made))

-- the first of those behind some that begin at a register
behind : {A : Type 0} (k m n : ℕ) (xs ys : List A) → k + length xs ≡ m → length ys ≡ n → k + length (xs ++ ys) ≡ m + n
behind k m n xs ys e f = let both = length-append xs ys in omega (arith, both, e, f)

pub taken : (ir : Package) (p clock k : ℕ) (v next : Values) (parts : ProcParts) → ArePut ir p clock k parts → Counts parts → AreTaken v next k (next_nets parts.scheduled parts.layout parts.made parts.at parts.nums) → Taken v next parts
taken ir p clock k v next parts put c h =
    let s = parts.scheduled in
    let laid = put.laid.registers in
    let a = nets parts.nums.state (length (state_wires s parts.made)) in
    let b = map kept_net (parts_stages parts) in
    let d = sites_next_nets parts.nums.sites parts.made.nodes.sites parts.made.stages.handshakes.items in
    let e = nets parts.nums.copies (length (state_copies_wires s parts.layout parts.made)) in
    let f = nets parts.nums.nodes (length (node_copies_wires s parts.layout parts.made)) in
    let copies = copy_registers (leaf_widths (ty_of s.proc.state)) (parts.layout.reads.state - 0) in
    let five = taken_parts v next k (a ++ b ++ d ++ e) f h in
    let four = taken_parts v next k (a ++ b ++ d) e five.0 in
    let three = taken_parts v next k (a ++ b) d four.0 in
    let two = taken_parts v next k a b three.0 in
    let at_full : k + length a ≡ parts.layout.registers.full = ap (λ n. k + n) (nets_long parts.nums.state (length (state_wires s parts.made)) ∙ c.state) ∙ sym laid.full in
    let at_sites : k + length (a ++ b) ≡ parts.layout.registers.full + s.depth = behind k parts.layout.registers.full s.depth a b at_full (length-map (parts_stages parts) kept_net ∙ c.full) in
    let at_copies : k + length (a ++ b ++ d) ≡ parts.layout.registers.state_copies =
    behind k (parts.layout.registers.full + s.depth) (length (sites_registers s.channels s.proc.nodes)) (a ++ b) d at_sites c.sites ∙ sym laid.state_copies in
    let at_nodes : k + length (a ++ b ++ d ++ e) ≡ parts.layout.registers.state_copies + length copies =
    behind k parts.layout.registers.state_copies (length copies) (a ++ b ++ d) e at_copies (nets_long parts.nums.copies (length (state_copies_wires s parts.layout parts.made)) ∙ c.copies) in
    record {
      state = subst (λ n. TakeWires v next parts.layout.registers.state parts.nums.state n) (c.state ∙ c.numbers)
          (subst (λ r. TakeWires v next r parts.nums.state (length (state_wires s parts.made))) (sym laid.state) (wires_taken v next k parts.nums.state (length (state_wires s parts.made)) two.0));
      full = subst (λ r. AreTaken v next r b) at_full two.1;
      sites = subst (λ r. AreTaken v next r d) at_sites three.1;
      copies = wires_taken v next parts.layout.registers.state_copies parts.nums.copies (length (state_copies_wires s parts.layout parts.made)) (subst (λ r. AreTaken v next r e) at_copies four.1);
      nodes = wires_taken v next (parts.layout.registers.state_copies + length copies) parts.nums.nodes (length (node_copies_wires s parts.layout parts.made)) (subst (λ r. AreTaken v next r f) at_nodes five.1);
    }

-- ---- full bits

pub full_small : (full j : ℕ) → full + j < 2 ^ 32 → full_bit full j ≡ net (full + j)
full_small full j l = let e : min (full + j) (2 ^ 32 - 1) ≡ full + j = omega (arith, l) in ap net e

full_goes : (ir : Package) (p clock k : ℕ) (v next : Values) (parts : ProcParts) → ArePut ir p clock k parts → Counts parts → Taken v next parts → (j : ℕ) (one : StageNets) → slice_get (parts_stages parts) j ≡ Some one
    → one.full ≡ full_bit parts.layout.registers.full j → atom_value next one.full ≡ v (suc (suc one.next))
full_goes ir p clock k v next parts put c t j one there is =
    let within = slice_get_within (parts_stages parts) j one there in
    let depth = c.full in
    let laid = put.laid.registers.state_copies in
    let few = put.laid.registers.few in
    let small : parts.layout.registers.full + j < 2 ^ 32 = omega (arith, within, depth, laid, few) in
    ap (atom_value next) (is ∙ full_small parts.layout.registers.full j small)
    ∙ taken_at v next parts.layout.registers.full (map kept_net (parts_stages parts)) j (kept_net one) t.full (slice_get-map kept_net (parts_stages parts) j ∙ ap (option_map kept_net) there)

-- ---- sites

pub have_registers : (v : Values) (views : List ChannelView) (parts : ProcParts) → NodesMade v parts.scheduled.channels parts.scheduled.proc parts.scheduled.stages parts.layout.registers views parts.made.nodes
    → HaveRegisters parts.made.nodes.sites parts.layout.registers.sites (sites_of parts.scheduled.proc.nodes)
have_registers v views parts all i site end e f =
    let within = slice_get_within parts.made.nodes.sites i site e in
    let count = site_count v views parts all in
    let s = each_stands v views parts all i (omega (arith, within, count)) in
    let one : site ≡ s.site = some_same (sym e ∙ s.at) in
    let two : s.found.site ≡ end = some_same (sym s.found.at ∙ f) in
    let own = facts v views parts i s in
    record {
      sends = ap (λ (t : Site). t.sends) one ∙ own.sends ∙ ap (λ (t : net_site.Site). t.sends) two;
      done = ap (λ (t : Site). t.done) one ∙ own.done;
      kept = ap (λ (t : Site). t.kept) one ∙ own.kept;
    }

each_taken : (ir : Package) (p clock k : ℕ) (v next : Values) (run : Atom) (views : List ChannelView) (parts : ProcParts) → Known ir p clock k v run views parts → Counts parts → Taken v next parts
    → (i : ℕ) (site : Site) → slice_get parts.made.nodes.sites i ≡ Some site → SiteTaken v next (done_of parts i) site
each_taken ir p clock k v next run views parts w c t i site there =
    let all = w.driven.now.nodes in
    let have = subst (λ rs. HaveRegisters parts.made.nodes.sites rs (sites_of parts.scheduled.proc.nodes)) w.put.laid.registers.sites (have_registers v views parts all) in
    let stand = sites_stand parts.scheduled.channels (parts.layout.registers.full + parts.scheduled.depth) parts.scheduled.proc.nodes parts.made.nodes.sites (site_count v views parts all) have in
    site_taken v next parts.nums.sites parts.made.nodes.sites i site
    (sites_taken v next (parts.layout.registers.full + parts.scheduled.depth) parts.nums.sites parts.made.nodes.sites parts.made.stages.handshakes.items c.shaken stand t.sites) there

-- a site of a stage
abbrev pub SiteGoes : Values → Values → ProcParts → ℕ → SiteNets → Type 0
SiteGoes v next parts i own =
    (atom_value next own.done ≡ v (suc (suc own.next)))
    × ((n : Node) → slice_get parts.scheduled.proc.nodes (site_place parts.scheduled.proc.nodes i) ≡ Some n → WordGoesOn v next (proc_nets parts) i (role_of n))

word_goes : (v next : Values) (views : List ChannelView) (parts : ProcParts) (i : ℕ) (s : Stands v views parts i) (r : Role) → IsSiteOf s.found.site r → SiteTaken v next (done_of parts i) s.site → WordGoesOn v next (proc_nets parts) i r
word_goes v next views parts i s role.Pure is t = tt
word_goes v next views parts i s (role.Receive predicate c) is t =
    ap (λ (x : Site). atom_value next x.kept) (site_is v views parts i s) ∙ t.kept ((facts v views parts i s).sends ∙ ap (λ (x : net_site.Site). x.sends) is)
word_goes v next views parts i s (role.Send predicate c) is t = tt

site_goes : (ir : Package) (p clock k : ℕ) (v next : Values) (run : Atom) (views : List ChannelView) (parts : ProcParts) → Known ir p clock k v run views parts → Counts parts → Taken v next parts
    → (j i : ℕ) (own : SiteNets) → Placed v views parts j i own → SiteGoes v next parts i own
site_goes ir p clock k v next run views parts w c t j i own x =
    let s = x.put in
    let own_taken = each_taken ir p clock k v next run views parts w c t i s.site s.at in
    let done : own.done ≡ s.site.done = ap (λ (n : SiteNets). n.done) x.of.is ∙ ap (λ (y : Site). y.done) x.same in
    let at : done_of parts i ≡ own.next = sym (ap (λ (n : SiteNets). n.next) x.of.is) in (
      ap (atom_value next) done ∙ own_taken.done ∙ ap (λ m. v (suc (suc m))) at,
      λ n there.
          let same : s.found.line ≡ n = some_same (sym s.found.there ∙ there) in
          subst (λ m. WordGoesOn v next (proc_nets parts) i (role_of m)) same (word_goes v next views parts i s (role_of s.found.line) s.found.is own_taken),
    )

sites_go : (v next : Values) (parts : ProcParts) (i : ℕ) (sites : List SiteNets) → ((m : ℕ) (own : SiteNets) → slice_get sites m ≡ Some own → SiteGoes v next parts (i + m) own) → SitesGoOn v next parts.scheduled.proc (proc_nets parts) i sites
sites_go v next parts i [] each = tt
sites_go v next parts i (own ∷ sites) each =
    let at : i + 0 ≡ i = omega arith in
    let here = subst (λ m. SiteGoes v next parts m own) at (each 0 own refl) in
    (here.0, here.1, sites_go v next parts (suc i) sites (λ m s e. let sum : i + suc m ≡ suc i + m = omega arith in subst (λ x. SiteGoes v next parts x s) sum (each (suc m) s e)))

record StageGoes (v next : Values) (parts : ProcParts) (j : ℕ) (one : StageNets) : Type 0 where
  full : atom_value next one.full ≡ v (suc (suc one.next))
  sites : SitesGoOn v next parts.scheduled.proc (proc_nets parts) (first (pipeline parts) j) one.sites

stages_go : (v next : Values) (parts : ProcParts) (j : ℕ) (stages : List StageNets) → ((x : ℕ) (one : StageNets) → slice_get stages x ≡ Some one → StageGoes v next parts (j + x) one)
    → StagesGoOn v next parts.scheduled.proc (proc_nets parts) (pipeline parts) j stages
stages_go v next parts j [] each = tt
stages_go v next parts j (one ∷ more) each =
    let at : j + 0 ≡ j = omega arith in
    let here = subst (λ x. StageGoes v next parts x one) at (each 0 one refl) in
    (here.full, here.sites, stages_go v next parts (suc j) more (λ x s e. let sum : j + suc x ≡ suc j + x = omega arith in subst (λ y. StageGoes v next parts y s) sum (each (suc x) s e)))

pub bits_go : (ir : Package) (p clock k : ℕ) (v next : Values) (run : Atom) (views : List ChannelView) (parts : ProcParts) → Known ir p clock k v run views parts → Counts parts → Taken v next parts
    → StagesGoOn v next parts.scheduled.proc (proc_nets parts) (pipeline parts) 0 (parts_stages parts)
bits_go ir p clock k v next run views parts w c t =
    stages_go v next parts 0 (parts_stages parts)
    (λ x one e.
    let none : x ≡ 0 + x = omega arith in
    subst (λ y. StageGoes v next parts y one) none
    (record {
      full = full_goes ir p clock k v next parts w.put c t x one e (stage_stands ir p clock k v run views parts w x one e).full_is;
      sites = sites_go v next parts (first (pipeline parts) x) one.sites
          (λ m own f. site_goes ir p clock k v next run views parts w c t x (first (pipeline parts) x + m) own (each_placed ir p clock k v run views parts w x one e m own f));
    }))

-- ---- the state

pub state_goes : CarryLaw → (ir : Package) (p clock k : ℕ) (v next : Values) (run : Atom) (views : List ChannelView) (parts : ProcParts) → Known ir p clock k v run views parts → Begins ir parts → Taken v next parts
    → AreWired v parts.nums.state (state_wires parts.scheduled parts.made)
    → AreCarriedOn v next (move_of parts.made.stages.moves.items parts.scheduled.last) (shown_at parts.made.nodes.places parts.scheduled.last parts.scheduled.proc.next) (shown_at parts.made.nodes.places 0 operand.State)
state_goes law ir p clock k v next run views parts w b t wired =
    let all = w.driven.now.nodes in
    let ws = leaf_widths (ty_of parts.scheduled.proc.state) in
    let own : parts.made.nodes.places.state.own ≡ nets parts.layout.registers.state (length ws) = ap (λ (q : Place). q.own) all.state in
    let first_stage : shown_at parts.made.nodes.places 0 operand.State ≡ parts.made.nodes.places.state.own = place_first parts.made.nodes.places.state in
    subst (λ rs. AreCarriedOn v next (move_of parts.made.stages.moves.items parts.scheduled.last) (shown_at parts.made.nodes.places parts.scheduled.last parts.scheduled.proc.next) rs) (sym first_stage)
    (law v next parts.nums.state (move_of parts.made.stages.moves.items parts.scheduled.last) ws (shown_at parts.made.nodes.places parts.scheduled.last parts.scheduled.proc.next) parts.made.nodes.places.state.own wired
    (state_wires_long v views parts all b.next_there b.next_typed parts.scheduled.last) (state_own v views parts all)
    (ap (map (atom_value next)) own ∙ wires_map v next parts.layout.registers.state parts.nums.state (length ws) t.state))

-- ---- copies

carried_from : (a b j : ℕ) → (nat_lt a (suc j) && nat_le (suc j) b) ≡ true → (a ≤ j) × (suc j ≤ b)
carried_from a b j h = let both = both_true (nat_lt a (suc j)) (nat_le (suc j) b) h in let one = both.0 in let two = both.1 in (grind (arith, nat_tests, one), grind (arith, nat_tests, two))

read_last : (ir : Package) (p clock k : ℕ) (parts : ProcParts) → ArePut ir p clock k parts → (o : Operand) → IsEarlier (length parts.scheduled.proc.nodes) o
    → last_read (proc_readers (stage_of parts.scheduled.stages) parts.scheduled.proc parts.scheduled.last) o ≡ read_at parts.layout.reads o
read_last ir p clock k parts put o early = ap (λ f. last_read (proc_readers f parts.scheduled.proc parts.scheduled.last) o) (stages_same parts.scheduled.stages) ∙ sym (put.laid.reads o early)

state_copy_goes : CarryLaw → (ir : Package) (p clock k : ℕ) (v next : Values) (run : Atom) (views : List ChannelView) (parts : ProcParts) → Known ir p clock k v run views parts → Taken v next parts → (j : ℕ) → suc j ≤ parts.layout.reads.state
    → AreCarriedOn v next (move_of parts.made.stages.moves.items j) (shown_at parts.made.nodes.places j operand.State) (shown_at parts.made.nodes.places (suc j) operand.State)
state_copy_goes law ir p clock k v next run views parts w t j l =
    let all = w.driven.now.nodes in
    let place = parts.made.nodes.places.state in
    let ws = leaf_widths (ty_of parts.scheduled.proc.state) in
    let n = parts.layout.reads.state - place.stage in
    let stage : place.stage ≡ 0 = ap (λ (q : Place). q.stage) all.state in
    let copies : place.copies ≡ parts.layout.registers.state_copies = ap (λ (q : Place). q.copies) all.state in
    let own = state_own v views parts all in
    let count = copies_long ws place parts.made.stages.moves.items place.stage n own in
    let fits : j - parts.made.nodes.places.state.stage < parts.layout.reads.state - parts.made.nodes.places.state.stage = omega (arith, stage, l) in
    copies_carried law v next ws place parts.made.stages.moves.items n parts.nums.copies own (ap (λ (q : Place). q.constant) all.state) w.driven.next.copies
    (subst (λ r. TakeWires v next r parts.nums.copies (n * length ws)) (sym copies) (subst (TakeWires v next parts.layout.registers.state_copies parts.nums.copies) count t.copies)) j (omega (arith, stage)) fits

node_copy_goes : CarryLaw → (ir : Package) (p clock k : ℕ) (v next : Values) (run : Atom) (views : List ChannelView) (parts : ProcParts) → Known ir p clock k v run views parts → Taken v next parts
    → (m : ℕ) (n : Node) → slice_get parts.scheduled.proc.nodes m ≡ Some n → (place : Place) → IsPlaced v views parts m n place → is_literal n.attributes ≡ false → (last : ℕ) → slice_get parts.layout.reads.nodes.items m ≡ Some last
    → (j : ℕ) → place.stage ≤ j → suc j ≤ last → AreCarriedOn v next (move_of parts.made.stages.moves.items j) (place_at j place) (place_at (suc j) place)
node_copy_goes law ir p clock k v next run views parts w t m n there place q plain last read j from within =
    let all = w.driven.now.nodes in
    let ws = leaf_widths (ty_of n.ty) in
    let c = parts.layout.registers.state_copies + length (copy_registers (leaf_widths (ty_of parts.scheduled.proc.state)) (parts.layout.reads.state - 0)) in
    let moves = parts.made.stages.moves.items in
    let s = copies_stand v moves parts.scheduled.proc.nodes parts.made.nodes.places.nodes parts.scheduled.stages parts.layout.reads.nodes.items c parts.nums.nodes (nodes_match v views parts all) w.driven.next.nodes
    (known_long ir p clock k v run views parts w) m n place last there q.at read in
    let own : node_copies moves n place last ≡ copies_wires ws place moves place.stage (last - place.stage) = ap (λ u. cond u [] (copies_wires ws place moves place.stage (last - place.stage))) plain in
    let first_is : place.copies ≡ c + s.from = q.copies ∙ ap (given_or 0) (ap (λ xs. slice_get xs m) w.put.laid.registers.copies ∙ s.first) in
    let count : length (node_copies moves n place last) ≡ (last - place.stage) * length ws = ap length own ∙ copies_long ws place moves place.stage (last - place.stage) q.long in
    let taken_here : TakeWires v next (c + s.from) (parts.nums.nodes + s.from) (length (node_copies moves n place last)) =
    wires_within v next c parts.nums.nodes (length (nodes_copies moves parts.scheduled.proc.nodes parts.made.nodes.places.nodes parts.layout.reads.nodes.items)) s.from (length (node_copies moves n place last)) t.nodes s.within in
    copies_carried law v next ws place moves (last - place.stage) (parts.nums.nodes + s.from) q.long (q.constant ∙ plain) (subst (AreWired v (parts.nums.nodes + s.from)) own s.wired)
    (subst (λ r. TakeWires v next r (parts.nums.nodes + s.from) ((last - place.stage) * length ws)) (sym first_is) (subst (TakeWires v next (c + s.from) (parts.nums.nodes + s.from)) count taken_here)) j from
    (omega (arith, from, within))

-- a literal is the same in all stages and cycles
kept_carried : (v next : Values) (moves : Atom) (source registers own : List Atom) → source ≡ own → registers ≡ own → map (atom_value next) own ≡ map (atom_value v) own → AreCarriedOn v next moves source registers
kept_carried v next moves source registers own e f same = λ t is. ap (map (atom_value next)) f ∙ same ∙ either t
  where
    either : (t : Bool) → map (atom_value v) own ≡ cond t (map (atom_value v) source) (map (atom_value v) registers)
    either true = ap (map (atom_value v)) (sym e)
    either false = ap (map (atom_value v)) (sym f)

literal_goes : (ir : Package) (p clock k : ℕ) (v next : Values) (run : Atom) (views : List ChannelView) (parts : ProcParts) → Known ir p clock k v run views parts → Begins ir parts
    → NodesShow v ir.channels parts.scheduled.proc (proc_nets parts) (stage_of parts.scheduled.stages) → NodesShow next ir.channels parts.scheduled.proc (proc_nets parts) (stage_of parts.scheduled.stages)
    → (m : ℕ) (n : Node) → slice_get parts.scheduled.proc.nodes m ≡ Some n → (place : Place) → IsPlaced v views parts m n place → is_literal n.attributes ≡ true → (moves : Atom) (j : ℕ) → AreCarriedOn v next moves (place_at j place) (place_at (suc j) place)
literal_goes ir p clock k v next run views parts w b shows shows_next m n there place q is moves j =
    let opening = constant_value (ty_of parts.scheduled.proc.state) parts.scheduled.proc.init in
    let constant = q.constant ∙ is in
    let words : ℕ → Word = λ i. no_word in
    let at : shown_at parts.made.nodes.places (stage_at parts.scheduled.stages m) (operand.Node m) ≡ place.own = shown_place v views parts m n place q (stage_at parts.scheduled.stages m) ∙ place_constant (stage_at parts.scheduled.stages m) place constant in
    let same : map (atom_value next) place.own ≡ map (atom_value v) place.own =
    subst (λ xs. map (atom_value next) xs ≡ map (atom_value v) xs) at
    (literal_kept ir.channels parts.scheduled.proc (proc_nets parts) (stage_of parts.scheduled.stages) v next shows shows_next m n there _ (verified_nodes_fit ir p parts.scheduled.proc w.put.verified w.put.there m n there) is opening
    (node_values (setting_by ir.channels opening words) parts.scheduled.proc.nodes) words (b.types opening words b.opening)) in
    kept_carried v next moves (place_at j place) (place_at (suc j) place) place.own (place_constant j place constant) (place_constant (suc j) place constant) same

there_at : {A : Type 0} (xs : List A) (i : ℕ) → i < length xs → (x : A) × (slice_get xs i ≡ Some x)
there_at [] i l = absurd (omega (arith, l))
there_at (x ∷ xs) zero l = (x, refl)
there_at (x ∷ xs) (suc i) l = there_at xs i (omega (arith, l))

copy_goes : CarryLaw → (ir : Package) (p clock k : ℕ) (v next : Values) (run : Atom) (views : List ChannelView) (parts : ProcParts) → Known ir p clock k v run views parts → Begins ir parts → Taken v next parts
    → NodesShow v ir.channels parts.scheduled.proc (proc_nets parts) (stage_of parts.scheduled.stages) → NodesShow next ir.channels parts.scheduled.proc (proc_nets parts) (stage_of parts.scheduled.stages)
    → (o : Operand) → IsEarlier (length parts.scheduled.proc.nodes) o → (j : ℕ) → stage_of parts.scheduled.stages o ≤ j → suc j ≤ read_at parts.layout.reads o
    → AreCarriedOn v next (move_of parts.made.stages.moves.items j) (shown_at parts.made.nodes.places j o) (shown_at parts.made.nodes.places (suc j) o)
copy_goes law ir p clock k v next run views parts w b t shows shows_next operand.State early j from within = state_copy_goes law ir p clock k v next run views parts w t j within
copy_goes law ir p clock k v next run views parts w b t shows shows_next (operand.Node m) early j from within =
    let x = there_at parts.scheduled.proc.nodes m early in
    let n = x.0 in
    let y = node_placed v views parts w.driven.now.nodes m n x.1 in
    let place = y.0 in
    let q = y.1 in
    let count = w.put.laid.count in
    let few : m < length parts.scheduled.proc.nodes = early in
    let z = there_at parts.layout.reads.nodes.items m (omega (arith, few, count)) in
    let read : suc j ≤ z.0 = (let e = get_or_from_slice_get parts.layout.reads.nodes.items m z.0 0 z.1 in omega (arith, e, within)) in
    let stage = q.stage in
    let soon : stage_at parts.scheduled.stages m ≤ j = from in
    subst (λ xs. AreCarriedOn v next (move_of parts.made.stages.moves.items j) xs (shown_at parts.made.nodes.places (suc j) (operand.Node m))) (sym (shown_place v views parts m n place q j))
    (subst (λ xs. AreCarriedOn v next (move_of parts.made.stages.moves.items j) (place_at j place) xs) (sym (shown_place v views parts m n place q (suc j)))
    (by (is_literal n.attributes) n refl x.1 place q z.0 z.1 (omega (arith, soon, stage)) read))
  where
    by : (u : Bool) (n : Node) → is_literal n.attributes ≡ u → slice_get parts.scheduled.proc.nodes m ≡ Some n → (place : Place) → IsPlaced v views parts m n place → (last : ℕ) → slice_get parts.layout.reads.nodes.items m ≡ Some last
        → place.stage ≤ j → suc j ≤ last → AreCarriedOn v next (move_of parts.made.stages.moves.items j) (place_at j place) (place_at (suc j) place)
    by true n is there place q last read l h = literal_goes ir p clock k v next run views parts w b shows shows_next m n there place q is (move_of parts.made.stages.moves.items j) j
    by false n is there place q last read l h = node_copy_goes law ir p clock k v next run views parts w t m n there place q is last read j l h

-- ---- all

pub registers_go : CarryLaw → (ir : Package) (p clock k : ℕ) (v next : Values) (run : Atom) (views : List ChannelView) (parts : ProcParts) → Known ir p clock k v run views parts → Begins ir parts
    → CarriesOn parts.scheduled.proc parts.scheduled.last (stage_of parts.scheduled.stages) (is_carried (stage_of parts.scheduled.stages) (proc_readers (stage_of parts.scheduled.stages) parts.scheduled.proc parts.scheduled.last))
    → NodesShow v ir.channels parts.scheduled.proc (proc_nets parts) (stage_of parts.scheduled.stages) → NodesShow next ir.channels parts.scheduled.proc (proc_nets parts) (stage_of parts.scheduled.stages)
    → AreTaken v next k (next_nets parts.scheduled parts.layout parts.made parts.at parts.nums)
    → let one = pipeline_nets parts in RegistersGoOn v next one.proc one.nets one.stage one.carried one.pipeline one.stages
registers_go law ir p clock k v next run views parts w b carries shows shows_next h =
    let c = counts ir p clock k v run views parts w b in
    let t = taken ir p clock k v next parts w.put c h in
    let last = w.put.last in
    let depth = w.put.depth in
    let turn : turn_stage (timed_proc parts.scheduled.proc) parts.scheduled.stages < depth_of parts.scheduled.stages = w.is.last in
    record {
      bits = bits_go ir p clock k v next run views parts w c t;
      copies = λ o j l from carried.
          let early = carries.real o (suc j) carried in
          let both = carried_from (stage_of parts.scheduled.stages o) (last_read (proc_readers (stage_of parts.scheduled.stages) parts.scheduled.proc parts.scheduled.last) o) j carried in
          let read = read_last ir p clock k parts w.put o early in
          let within = both.1 in
          let before : suc j < depth_of parts.scheduled.stages = l in
          subst (λ m. AreCarriedOn v next m (shown_at parts.made.nodes.places j o) (shown_at parts.made.nodes.places (suc j) o)) (move_is parts w.put.stages j (omega (arith, before, depth)))
          (copy_goes law ir p clock k v next run views parts w b t shows shows_next o early j from (omega (arith, within, read)));
      state = subst (λ l. AreCarriedOn v next (move_at (parts_stages parts) l) (shown_at parts.made.nodes.places l parts.scheduled.proc.next) (shown_at parts.made.nodes.places 0 operand.State)) last
          (subst (λ m. AreCarriedOn v next m (shown_at parts.made.nodes.places parts.scheduled.last parts.scheduled.proc.next) (shown_at parts.made.nodes.places 0 operand.State))
          (move_is parts w.put.stages parts.scheduled.last (omega (arith, last, depth, turn))) (state_goes law ir p clock k v next run views parts w b t w.driven.next.state));
    }
