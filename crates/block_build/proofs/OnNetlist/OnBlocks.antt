-- A cycle of a block's netlist.
use Rattle.std.proofs.Common.{◌≡◌, ℕ, zero, suc, ◌≤◌, List, [], ◌∷◌, length, refl, sym, ap, ◌∙◌, subst, arith, true, false, Bool, Option, Some, None}
use Rattle.std.specs.Prelude.{slice_get, is_some, not, ◌==◌, option_map}
use Rattle.std.proofs.lemmas.Option.{slice_get-map}
use Rattle.xb_bits.specs.Word.{Word, word}
use Rattle.net_core.specs.declared.net.Chan.{Chan}
use Rattle.net_core.specs.declared.net.Kind.{Kind}
use Rattle.net_core.specs.declared.net.Kind.TheVariants.{Input, Output, Inner}
use Rattle.net_core.specs.declared.net.Site.{Site}
use Rattle.net_core.specs.Behavior.{chan_at}
use Rattle.net_core.specs.Cuts.{sites_at, words_sent, count_received}
use Rattle.ir_tree.specs.declared.node.Node.{Node}
use Rattle.ir_tree.specs.declared.node.Operand.{Operand}
use Rattle.ir_tree.specs.declared.node.Role.{Role}
use Rattle.ir_tree.specs.declared.node.Role.TheVariants as role
use Rattle.ir_tree.specs.declared.package.Proc.{Proc}
use Rattle.ir_tree.specs.Activations.{activation}
use Rattle.ir_tree.specs.NodeValues.{role_of}
use Rattle.block_stage.specs.Fifo.Fifo.{next_word, has_room as list_room, after_cycle}
use Rattle.block_stage.specs.Fifo.Row.{Row, RowHolds}
use Rattle.block_stage.proofs.Lemmas.Fifo.{row_word, row_first, row_room, row_cycle, fits_on}
use Rattle.block_stage.specs.Machine.Pipeline.{Pipeline, first}
use Rattle.block_stage.specs.Machine.Cycle.{Ports, Registers, circuit, asserted_in, in_stage, moves, walk}
use Rattle.block_stage.specs.Machine.Cycle as machine
use Rattle.block_stage.specs.Machine.Circuits.{asserts_by, cycle_by}
use Rattle.block_stage.proofs.Lemmas.Machine.{one_site_asserts_valid}
use Rattle.vlog_tree.specs.declared.expression.Atom.{Atom}
use Rattle.vlog_tree.specs.declared.expression.Binary.TheVariants as binary
use Rattle.vlog_tree.specs.Value.{Values, bit, atom_value}
use Rattle.block_build.specs.Block.{Block, run_of, receiver_of}
use Rattle.block_build.specs.Rows.{Machine, State, ports_in, valid_word_at, room_at, valid_word_by, room_by, asserts, is_reader_ready, valid_data, machine_after, one_row, sender_of, depth_of}
use Rattle.block_build.specs.Netlist.Blocks.{ChannelNets, PipelineNets, BlockNets, PartnerMade, PartnersMade, AllPartnersMade, ReaderMade, WriterMade, FifoMade, BlockMade, SidesShown, OuterShown, PortShown, RowShown, ChannelShown, QueueHeld, BlockHeld, FifoGoesOn, BlockGoesOn}
use Rattle.block_build.specs.Netlist.Fifos.{FifoNets, there_net, room_net, FifoHeld}
use Rattle.block_build.specs.Netlist.Handshakes.{SiteNets}
use Rattle.block_build.specs.Netlist.Holding.{SitesMade, AllSitesMade, WordShown, PortsShown, AllPortsShown, PipelineHeld}
use Rattle.block_build.specs.Netlist.Nodes.{ProcNets, IsPartnerSignal, site_index}
use Rattle.block_build.specs.Netlist.Stages.{StageNets}
use Rattle.block_build.proofs.Lemmas.Standing.{Stands, machine_of, there, none_there, sites_there}
use Rattle.block_build.proofs.OnNetlist.OnAsked.{end_has_valid, end_has_the_word, end_is_ready}
use Rattle.block_build.proofs.OnNetlist.OnFifos.{count_shown, slot_shown}
use Rattle.block_build.proofs.OnNetlist.OnGates.{operated}
use Rattle.block_build.proofs.OnNetlist.OnHolding.{registers_hold_on}
use Rattle.block_build.proofs.OnNetlist.OnProcs.{receive_site, send_site}

-- ---- channels

-- what a pipeline finds at a channel
abbrev Sides : Values → BlockNets → Ports → ℕ → Type 0
Sides v nets ports c = SidesShown v (nets.ends c) (ports.valid_word c) (ports.room c)

fifo_row : Values → FifoNets → List Word → Row Word
fifo_row v fifo words = record { count = length words; slot = λ x. atom_value v (fifo.slot x) }

row_holds : (v : Values) (fifo : FifoNets) (words : List Word) → QueueHeld v fifo words → RowHolds Word (fifo_row v fifo words) words
unfolding fifo_row
row_holds v fifo words h = record { count = refl; slots = h.slots }

fifo_held : (v : Values) (end : ChannelNets) (fifo : FifoNets) (depth : ℕ) (words : List Word) (offer : Option Word) → FifoMade v end fifo depth → QueueHeld v fifo words → atom_value v end.offered ≡ bit (is_some offer)
    → ((w : Word) → offer ≡ Some w → atom_value v end.offered_word ≡ w) → FifoHeld v fifo (fifo_row v fifo words) offer
unfolding fifo_row
fifo_held v end fifo depth words offer m h o w =
    record {
      wide = m.wide;
      one = m.one;
      numbers = m.numbers;
      number_one = m.number_one;
      few = h.few;
      count = h.count;
      slots = λ x l. refl;
      offers = ap (atom_value v) m.offered ∙ o;
      offered_word = λ u e. ap (atom_value v) m.offered_word ∙ w u e;
    }

-- what its FIFO shows to its sides
fifo_sides : (v : Values) (end : ChannelNets) (fifo : FifoNets) (depth : ℕ) (words : List Word) → FifoMade v end fifo depth → QueueHeld v fifo words → SidesShown v end (next_word words) (list_room depth words)
unfolding fifo_row
fifo_sides v end fifo depth words m h =
    let holds = row_holds v fifo words h in
    record {
      valid =
          ap (atom_value v) m.valid
          ∙ operated binary.NotEqual (v (there_net fifo)) (atom_value v fifo.count) (atom_value v (fifo.number 0)) (word fifo.count_width (length words)) (word fifo.count_width 0) m.is.view.0 h.count (m.numbers 0 (omega arith))
          ∙ ap bit (row_word (fifo_row v fifo words) words holds);
      word = λ w e. ap (atom_value v) m.word ∙ row_first (fifo_row v fifo words) words w holds e;
      room =
          ap (atom_value v) m.room
          ∙ operated binary.NotEqual (v (room_net fifo)) (atom_value v fifo.count) (atom_value v (fifo.number fifo.depth)) (word fifo.count_width (length words)) (word fifo.count_width fifo.depth) m.is.view.1.0 h.count (m.numbers fifo.depth (omega arith))
          ∙ ap bit (row_room fifo.depth (fifo_row v fifo words) words holds h.few) ∙ ap (λ d. bit (list_room d words)) m.deep;
    }

by_kind : (v : Values) (block : Block) (nets : BlockNets) (state : State) (row : Ports) (run : Atom) (c : ℕ) (chan : Chan) → BlockMade v run block nets → BlockHeld v block nets state → slice_get block.chans c ≡ Some chan
    → (kind : Kind) → chan.kind ≡ kind → OuterShown v (nets.ends c) row c kind → SidesShown v (nets.ends c) (valid_word_by kind (row.valid_word c) (state.queues c)) (room_by kind (depth_of block c) (row.room c) (state.queues c))
by_kind v block nets state row run c chan made held here Input is shown = shown
by_kind v block nets state row run c chan made held here Output is shown = shown
by_kind v block nets state row run c chan made held here Inner is shown = fifo_sides v (nets.ends c) (nets.fifos c) (depth_of block c) (state.queues c) (made.fifos c chan here is) (held.queues c chan here is)

by_channel : (v : Values) (block : Block) (nets : BlockNets) (state : State) (row : Ports) (run : Atom) (c : ℕ) → BlockMade v run block nets → BlockHeld v block nets state
    → (chan : Option Chan) → slice_get block.chans c ≡ chan → PortShown v (nets.ends c) row c chan
    → SidesShown v (nets.ends c) (valid_word_at chan (row.valid_word c) (state.queues c)) (room_at chan (depth_of block c) (row.room c) (state.queues c))
by_channel v block nets state row run c made held None e shown = shown
by_channel v block nets state row run c made held (Some chan) e shown = by_kind v block nets state row run c chan made held e chan.kind refl shown

sides_shown : (v : Values) (block : Block) (nets : BlockNets) (state : State) (row : Ports) (run : Atom) → BlockMade v run block nets → BlockHeld v block nets state → RowShown v block nets row → (c : ℕ) → Sides v nets (ports_in block state row) c
sides_shown v block nets state row run made held shown c = by_channel v block nets state row run c made held (slice_get block.chans c) refl (shown c)

-- ---- a pipeline's ports

chan_there : (sites : List Site) (i : ℕ) (site : Site) → slice_get sites i ≡ Some site → chan_at sites i ≡ site.chan
chan_there [] i site e = absurd (cc)
chan_there (x ∷ sites) zero site e = let same : x ≡ site = cc in ap (λ (y : Site). y.chan) same
chan_there (x ∷ sites) (suc i) site e = chan_there sites i site e

site_ports : (v : Values) (blocks : BlockNets) (proc : Proc) (nets : ProcNets) (q : Pipeline) (ports : Ports) (k i : ℕ) (n : Node) (site : SiteNets) → activation blocks.channels proc ≡ q.proc.behavior → ((c : ℕ) → Sides v blocks ports c)
    → slice_get proc.nodes k ≡ Some n → site_index proc.nodes k ≡ i → (rl : Role) → role_of n ≡ rl → PartnerMade nets blocks.ends site i rl
    → IsPartnerSignal v (ports.valid_word (chan_at q.proc.behavior.sites i)) (ports.room (chan_at q.proc.behavior.sites i)) site.partner rl × WordShown v nets ports (chan_at q.proc.behavior.sites i) i rl
site_ports v blocks proc nets q ports k i n site e sides there index role.Pure is made = absurd made
site_ports v blocks proc nets q ports k i n site e sides there index (role.Receive predicate d) is made =
    let at = ap (λ b. slice_get b.sites i) (sym e) ∙ ap (slice_get (activation blocks.channels proc).sites) (sym index) ∙ receive_site blocks.channels proc k n predicate d there is in
    let chan : chan_at q.proc.behavior.sites i ≡ d = chan_there q.proc.behavior.sites i (record { chan = d; sends = false }) at in (
      ap (atom_value v) made.0 ∙ (sides d).valid ∙ ap (λ c. bit (is_some (ports.valid_word c))) (sym chan),
      (λ w h. ap (atom_value v) made.1 ∙ (sides d).word w (ap ports.valid_word (sym chan) ∙ h)),
    )
site_ports v blocks proc nets q ports k i n site e sides there index (role.Send predicate d) is made =
    let at = ap (λ b. slice_get b.sites i) (sym e) ∙ ap (slice_get (activation blocks.channels proc).sites) (sym index) ∙ send_site blocks.channels proc k n predicate d there is in
    let chan : chan_at q.proc.behavior.sites i ≡ d = chan_there q.proc.behavior.sites i (record { chan = d; sends = true }) at in
    (ap (atom_value v) made ∙ (sides d).room ∙ ap (λ c. bit (ports.room c)) (sym chan), tt)

stage_ports : (v : Values) (blocks : BlockNets) (proc : Proc) (nets : ProcNets) (stage : Operand → ℕ) (q : Pipeline) (ports : Ports) (j : ℕ) → activation blocks.channels proc ≡ q.proc.behavior → ((c : ℕ) → Sides v blocks ports c) → (sites : List SiteNets) (i : ℕ)
    → SitesMade v proc nets stage j i sites → PartnersMade proc nets blocks.ends i sites → PortsShown v proc nets q ports i sites
stage_ports v blocks proc nets stage q ports j e sides [] i made partners = tt
stage_ports v blocks proc nets stage q ports j e sides (site ∷ sites) i made partners = (
  (λ n there. site_ports v blocks proc nets q ports (nets.node i) i n site e sides there made.0.index (role_of n) refl (partners.0 n there)),
  stage_ports v blocks proc nets stage q ports j e sides sites (suc i) made.1 partners.1,
)

all_ports : (v : Values) (blocks : BlockNets) (proc : Proc) (nets : ProcNets) (stage : Operand → ℕ) (q : Pipeline) (ports : Ports) → activation blocks.channels proc ≡ q.proc.behavior → ((c : ℕ) → Sides v blocks ports c) → (stages : List StageNets) (j : ℕ)
    → AllSitesMade v proc nets stage q j stages → AllPartnersMade proc nets blocks.ends q j stages → AllPortsShown v proc nets q ports j stages
all_ports v blocks proc nets stage q ports e sides [] j made partners = tt
all_ports v blocks proc nets stage q ports e sides (one ∷ more) j made partners = (
  stage_ports v blocks proc nets stage q ports j e sides one.sites (first q j) made.0 partners.0,
  all_ports v blocks proc nets stage q ports e sides more (suc j) made.2 partners.1,
)

pipeline_ports : (v : Values) (block : Block) (nets : BlockNets) (state : State) (row : Ports) (run : Atom) → BlockMade v run block nets → BlockHeld v block nets state → RowShown v block nets row → (p : ℕ) (one : PipelineNets) → slice_get nets.pipelines p ≡ Some one
    → AllPortsShown v one.proc one.nets one.pipeline (ports_in block state row) 0 one.stages
pipeline_ports v block nets state row run made held shown p one e =
    let m = made.made p one e in
    all_ports v nets one.proc one.nets one.stage one.pipeline (ports_in block state row) m.behaves (sides_shown v block nets state row run made held shown) one.stages 0 m.sites (made.partners p one e)

-- ---- machines

pub pipeline_there : (v : Values) (block : Block) (nets : BlockNets) (run : Atom) → BlockMade v run block nets → (p : ℕ) → slice_get block.pipelines p ≡ option_map (λ (one : PipelineNets). one.pipeline) (slice_get nets.pipelines p)
pipeline_there v block nets run made p = ap (λ qs. slice_get qs p) (sym made.pipelines) ∙ slice_get-map (λ (one : PipelineNets). one.pipeline) nets.pipelines p

asserted_same : (q : Pipeline) (c : Registers) (ports : Ports) → asserted_in q c ports ≡ asserts_by circuit q c ports
unfolding asserted_in in_stage walk
asserted_same q c ports = refl

cycle_same : (q : Pipeline) (c : Registers) (ports : Ports) → machine.after_cycle q c ports ≡ cycle_by circuit q c ports
unfolding machine.after_cycle in_stage moves walk
cycle_same q c ports = refl

reader_shown : (v : Values) (block : Block) (nets : BlockNets) (state : State) (past : List Ports) (row : Ports) (run : Atom) → BlockMade v run block nets → atom_value v run ≡ bit true → BlockHeld v block nets state → Stands block state past → RowShown v block nets row → (c : ℕ)
    → (one : Option PipelineNets) → slice_get nets.pipelines (receiver_of block c) ≡ one → ReaderMade v c (nets.ends c) one → atom_value v (nets.ends c).ready ≡ bit (is_reader_ready block state (ports_in block state row) c)
reader_shown v block nets state past row run made r held stands shown c None e h =
    let none = none_there block state past stands (receiver_of block c) (pipeline_there v block nets run made (receiver_of block c) ∙ ap (option_map (λ (x : PipelineNets). x.pipeline)) e) in
    h ∙ sym (rw none (unfold count_received in refl))
reader_shown v block nets state past row run made r held stands shown c (Some one) e h =
    let p = receiver_of block c in
    let q = one.pipeline in
    let here = pipeline_there v block nets run made p ∙ ap (option_map (λ (x : PipelineNets). x.pipeline)) e in
    let m = there block state past stands p q here in
    let sites = sites_there block [] 0 p q here in
    let regs = held.machines p one (machine_of past q) e m in
    let ports = ports_in block state row in
    ap (atom_value v) h.is
    ∙ end_is_ready v run nets.channels one.proc one.nets one.stage one.carried q one.stages (machine_of past q).since.contents ports (made.made p one e) regs (pipeline_ports v block nets state row run made held shown p one e) r c h.from h.zeros h.wired h.none
    ∙ sym (ap (λ es. bit (not (count_received q.proc.behavior.sites c es == 0))) (asserted_same q (machine_of past q).since.contents ports))
    ∙ sym (ap (λ x. bit (not (count_received (sites_at (run_of block [] 0) p) c (asserts x ports) == 0))) m ∙ ap (λ xs. bit (not (count_received xs c (asserted_in q (machine_of past q).since.contents ports) == 0))) sites)

record WriterShown (v : Values) (block : Block) (nets : BlockNets) (state : State) (ports : Ports) (c : ℕ) : Type 0 where
  offered : atom_value v (nets.ends c).offered ≡ bit (is_some (valid_data block state ports c))
  word : (w : Word) → valid_data block state ports c ≡ Some w → atom_value v (nets.ends c).offered_word ≡ w

writer_shown : (v : Values) (block : Block) (nets : BlockNets) (state : State) (past : List Ports) (row : Ports) (run : Atom) → BlockMade v run block nets → atom_value v run ≡ bit true → BlockHeld v block nets state → Stands block state past → RowShown v block nets row → (c : ℕ)
    → (one : Option PipelineNets) → slice_get nets.pipelines (sender_of block c) ≡ one → WriterMade v c (nets.ends c) one → WriterShown v block nets state (ports_in block state row) c
writer_shown v block nets state past row run made r held stands shown c None e h =
    let none = none_there block state past stands (sender_of block c) (pipeline_there v block nets run made (sender_of block c) ∙ ap (option_map (λ (x : PipelineNets). x.pipeline)) e) in
    let nothing : valid_data block state (ports_in block state row) c ≡ None = rw none (unfold words_sent in refl) in
    record {
      offered = h ∙ sym (ap (λ o. bit (is_some o)) nothing);
      word = λ w is. absurd (cc);
    }
writer_shown v block nets state past row run made r held stands shown c (Some one) e h =
    let p = sender_of block c in
    let q = one.pipeline in
    let here = pipeline_there v block nets run made p ∙ ap (option_map (λ (x : PipelineNets). x.pipeline)) e in
    let m = there block state past stands p q here in
    let sites = sites_there block [] 0 p q here in
    let c0 = (machine_of past q).since.contents in
    let regs = held.machines p one (machine_of past q) e m in
    let ports = ports_in block state row in
    let pm = made.made p one e in
    let found = pipeline_ports v block nets state row run made held shown p one e in
    let same : valid_data block state ports c ≡ next_word (words_sent q.proc.behavior.sites c (asserts_by circuit q c0 ports)) =
    ap (λ x. next_word (words_sent (sites_at (run_of block [] 0) p) c (asserts x ports))) m ∙ ap (λ xs. next_word (words_sent xs c (asserted_in q c0 ports))) sites
    ∙ ap (λ es. next_word (words_sent q.proc.behavior.sites c es)) (asserted_same q c0 ports) in
    let few = subst (λ es. length (words_sent q.proc.behavior.sites c es) ≤ 1) (asserted_same q c0 ports) (one_site_asserts_valid q pm.legal past ports c) in
    record {
      offered =
          ap (atom_value v) h.0.is
          ∙ end_has_valid v run nets.channels one.proc one.nets one.stage one.carried q one.stages c0 ports pm regs found r c h.0.from h.0.zeros h.0.wired h.0.none
          ∙ sym (ap (λ o. bit (is_some o)) same);
      word =
          λ w is.
          ap (atom_value v) h.1.is
          ∙ end_has_the_word v run nets.channels one.proc one.nets one.stage one.carried q one.stages c0 ports pm regs found r c h.1.width h.1.from h.1.zeros h.1.wired few w (sym same ∙ is);
    }

-- ---- the next cycle

machine_next : (v next : Values) (block : Block) (nets : BlockNets) (state : State) (past : List Ports) (row : Ports) (run : Atom) → BlockMade v run block nets → atom_value v run ≡ bit true → BlockHeld v block nets state → Stands block state past → RowShown v block nets row
    → BlockGoesOn v next block nets → (p : ℕ) (one : PipelineNets) (m' : Machine) → slice_get nets.pipelines p ≡ Some one → slice_get (one_row block state row).machines p ≡ Some m'
    → PipelineHeld next nets.channels one.proc one.nets one.stage one.carried one.pipeline one.stages m'.since.contents
machine_next v next block nets state past row run made r held stands shown go p one m' e e' =
    let q = one.pipeline in
    let here = pipeline_there v block nets run made p ∙ ap (option_map (λ (x : PipelineNets). x.pipeline)) e in
    let m = there block state past stands p q here in
    let ports = ports_in block state row in
    let after : slice_get (one_row block state row).machines p ≡ Some (machine_after ports (machine_of past q)) = slice_get-map (machine_after ports) state.machines p ∙ ap (option_map (machine_after ports)) m in
    let same : machine_after ports (machine_of past q) ≡ m' = let both : ◌≡◌ {A = Option Machine} (Some (machine_after ports (machine_of past q))) (Some m') = sym after ∙ e' in cc in
    let contents : cycle_by circuit q (machine_of past q).since.contents ports ≡ m'.since.contents = sym (cycle_same q (machine_of past q).since.contents ports) ∙ ap (λ (x : Machine). x.since.contents) same in
    subst (PipelineHeld next nets.channels one.proc one.nets one.stage one.carried q one.stages) contents
    (registers_hold_on v next run nets.channels one.proc one.nets one.stage one.carried q one.stages (machine_of past q).since.contents ports (made.made p one e) r (held.machines p one (machine_of past q) e m)
    (pipeline_ports v block nets state row run made held shown p one e) (go.pipelines p one e))

queue_next : (v next : Values) (end : ChannelNets) (fifo : FifoNets) (depth : ℕ) (words : List Word) (ready : Bool) (offer : Option Word) → FifoMade v end fifo depth → QueueHeld v fifo words → atom_value v end.ready ≡ bit ready → atom_value v end.offered ≡ bit (is_some offer)
    → ((w : Word) → offer ≡ Some w → atom_value v end.offered_word ≡ w) → FifoGoesOn v next fifo → QueueHeld next fifo (after_cycle depth words ready offer)
unfolding fifo_row
queue_next v next end fifo depth words ready offer m h r o w go =
    let stage_regs = fifo_held v end fifo depth words offer m h o w in
    let asserted = ap (atom_value v) m.ready ∙ r in
    let row = fifo_row v fifo words in
    let shown = count_shown v fifo row ready offer m.is stage_regs asserted in
    let holds = row_cycle fifo.depth row words ready offer (row_holds v fifo words h) h.few in
    let fits = fits_on fifo.depth words ready offer h.few in
    subst (λ d. QueueHeld next fifo (after_cycle d words ready offer)) m.deep
    (record {
      count = go.count ∙ shown.count ∙ ap (word fifo.count_width) holds.count;
      slots = λ k l. holds.slots k l ∙ ap Some (sym (go.slots k (omega (arith, l, fits)) ∙ slot_shown v fifo row ready offer m.is stage_regs asserted k (omega (arith, l, fits))));
      few = fits;
    })

-- ---- all

pub blocks_show_their_ends : (v : Values) (block : Block) (nets : BlockNets) (state : State) (past : List Ports) (row : Ports) (run : Atom) → BlockMade v run block nets → atom_value v run ≡ bit true → BlockHeld v block nets state → Stands block state past
    → RowShown v block nets row → (c : ℕ) → ChannelShown v (nets.ends c) (is_reader_ready block state (ports_in block state row) c) (valid_data block state (ports_in block state row) c)
blocks_show_their_ends v block nets state past row run made r held stands shown c =
    let writer = writer_shown v block nets state past row run made r held stands shown c (slice_get nets.pipelines (sender_of block c)) refl (made.writers c) in
    record {
      ready = reader_shown v block nets state past row run made r held stands shown c (slice_get nets.pipelines (receiver_of block c)) refl (made.readers c);
      offered = writer.offered;
      word = writer.word;
    }

pub blocks_hold_on : (v next : Values) (block : Block) (nets : BlockNets) (state : State) (past : List Ports) (row : Ports) (run : Atom) → BlockMade v run block nets → atom_value v run ≡ bit true → BlockHeld v block nets state → Stands block state past → RowShown v block nets row
    → BlockGoesOn v next block nets → BlockHeld next block nets (one_row block state row)
blocks_hold_on v next block nets state past row run made r held stands shown go =
    record {
      machines = λ p one m' e e'. machine_next v next block nets state past row run made r held stands shown go p one m' e e';
      queues =
          λ c chan here kind.
          let ends = blocks_show_their_ends v block nets state past row run made r held stands shown c in
          queue_next v next (nets.ends c) (nets.fifos c) (depth_of block c) (state.queues c) (is_reader_ready block state (ports_in block state row) c) (valid_data block state (ports_in block state row) c)
          (made.fifos c chan here kind) (held.queues c chan here kind) ends.ready ends.offered ends.word (go.fifos c chan here kind);
    }
