-- What stands at the ends of channels is what the block's pipelines ask there.
use Rattle.std.proofs.Common.{◌≡◌, ℕ, zero, suc, ◌+◌, ◌<◌, ◌≤◌, Bool, true, false, List, [], ◌∷◌, length, map, get_or, refl, sym, ap, ◌∙◌, subst, ◌⊎◌, inl, inr, arith}
use Rattle.std.specs.Prelude.{slice_get, Option, Some, None, option_map, not, ◌&&◌, ◌||◌, ◌==◌, if◌then◌else◌}
use Rattle.std.specs.List.{list_any}
use Rattle.std.proofs.lemmas.Bool.{cases_lt, eqb-true, and_parts}
use Rattle.std.proofs.lemmas.Option.{slice_get-map}
use Rattle.net_core.specs.Cuts.{index_of, receives_on, sends_on}
use Rattle.net_core.specs.declared.net.Site.{Site}
use Rattle.net_core.specs.WellFormed.{IsNet, IsSiteOf}
use Rattle.ir_tree.specs.declared.package.Channel.{Channel}
use Rattle.ir_tree.specs.declared.package.Package.{Package}
use Rattle.ir_tree.specs.declared.package.Proc.{Proc}
use Rattle.ir_tree.specs.Activations.{activation, sites_of}
use Rattle.ir_tree.specs.Networks.{network_of, head_of, chan_of}
use Rattle.vlog_tree.specs.declared.expression.Atom.{Atom}
use Rattle.vlog_tree.specs.Value.{Values, bit, atom_value}
use Rattle.block_stage.specs.Machine.Pipeline.{Pipeline}
use Rattle.block_build.specs.declared.netlist.fifos.ChannelEnds.{ChannelEnds}
use Rattle.block_build.specs.declared.netlist.fifos.ChannelView.{ChannelView}
use Rattle.block_build.specs.Netlist.Blocks.{SomeMade, WordMade, ReaderMade, WriterMade, ChannelNets}
use Rattle.block_build.specs.Netlist.Ends.{some_wires, some_net, word_wires, word_net, all_sites, end_requests}
use Rattle.block_build.specs.Netlist.Literals.{literal_atom}
use Rattle.block_build.specs.Netlist.Requests.{requests_at}
use Rattle.block_build.specs.Netlist.Wires.{AreWired}
use Rattle.block_verilog.specs.Signals.Nodes.{channel_view}
use Rattle.block_verilog.specs.Schedule.Pipelines.{AreLegal, pipelines_of}
use Rattle.block_verilog.specs.declared.pipelines.pipelines.ProcWires.{ProcWires}
use Rattle.block_verilog.specs.Pipelines.Nets.{ProcParts, ArePut, PartsDriven, pipeline_nets}
use Rattle.block_verilog.specs.Pipelines.Pipelines.{proc_registers}
use Rattle.block_verilog.specs.Each.{EachFrom}
use Rattle.block_verilog.specs.Ports.{flat_bits}
use Rattle.block_verilog.specs.Queues.{no_ends}
use Rattle.block_verilog.proofs.Lemmas.Each.{each_at}
use Rattle.block_verilog.specs.Parts.{BlockParts, channel_nets, ArePutFrom, IsBlockDriven}
use Rattle.block_verilog.specs.Sides.{stands_at, has_site, proc_at, SomeStands, WordStands, SomeAt, WordAt, EndsAt, IsEnd}

-- the law of requests
abbrev pub AskedAlike : Type 0
AskedAlike =
    (ir : Package) (p clock k : ℕ) (parts : ProcParts) → ArePut ir p clock k parts → let one = pipeline_nets parts in
    (v : Values) (run : Atom) (views : List ChannelView) → PartsDriven v run views parts → (chan : ℕ) (sends : Bool)
    → requests_at chan sends parts.made.nodes.sites parts.made.stages.handshakes.items ≡ end_requests one.pipeline.proc.behavior.sites chan sends one.nets.sent 0 (all_sites one.stages)

-- ---- the proc at an end

pub receiver_same : (channels : List Channel) (clock : ℕ) (procs : List Proc) (schedules : List (List ℕ)) → AreLegal clock procs schedules → (c : ℕ)
    → index_of (receives_on c) (map (λ (q : Pipeline). q.proc) (pipelines_of channels procs schedules)) ≡ proc_at procs false c
unfolding activation
receiver_same channels clock [] [] legal c = refl
receiver_same channels clock [] (s ∷ schedules) legal c = absurd legal
receiver_same channels clock (proc ∷ procs) [] legal c = absurd legal
receiver_same channels clock (proc ∷ procs) (s ∷ schedules) legal c = ap (λ n. if has_site false c proc then 0 else suc n) (receiver_same channels clock procs schedules legal.1 c)

pub sender_same : (channels : List Channel) (clock : ℕ) (procs : List Proc) (schedules : List (List ℕ)) → AreLegal clock procs schedules → (c : ℕ)
    → index_of (sends_on c) (map (λ (q : Pipeline). q.proc) (pipelines_of channels procs schedules)) ≡ proc_at procs true c
unfolding activation
sender_same channels clock [] [] legal c = refl
sender_same channels clock [] (s ∷ schedules) legal c = absurd legal
sender_same channels clock (proc ∷ procs) [] legal c = absurd legal
sender_same channels clock (proc ∷ procs) (s ∷ schedules) legal c = ap (λ n. if has_site true c proc then 0 else suc n) (sender_same channels clock procs schedules legal.1 c)

index_gives : {A : Type 0} (test : A → Bool) (xs : List A) (x : A) → slice_get xs (index_of test xs) ≡ Some x → test x ≡ true
index_gives test [] x e = absurd (cc)
index_gives test (y ∷ ys) x e = go (test y) refl e (λ f. index_gives test ys x f)
  where
    go : (t : Bool) → test y ≡ t → slice_get (y ∷ ys) (if t then 0 else suc (index_of test ys)) ≡ Some x → (slice_get ys (index_of test ys) ≡ Some x → test x ≡ true) → test x ≡ true
    go true f g rest = let same : y ≡ x = cc in ap test (sym same) ∙ f
    go false f g rest = rest g

any_gives : {A : Type 0} (test : A → Bool) (xs : List A) → list_any test xs ≡ true → (i : ℕ) × (x : A) × (slice_get xs i ≡ Some x) × (test x ≡ true)
any_gives test [] e = absurd (cc)
any_gives test (y ∷ ys) e = go (test y) refl e (λ f. any_gives test ys f)
  where
    go : (t : Bool) → test y ≡ t → (t || list_any test ys) ≡ true → (list_any test ys ≡ true → (i : ℕ) × (x : _) × (slice_get ys i ≡ Some x) × (test x ≡ true)) → (i : ℕ) × (x : _) × (slice_get (y ∷ ys) i ≡ Some x) × (test x ≡ true)
    go true f g rest = (0, y, refl, f)
    go false f g rest = let more = rest g in (suc more.0, more.1, more.2, more.3)

stands_there : (sends : Bool) (c : ℕ) (site : Site) → stands_at sends c site ≡ true → site.chan ≡ c
stands_there true c site e = eqb-true site.chan c (and_parts site.sends (site.chan == c) e).1
stands_there false c site e = eqb-true site.chan c (and_parts (not site.sends) (site.chan == c) e).1

map_long : {A B : Type 0} (f : A → B) (xs : List A) → length (map f xs) ≡ length xs
map_long f [] = refl
map_long f (y ∷ xs) = ap suc (map_long f xs)

-- a proc has sites at channels that are there
channel_there : (ir : Package) → IsNet (network_of ir) → (p : ℕ) (proc : Proc) (sends : Bool) (c : ℕ) → slice_get ir.procs p ≡ Some proc → has_site sends c proc ≡ true → c < length ir.channels
channel_there ir net p proc sends c there has =
    let any = any_gives (stands_at sends c) (sites_of proc.nodes) has in
    let at : IsSiteOf (network_of ir) p any.0 any.1 = record { head = head_of proc; proc = slice_get-map head_of ir.procs p ∙ ap (λ o. option_map head_of o) there; place = any.2 } in
    let within = net.site p any.0 any.1 at in
    let same = stands_there sends c any.1 any.3 in
    let long = map_long chan_of ir.channels in
    omega (arith, within, same, long)

pub put_at : (ir : Package) (clock p k : ℕ) (parts : List ProcParts) → ArePutFrom ir clock p k parts → (q : ℕ) (one : ProcParts) → slice_get parts q ≡ Some one → (n : ℕ) × ArePut ir (p + q) clock n one
put_at ir clock p k [] put q one there = absurd (cc)
put_at ir clock p k (x ∷ parts) put zero one there =
    let same : x ≡ one = cc in
    let e : p ≡ p + 0 = omega arith in
    (k, subst (λ y. ArePut ir (p + 0) clock k y) same (subst (λ n. ArePut ir n clock k x) e put.0))
put_at ir clock p k (x ∷ parts) put (suc q) one there =
    let rest = put_at ir clock (suc p) (k + length (proc_registers x.scheduled x.layout.reads)) parts put.1 q one there in
    let e : suc p + q ≡ p + suc q = omega arith in
    (rest.0, subst (λ n. ArePut ir n clock rest.0 one) e rest.1)

-- ---- what is asked there

zero_bit : (v : Values) → atom_value v (literal_atom 1 0) ≡ bit false
zero_bit v = refl

some_made : (v : Values) (one : ProcParts) (c : ℕ) (sends : Bool) (signal : Atom) → let nets = pipeline_nets one in
    requests_at c sends one.made.nodes.sites one.made.stages.handshakes.items ≡ end_requests nets.pipeline.proc.behavior.sites c sends nets.nets.sent 0 (all_sites nets.stages)
    → SomeStands v one.made c sends signal → SomeMade v nets c sends signal
some_made v one c sends signal same s = record {
  from = s.from;
  zeros = literal_atom 1 0;
  wired = subst (λ rs. AreWired v s.from (some_wires s.from (literal_atom 1 0) rs)) same s.wired;
  none = zero_bit v;
  is = s.is ∙ ap (some_net s.from (literal_atom 1 0)) same;
}

word_made : (v : Values) (one : ProcParts) (c width : ℕ) (signal : Atom) → let nets = pipeline_nets one in
    requests_at c true one.made.nodes.sites one.made.stages.handshakes.items ≡ end_requests nets.pipeline.proc.behavior.sites c true nets.nets.sent 0 (all_sites nets.stages)
    → WordStands v one.made c width signal → WordMade v nets c signal
word_made v one c width signal same s = record {
  from = s.from;
  width = width;
  zeros = literal_atom width 0;
  wired = subst (λ rs. AreWired v s.from (word_wires width s.from (literal_atom width 0) rs)) same s.wired;
  is = s.is ∙ ap (word_net s.from (literal_atom width 0)) same;
}

module _ (law : AskedAlike) (ir : Package) (net : IsNet (network_of ir)) (clock k : ℕ) (v : Values) (run : Atom) (parts : BlockParts) (put : ArePutFrom ir clock 0 k parts.procs) (driven : IsBlockDriven v run ir parts) (long : length parts.sides ≡ length ir.channels) where
  abbrev made : List ProcWires
  made = map (λ (one : ProcParts). one.made) parts.procs

  abbrev side : ℕ → ChannelEnds
  side c = get_or parts.sides c no_ends

  alike : (p : ℕ) (one : ProcParts) → slice_get parts.procs p ≡ Some one → (c : ℕ) (sends : Bool)
      → requests_at c sends one.made.nodes.sites one.made.stages.handshakes.items ≡ end_requests (pipeline_nets one).pipeline.proc.behavior.sites c sends (pipeline_nets one).nets.sent 0 (all_sites (pipeline_nets one).stages)
  alike p one there c sends = let own = put_at ir clock 0 k parts.procs put p one there in law ir (0 + p) clock own.0 one own.1 v run parts.views (driven.procs p one there) c sends

  -- the sites of the proc at an end of a channel are at one that is there
  within : (sends : Bool) (c : ℕ) (one : ProcParts) → slice_get parts.procs (proc_at ir.procs sends c) ≡ Some one → c < length ir.channels
  within sends c one there =
      let own = put_at ir clock 0 k parts.procs put (proc_at ir.procs sends c) one there in
      let same : 0 + proc_at ir.procs sends c ≡ proc_at ir.procs sends c = omega arith in
      let proc : slice_get ir.procs (proc_at ir.procs sends c) ≡ Some one.scheduled.proc = ap (slice_get ir.procs) (sym same) ∙ own.1.there in
      channel_there ir net (proc_at ir.procs sends c) one.scheduled.proc sends c proc (index_gives (has_site sends c) ir.procs one.scheduled.proc proc)

  ends_there : (c : ℕ) → c < length ir.channels → (channel : Channel) × (slice_get ir.channels c ≡ Some channel) × EndsAt v made (proc_at ir.procs false c) (proc_at ir.procs true c) c (flat_bits channel) (side c)
  ends_there c l =
      let channel = is_there ir.channels c l in
      let end = is_there parts.sides c (omega (arith, l, long)) in
      let zero : 0 + c ≡ c = omega arith in
      let each = each_at (IsEnd v ir.procs made ir.channels) 0 parts.sides c end.0 driven.sides end.1 in
      let said = subst (λ n. IsEnd v ir.procs made ir.channels n end.0) zero each in
      let same : end.0 ≡ side c = got parts.sides c end.0 end.1 in
      (channel.0, channel.1, subst (EndsAt v made (proc_at ir.procs false c) (proc_at ir.procs true c) c (flat_bits channel.0)) same (said channel.0 channel.1))
    where
      is_there : {A : Type 0} (xs : List A) (i : ℕ) → i < length xs → (x : A) × (slice_get xs i ≡ Some x)
      is_there [] i m = absurd (omega (arith, m))
      is_there (x ∷ xs) zero m = (x, refl)
      is_there (x ∷ xs) (suc i) m = is_there xs i (omega (arith, m))

      got : (xs : List ChannelEnds) (i : ℕ) (x : ChannelEnds) → slice_get xs i ≡ Some x → x ≡ get_or xs i no_ends
      got [] i x e = absurd (cc)
      got (y ∷ xs) zero x e = cc
      got (y ∷ xs) (suc i) x e = got xs i x e

  -- where no proc is there: either no channel is, or zeros stand there
  some_none : (sends : Bool) (c : ℕ) (signal : Atom) → slice_get parts.procs (proc_at ir.procs sends c) ≡ None → SomeAt v (slice_get made (proc_at ir.procs sends c)) c sends signal → atom_value v signal ≡ bit false
  some_none sends c signal none s =
      let e : slice_get made (proc_at ir.procs sends c) ≡ None = slice_get-map (λ (one : ProcParts). one.made) parts.procs (proc_at ir.procs sends c) ∙ ap (option_map (λ (one : ProcParts). one.made)) none in
      let zeros : signal ≡ literal_atom 1 0 = subst (λ o. SomeAt v o c sends signal) e s in
      ap (atom_value v) zeros ∙ zero_bit v

  some_there : (sends : Bool) (c : ℕ) (one : ProcParts) (signal : Atom) → slice_get parts.procs (proc_at ir.procs sends c) ≡ Some one → SomeAt v (slice_get made (proc_at ir.procs sends c)) c sends signal → SomeMade v (pipeline_nets one) c sends signal
  some_there sends c one signal there s =
      let e : slice_get made (proc_at ir.procs sends c) ≡ Some one.made = slice_get-map (λ (x : ProcParts). x.made) parts.procs (proc_at ir.procs sends c) ∙ ap (option_map (λ (x : ProcParts). x.made)) there in
      some_made v one c sends signal (alike (proc_at ir.procs sends c) one there c sends) (subst (λ o. SomeAt v o c sends signal) e s)

  word_there : (c width : ℕ) (one : ProcParts) (signal : Atom) → slice_get parts.procs (proc_at ir.procs true c) ≡ Some one → WordAt v (slice_get made (proc_at ir.procs true c)) c width signal → WordMade v (pipeline_nets one) c signal
  word_there c width one signal there s =
      let e : slice_get made (proc_at ir.procs true c) ≡ Some one.made = slice_get-map (λ (x : ProcParts). x.made) parts.procs (proc_at ir.procs true c) ∙ ap (option_map (λ (x : ProcParts). x.made)) there in
      word_made v one c width signal (alike (proc_at ir.procs true c) one there c true) (subst (λ o. WordAt v o c width signal) e s)

  -- nothing stands at the ends of a channel that isn't there
  nothing_beyond : (c : ℕ) → length ir.channels ≤ c → side c ≡ no_ends
  nothing_beyond c l = past parts.sides c (omega (arith, l, long))
    where
      past : (xs : List ChannelEnds) (i : ℕ) → length xs ≤ i → get_or xs i no_ends ≡ no_ends
      past [] i m = refl
      past (x ∷ xs) zero m = absurd (omega (arith, m))
      past (x ∷ xs) (suc i) m = past xs i (omega (arith, m))

  pub reader_made : (c : ℕ) → ReaderMade v c (channel_nets (channel_view parts.views c) (side c)) (slice_get (map pipeline_nets parts.procs) (proc_at ir.procs false c))
  reader_made c = subst (ReaderMade v c (channel_nets (channel_view parts.views c) (side c))) (sym (slice_get-map pipeline_nets parts.procs (proc_at ir.procs false c))) (at (slice_get parts.procs (proc_at ir.procs false c)) refl)
    where
      at : (o : Option ProcParts) → slice_get parts.procs (proc_at ir.procs false c) ≡ o → ReaderMade v c (channel_nets (channel_view parts.views c) (side c)) (option_map pipeline_nets o)
      at (Some one) there = let s = ends_there c (within false c one there) in some_there false c one (side c).ready there s.2.ready
      at None none = beyond (cases_lt c (length ir.channels))
        where
          beyond : (c < length ir.channels) ⊎ (length ir.channels ≤ c) → atom_value v (side c).ready ≡ bit false
          beyond (inl l) = let s = ends_there c l in some_none false c (side c).ready none s.2.ready
          beyond (inr m) = ap (λ (e : ChannelEnds). atom_value v e.ready) (nothing_beyond c m) ∙ zero_bit v

  pub writer_made : (c : ℕ) → WriterMade v c (channel_nets (channel_view parts.views c) (side c)) (slice_get (map pipeline_nets parts.procs) (proc_at ir.procs true c))
  writer_made c = subst (WriterMade v c (channel_nets (channel_view parts.views c) (side c))) (sym (slice_get-map pipeline_nets parts.procs (proc_at ir.procs true c))) (at (slice_get parts.procs (proc_at ir.procs true c)) refl)
    where
      at : (o : Option ProcParts) → slice_get parts.procs (proc_at ir.procs true c) ≡ o → WriterMade v c (channel_nets (channel_view parts.views c) (side c)) (option_map pipeline_nets o)
      at (Some one) there = let s = ends_there c (within true c one there) in (some_there true c one (side c).offered there s.2.offered, word_there c (flat_bits s.0) one (side c).word there s.2.word)
      at None none = beyond (cases_lt c (length ir.channels))
        where
          beyond : (c < length ir.channels) ⊎ (length ir.channels ≤ c) → atom_value v (side c).offered ≡ bit false
          beyond (inl l) = let s = ends_there c l in some_none true c (side c).offered none s.2.offered
          beyond (inr m) = ap (λ (e : ChannelEnds). atom_value v e.offered) (nothing_beyond c m) ∙ zero_bit v
