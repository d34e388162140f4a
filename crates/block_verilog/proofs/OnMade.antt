-- The wires of a package's parts are its block's.
use Rattle.std.proofs.Common.{◌≡◌, ℕ, zero, suc, ◌+◌, ◌-◌, ◌<◌, ◌≤◌, ◌^◌, max, min, Bool, true, false, List, [], ◌∷◌, ◌++◌, length, map, get_or, refl, sym, ap, ◌∙◌, subst, ◌⊎◌, inl, inr, arith}
use Rattle.std.specs.Prelude.{slice_get, Option, Some, None, option_map, is_some}
use Rattle.std.proofs.lemmas.Bool.{cases_lt}
use Rattle.std.proofs.lemmas.List.{length-append}
use Rattle.std.proofs.lemmas.Option.{slice_get_within, slice_get-map}
use Rattle.xb_bits.specs.Word.{Word, word}
use Rattle.xb_value.specs.Width.{width_of}
use Rattle.net_core.specs.Behavior.{IsWordOf}
use Rattle.net_core.specs.declared.net.Chan.{Chan}
use Rattle.net_core.specs.declared.net.Kind.{Kind}
use Rattle.net_core.specs.declared.net.Kind.TheVariants as kind
use Rattle.net_core.specs.declared.net.Site.{Site}
use Rattle.net_core.specs.WellFormed.{IsNet, IsSiteOf}
use Rattle.ir_tree.specs.declared.node.Node.{Node}
use Rattle.ir_tree.specs.declared.node.Operand.{Operand}
use Rattle.ir_tree.specs.declared.node.Role.{Role}
use Rattle.ir_tree.specs.declared.node.Role.TheVariants as role
use Rattle.ir_tree.specs.declared.package.Channel.{Channel}
use Rattle.ir_tree.specs.declared.package.Ends.{Ends}
use Rattle.ir_tree.specs.declared.package.Ends.TheVariants as ends
use Rattle.ir_tree.specs.declared.package.Package.{Package}
use Rattle.ir_tree.specs.declared.package.Proc.{Proc}
use Rattle.ir_tree.specs.Activations.{sites_of, sites_by, width_at}
use Rattle.ir_tree.specs.Networks.{network_of, head_of, chan_of, kind_of}
use Rattle.ir_tree.specs.NodeValues.{channel_type, role_of}
use Rattle.ir_tree.specs.Types.{ty_of}
use Rattle.ir_tree.specs.Rules.Typed.Typed.{IsWordType}
use Rattle.ir_tree.specs.Rules.Verified.{IsVerified}
use Rattle.ir_tree.proofs.Lemmas.Rules.Typed.{verified_proc}
use Rattle.vlog_tree.specs.declared.expression.Atom.{Atom}
use Rattle.vlog_tree.specs.declared.module.VModule.{VModule}
use Rattle.vlog_tree.specs.declared.row.Drive.{Drive}
use Rattle.vlog_tree.specs.declared.row.Drive.TheVariants.{Offer, Ready}
use Rattle.vlog_tree.specs.declared.signal.Signal.{Signal}
use Rattle.vlog_tree.specs.Signals.{signals, declared_widths, declared_port}
use Rattle.vlog_tree.specs.Value.{Values, bit, atom_value}
use Rattle.block_build.specs.Block.{Block, run_of, receiver_of}
use Rattle.block_build.specs.Rows.{sender_of, depth_of}
use Rattle.block_build.specs.declared.netlist.fifos.ChannelEnds.{ChannelEnds}
use Rattle.block_build.specs.declared.netlist.fifos.ChannelView.{ChannelView}
use Rattle.block_build.specs.declared.netlist.fifos.Fifo.{Fifo}
use Rattle.block_build.specs.declared.netlist.registers.Register.{Register}
use Rattle.block_build.specs.Netlist.Blocks.{BlockNets, PipelineNets, ChannelNets, AllPartnersMade, ReaderMade, WriterMade, FifoMade, BlockMade, SidesShown, OuterShown, PortShown}
use Rattle.block_build.specs.Netlist.Buffers.{fifo_slot, fifo_nets, view_at}
use Rattle.block_build.specs.Netlist.Gates.{net}
use Rattle.block_build.specs.Netlist.Holding.{PipelineMade}
use Rattle.block_build.specs.Netlist.Literals.{literal_atom}
use Rattle.block_build.specs.Netlist.Nodes.{site_index}
use Rattle.block_build.specs.Netlist.Order.{CarriesWord}
use Rattle.block_build.specs.Netlist.ProcRegisters.{channel_bits}
use Rattle.block_build.specs.Netlist.Registers.{zero_register, laid_fifo}
use Rattle.block_verilog.specs.Signals.Nodes.{channel_view, nothing_there, number_of}
use Rattle.block_verilog.specs.Signals.Registers.{registers_of_site, given_or}
use Rattle.block_verilog.specs.Schedule.Pipelines.{AreLegal, block_of, pipeline_of, pipelines_of}
use Rattle.block_verilog.specs.Pipelines.Nets.{ProcParts, ArePut, PartsDriven, KeepsWords, ShowsView, pipeline_nets}
use Rattle.block_verilog.specs.Each.{EachFrom}
use Rattle.block_verilog.specs.Outside.{drive_at, word_offered, room_given, PortGiven}
use Rattle.block_verilog.specs.Ports.{data_bits, flat_bits, module_ports, count_ports, ports_from}
use Rattle.block_verilog.specs.Queues.{registers_at, all_registers, fifos_from, no_ends, input_view, output_view, IsShown, ViewIs, ShownBy, ViewedBy, IsViewOf, IsViewed, FifoGoes, GoesBy, GoesAt}
use Rattle.block_verilog.proofs.Lemmas.Each.{each_at}
use Rattle.block_verilog.proofs.Lemmas.Fifos.{FifoThere, fifo_there, fifo_made}
use Rattle.block_verilog.specs.Modules.{IsMadeOfParts}
use Rattle.block_verilog.specs.Parts.{BlockParts, IsBlockPut, IsBlockDriven, block_nets, block_registers, channel_nets, fifo_or, registers_of}
use Rattle.block_verilog.proofs.OnKept.{left_there, right_there, word_of, ReadsWords, keeps_words}
use Rattle.block_verilog.proofs.OnPlaces.{SignalThere, register_there, data_there, data_port_there, slot_there, PutThere, put_there, kept_of}
use Rattle.block_verilog.proofs.OnSides.{AskedAlike, receiver_same, sender_same, reader_made, writer_made}

-- ---- the laws of pipelines

abbrev pub MadeLaw : Type 0
MadeLaw =
    (ir : Package) (p clock k : ℕ) (parts : ProcParts) → ArePut ir p clock k parts → let one = pipeline_nets parts in
    (v : Values) (run : Atom) (views : List ChannelView) → PartsDriven v run views parts → KeepsWords v parts.scheduled.channels one.proc one.nets
    → PipelineMade v run parts.scheduled.channels one.proc one.nets one.stage one.carried one.pipeline one.stages

abbrev pub PartnersLaw : Type 0
PartnersLaw =
    (ir : Package) (p clock k : ℕ) (parts : ProcParts) → ArePut ir p clock k parts → let one = pipeline_nets parts in
    (v : Values) (run : Atom) (views : List ChannelView) → PartsDriven v run views parts → (ends : ℕ → ChannelNets) → ((c : ℕ) → ShowsView (ends c) (channel_view views c))
    → AllPartnersMade one.proc one.nets ends one.pipeline 0 one.stages

-- ---- lists

pub map_there : {A B : Type 0} (f : A → B) (xs : List A) (i : ℕ) (y : B) → slice_get (map f xs) i ≡ Some y → (x : A) × (slice_get xs i ≡ Some x) × (f x ≡ y)
map_there f [] i y e = absurd (cc)
map_there f (x ∷ xs) zero y e = (x, refl, cc)
map_there f (x ∷ xs) (suc i) y e = map_there f xs i y e

map_twice : {A B C : Type 0} (f : A → B) (g : B → C) (xs : List A) → map g (map f xs) ≡ map (λ x. g (f x)) xs
map_twice f g [] = refl
map_twice f g (x ∷ xs) = ap (λ ys. g (f x) ∷ ys) (map_twice f g xs)

pub is_there : {A : Type 0} (xs : List A) (i : ℕ) → i < length xs → (x : A) × (slice_get xs i ≡ Some x)
is_there [] i l = absurd (omega (arith, l))
is_there (x ∷ xs) zero l = (x, refl)
is_there (x ∷ xs) (suc i) l = is_there xs i (omega (arith, l))

pub got : {A : Type 0} (xs : List A) (i : ℕ) (d x : A) → slice_get xs i ≡ Some x → get_or xs i d ≡ x
got [] i d x e = absurd (cc)
got (y ∷ xs) zero d x e = cc
got (y ∷ xs) (suc i) d x e = got xs i d x e

pub at_index : {A : Type 0} (P : ℕ → A → Type 0) (xs : List A) (c : ℕ) (x : A) → EachFrom P 0 xs → slice_get xs c ≡ Some x → P c x
at_index P xs c x each there = let e : 0 + c ≡ c = omega arith in subst (λ n. P n x) e (each_at P 0 xs c x each there)

-- ---- a receive's channel

receive_there : (nodes : List Node) (k : ℕ) (n : Node) (predicate : Option Operand) (c : ℕ) → slice_get nodes k ≡ Some n → role_of n ≡ role.Receive predicate c → (i : ℕ) × (slice_get (sites_of nodes) i ≡ Some (record { chan = c; sends = false }))
receive_there [] k n predicate c there is = absurd (cc)
receive_there (x ∷ nodes) zero n predicate c there is =
    let same : x ≡ n = cc in
    (0, ap (λ r. slice_get (sites_by r (sites_of nodes)) 0) (ap role_of same ∙ is))
receive_there (x ∷ nodes) (suc k) n predicate c there is = behind (role_of x) (receive_there nodes k n predicate c there is)
  where
    behind : (r : Role) → (i : ℕ) × (slice_get (sites_of nodes) i ≡ Some (record { chan = c; sends = false })) → (i : ℕ) × (slice_get (sites_by r (sites_of nodes)) i ≡ Some (record { chan = c; sends = false }))
    behind role.Pure h = h
    behind (role.Receive q d) h = (suc h.0, h.1)
    behind (role.Send q d) h = (suc h.0, h.1)

-- it is there, is no output, and has words
record ReceiveChannel (ir : Package) (c : ℕ) : Type 0 where
  pub channel : Channel
  pub there : slice_get ir.channels c ≡ Some channel
  pub no_output : channel.ends ≡ ends.Output → ⊥
  pub words : IsWordType (ty_of channel.ty)

map_long : {A B : Type 0} (f : A → B) (xs : List A) → length (map f xs) ≡ length xs
map_long f [] = refl
map_long f (y ∷ xs) = ap suc (map_long f xs)

receive_channel : (ir : Package) → IsVerified ir → IsNet (network_of ir) → (p : ℕ) (proc : Proc) → slice_get ir.procs p ≡ Some proc → (k : ℕ) (n : Node) (predicate : Option Operand) (c : ℕ) → slice_get proc.nodes k ≡ Some n → role_of n ≡ role.Receive predicate c
    → ReceiveChannel ir c
receive_channel ir verified net p proc there k n predicate c line is =
    let site : Site = record { chan = c; sends = false } in
    let any = receive_there proc.nodes k n predicate c line is in
    let at : IsSiteOf (network_of ir) p any.0 site = record { head = head_of proc; proc = slice_get-map head_of ir.procs p ∙ ap (λ o. option_map head_of o) there; place = any.1 } in
    let within = net.site p any.0 site at in
    let long = map_long chan_of ir.channels in
    let channel = is_there ir.channels c (omega (arith, within, long)) in
    let chan = slice_get-map chan_of ir.channels c ∙ ap (λ o. option_map chan_of o) channel.1 in
    record {
      channel = channel.0;
      there = channel.1;
      no_output = λ e. net.no_receive p any.0 site (chan_of channel.0) at refl chan (ap kind_of e);
      words = (verified_proc ir verified p proc there).word_types c channel.0 channel.1;
    }

-- how wide its words are
bits_are : (w : ℕ) → 1 ≤ w → w ≤ 128 → max (min w (2 ^ 64 - 1)) 1 ≡ w
bits_are w some most = below w (2 ^ 64 - 1) some most (omega arith)
  where
    below : (x m : ℕ) → 1 ≤ x → x ≤ 128 → 128 ≤ m → max (min x m) 1 ≡ x
    below x m s l h = omega (arith, s, l, h)

-- what is said of an inner channel's view
inner_shown : (e : Ends) (port width : ℕ) (fifo : Option Fifo) (w : ChannelView) → kind_of e ≡ kind.Inner → ViewIs e port width fifo w → IsShown fifo w
inner_shown ends.Input port width fifo w h s = absurd (cc)
inner_shown ends.Output port width fifo w h s = absurd (cc)
inner_shown (ends.Inner d) port width fifo w h s = s

inner_viewed : (v : Values) (e : Ends) (fifo : Option Fifo) (w : ChannelView) → kind_of e ≡ kind.Inner → ViewedBy v e fifo w → ShownBy v fifo w
inner_viewed v ends.Input fifo w h s = absurd (cc)
inner_viewed v ends.Output fifo w h s = absurd (cc)
inner_viewed v (ends.Inner d) fifo w h s = s

-- as many ports and FIFOs as channels
ports_long : (k : ℕ) (channels : List Channel) → length (ports_from k channels) ≡ length channels
ports_long k [] = refl
ports_long k (channel ∷ channels) = ap suc (ports_long (k + count_ports channel.ends) channels)

fifos_long : (depths : List ℕ) (i k : ℕ) (channels : List Channel) → length (fifos_from depths i k channels) ≡ length channels
fifos_long depths i k [] = refl
fifos_long depths i k (channel ∷ channels) = ap suc (fifos_long depths (suc i) (k + length (registers_at depths i channel)) channels)

-- the number of a first slot isn't cut
slot_uncut : (n d x : ℕ) → suc n < x → min (suc n + min 0 (d - 1)) (x - 1) ≡ suc n
slot_uncut n d x l = omega (arith, l)

-- ---- in a cycle

-- a signal of some width carries a number of it
carried : (m : VModule) (v : Values) (s w : ℕ) → ((s : ℕ) → s < length (signals m) → CarriesWord (declared_widths m) v s) → SignalThere m s w → ((v s).width ≡ w) × ((v s).value < 2 ^ w)
carried m v s w carry there = subst (λ x. ((v s).width ≡ x) × ((v s).value < 2 ^ x)) there.wide (carry s there.within)

module _ (m : VModule) (ir : Package) (clock : ℕ) (schedules : List (List ℕ)) (depths : List ℕ) (made : IsMadeOfParts m ir clock schedules depths) (whole : IsNet (network_of ir)) where
  abbrev first : ℕ
  first = length (module_ports ir.channels)

  abbrev behind : ℕ
  behind = first + length (all_registers depths 0 ir.channels)

  abbrev run : Atom
  run = made.run

  own_register : (i : ℕ) (r : Register) → slice_get (block_registers depths ir.channels made.parts) i ≡ Some r → SignalThere m (first + i) (max r.width 1)
  own_register i r there =
      subst (λ k. SignalThere m (k + i) (max r.width 1)) made.first
      (register_there m (module_ports ir.channels) made.registers.registers.items made.registers.first _ made.assembled.ports_are made.assembled.declarations made.first i r (ap (λ rs. slice_get rs i) made.registers_are ∙ there))

  module _ (v : Values) (driven : IsBlockDriven v made.run ir made.parts) (carry : (s : ℕ) → s < length (signals m) → CarriesWord (declared_widths m) v s) where
    -- the register of a receive
    kept_word : (p : ℕ) (one : ProcParts) → slice_get made.parts.procs p ≡ Some one → (k : ℕ) (n : Node) (predicate : Option Operand) (c : ℕ) → slice_get one.scheduled.proc.nodes k ≡ Some n → role_of n ≡ role.Receive predicate c → (channel : Channel)
        → slice_get ir.channels c ≡ Some channel → IsWordType (ty_of channel.ty) → IsWordOf (width_of (ty_of channel.ty)) (v (registers_of_site one.layout.registers (site_index one.scheduled.proc.nodes k)).kept.0)
    kept_word p one there k n predicate c line is channel channel_is words =
        let w = width_of (ty_of channel.ty) in
        let place = put_there ir clock 0 behind made.parts.procs made.put.procs p one there in
        let kept = kept_of one (behind + place.before) place.put.laid k n predicate c line is in
        let bits = channel_bits one.scheduled.channels c in
        let r = zero_register bits in
        let at = right_there (all_registers depths 0 ir.channels) (registers_of made.parts.procs) (place.before + kept.offset) ∙ place.register kept.offset r kept.register in
        let signal = own_register (length (all_registers depths 0 ir.channels) + (place.before + kept.offset)) r at in
        let number : first + (length (all_registers depths 0 ir.channels) + (place.before + kept.offset)) ≡ behind + place.before + kept.offset = omega arith in
        let type : channel_type one.scheduled.channels c ≡ Some channel.ty = ap (λ cs. channel_type cs c) place.put.channels ∙ ap (λ o. option_map (λ (x : Channel). x.ty) o) channel_is in
        let wide : max bits 1 ≡ w = ap (λ t. max (min (width_at t) (2 ^ 64 - 1)) 1) type ∙ bits_are w words.some_width words.most_width in
        let here = carried m v (behind + place.before + kept.offset) w carry (subst (SignalThere m (behind + place.before + kept.offset)) wide (subst (λ s. SignalThere m s (max bits 1)) number signal)) in
        subst (λ (s : Signal). IsWordOf w (v s.0)) (sym kept.is) (word_of w (v (behind + place.before + kept.offset)) words.some_width words.most_width here)

    -- the view of a channel that is there
    view_there : (c : ℕ) → c < length ir.channels → (view : ChannelView) × (slice_get made.parts.views c ≡ Some view) × (channel_view made.parts.views c ≡ view)
    view_there c l =
        let count = made.put.view_count in
        let view = is_there made.parts.views c (omega (arith, l, count)) in
        (view.0, view.1, ap (given_or nothing_there) view.1)

    port_there : (c : ℕ) → c < length ir.channels → (port : ℕ) × (slice_get (ports_from 2 ir.channels) c ≡ Some port)
    port_there c l = is_there (ports_from 2 ir.channels) c (let long = ports_long 2 ir.channels in omega (arith, l, long))

    fifo_of : (c : ℕ) → c < length ir.channels → (fifo : Option Fifo) × (slice_get made.parts.fifos c ≡ Some fifo)
    fifo_of c l = is_there made.parts.fifos c (let long = fifos_long depths 0 first ir.channels in let same = ap length made.put.fifos in omega (arith, l, long, same))

    -- at an input its port
    input_found : (c : ℕ) (channel : Channel) → channel.ends ≡ ends.Input → slice_get ir.channels c ≡ Some channel → IsWordType (ty_of channel.ty) → IsWordOf (width_of (ty_of channel.ty)) (atom_value v (channel_view made.parts.views c).word)
    input_found c channel e there words =
        let w = width_of (ty_of channel.ty) in
        let l = slice_get_within ir.channels c channel there in
        let view = view_there c l in
        let port = port_there c l in
        let fifo = fifo_of c l in
        let shape = at_index (IsViewOf ir.channels (ports_from 2 ir.channels) made.parts.fifos) made.parts.views c view.0 made.put.views view.1 channel port.0 fifo.0 there port.1 fifo.1 in
        let is : view.0 ≡ input_view port.0 = subst (λ x. ViewIs x port.0 (flat_bits channel) fifo.0 view.0) e shape in
        let signal = data_port_there m ir.channels channel port.0 made.assembled.ports_are (data_there 2 ir.channels c channel port.0 there port.1 e) in
        let here = carried m v port.0 w carry (subst (SignalThere m port.0) (bits_are w words.some_width words.most_width) signal) in
        subst (λ (x : ChannelView). IsWordOf w (atom_value v x.word)) (sym (view.2 ∙ is)) (word_of w (v port.0) words.some_width words.most_width here)

    -- at an inner channel the first slot of its FIFO
    inner_found : (c : ℕ) (channel : Channel) → kind_of channel.ends ≡ kind.Inner → slice_get ir.channels c ≡ Some channel → IsWordType (ty_of channel.ty) → IsWordOf (width_of (ty_of channel.ty)) (atom_value v (channel_view made.parts.views c).word)
    inner_found c channel inner there words =
        let w = width_of (ty_of channel.ty) in
        let l = slice_get_within ir.channels c channel there in
        let view = view_there c l in
        let port = port_there c l in
        let fifo = fifo_there depths 0 first ir.channels c channel there inner in
        let zero : 0 + c ≡ c = omega arith in
        let depth = get_or depths (0 + c) 0 in
        let deep : 1 ≤ depth = subst (λ i. 1 ≤ get_or depths i 0) (sym zero) (made.put.deep c channel there inner).0 in
        let stands : slice_get made.parts.fifos c ≡ Some (Some (laid_fifo depth (flat_bits channel) fifo.first)) = ap (λ fs. slice_get fs c) made.put.fifos ∙ fifo.fifo_is in
        let shape = at_index (IsViewOf ir.channels (ports_from 2 ir.channels) made.parts.fifos) made.parts.views c view.0 made.put.views view.1 channel port.0 (Some (laid_fifo depth (flat_bits channel) fifo.first)) there port.1 stands in
        let shown : IsShown (Some (laid_fifo depth (flat_bits channel) fifo.first)) view.0 = inner_shown channel.ends port.0 (flat_bits channel) (Some (laid_fifo depth (flat_bits channel) fifo.first)) view.0 inner shape in
        let slot = slot_there depths 0 first ir.channels c depth (flat_bits channel) fifo.first fifo.fifo_is deep in
        let r = zero_register (flat_bits channel) in
        let signal = own_register slot.offset r (left_there (all_registers depths 0 ir.channels) (registers_of made.parts.procs) slot.offset r slot.there) in
        let number = slot.is in
        let few : suc fifo.first < 2 ^ 32 = (
        let inside = slice_get_within (all_registers depths 0 ir.channels) slot.offset r slot.there in
        let all = length-append (all_registers depths 0 ir.channels) (registers_of made.parts.procs) in
        let same = ap length made.registers_are in
        let from = made.first in
        less (suc fifo.first) (made.registers.first + length made.registers.registers.items) (2 ^ 32) (omega (arith, inside, all, same, from, number)) made.few
        ) in
        let here = carried m v (suc fifo.first) w carry (subst (SignalThere m (suc fifo.first)) (bits_are w words.some_width words.most_width) (subst (λ s. SignalThere m s (max (flat_bits channel) 1)) (sym number) signal)) in
        let word_is : (channel_view made.parts.views c).word ≡ net (suc fifo.first) =
        ap (λ (x : ChannelView). x.word) (view.2 ∙ shown) ∙ ap net (slot_uncut fifo.first depth (2 ^ 32) few) in
        subst (λ a. IsWordOf w (atom_value v a)) (sym word_is) (word_of w (v (suc fifo.first)) words.some_width words.most_width here)
      where
        less : (a b x : ℕ) → a < b → b < x → a < x
        less a b x g h = omega (arith, g, h)

    -- what a receive finds at its channel
    found_by : (c : ℕ) (channel : Channel) (e : Ends) → channel.ends ≡ e → slice_get ir.channels c ≡ Some channel → (e ≡ ends.Output → ⊥) → IsWordType (ty_of channel.ty) → IsWordOf (width_of (ty_of channel.ty)) (atom_value v (channel_view made.parts.views c).word)
    found_by c channel ends.Output e there other words = absurd (other refl)
    found_by c channel ends.Input e there other words = input_found c channel e there words
    found_by c channel (ends.Inner d) e there other words = inner_found c channel (ap kind_of e) there words

    pub reads_words : (p : ℕ) (one : ProcParts) → slice_get made.parts.procs p ≡ Some one → ReadsWords v made.parts.views one
    reads_words p one there =
        let place = put_there ir clock 0 behind made.parts.procs made.put.procs p one there in
        let same : (c : ℕ) (channel : Channel) → slice_get ir.channels c ≡ Some channel → width_at (channel_type one.scheduled.channels c) ≡ width_of (ty_of channel.ty) =
        λ c channel at. ap (λ cs. width_at (channel_type cs c)) place.put.channels ∙ ap (λ o. width_at (option_map (λ (x : Channel). x.ty) o)) at in
        record {
          kept = λ i c w e k n predicate line is number.
              let own = receive_channel ir made.put.verified whole (0 + p) one.scheduled.proc place.put.there k n predicate c line is in
              subst (λ j. IsWordOf w (v (registers_of_site one.layout.registers j).kept.0)) (sym number)
              (subst (λ x. IsWordOf x (v (registers_of_site one.layout.registers (site_index one.scheduled.proc.nodes k)).kept.0)) (sym (same c own.channel own.there) ∙ e) (kept_word p one there k n predicate c line is own.channel own.there own.words));
          found = λ c k n predicate line is.
              let own = receive_channel ir made.put.verified whole (0 + p) one.scheduled.proc place.put.there k n predicate c line is in
              subst (λ x. IsWordOf x (atom_value v (channel_view made.parts.views c).word)) (sym (same c own.channel own.there)) (found_by c own.channel own.channel.ends refl own.there own.no_output own.words);
        }

    -- ---- FIFOs

    fifo_of_block : (c : ℕ) (channel : Channel) → slice_get ir.channels c ≡ Some channel → kind_of channel.ends ≡ kind.Inner
        → FifoMade v (channel_nets (channel_view made.parts.views c) (get_or made.parts.sides c no_ends))
        (fifo_nets (fifo_or (slice_get made.parts.fifos c)) (get_or made.parts.sides c no_ends) (number_of (channel_view made.parts.views c).valid) (get_or made.parts.goes c 0)) (get_or depths c 0)
    fifo_of_block c channel there inner =
        let l = slice_get_within ir.channels c channel there in
        let view = view_there c l in
        let port = port_there c l in
        let zero : 0 + c ≡ c = omega arith in
        let depth = get_or depths (0 + c) 0 in
        let fifo = fifo_there depths 0 first ir.channels c channel there inner in
        let own = laid_fifo depth (flat_bits channel) fifo.first in
        let stands : slice_get made.parts.fifos c ≡ Some (Some own) = ap (λ fs. slice_get fs c) made.put.fifos ∙ fifo.fifo_is in
        let side_count = made.put.side_count in
        let goes_count = made.put.goes_count in
        let side = is_there made.parts.sides c (omega (arith, l, side_count)) in
        let goes = is_there made.parts.goes c (omega (arith, l, goes_count)) in
        let shape = at_index (IsViewOf ir.channels (ports_from 2 ir.channels) made.parts.fifos) made.parts.views c view.0 made.put.views view.1 channel port.0 (Some own) there port.1 stands in
        let shown : IsShown (Some own) view.0 = inner_shown channel.ends port.0 (flat_bits channel) (Some own) view.0 inner shape in
        let viewed = inner_viewed v channel.ends (Some own) view.0 inner (at_index (IsViewed v ir.channels made.parts.fifos) made.parts.views c view.0 driven.views view.1 channel (Some own) there stands) in
        let going = at_index (GoesAt v made.parts.fifos made.parts.views made.parts.sides) made.parts.goes c goes.0 driven.goes goes.1 (Some own) view.0 side.0 stands view.1 side.1 in
        let most = (made.put.deep c channel there inner).1 in
        let small : depth < 2 ^ 32 = subst (λ i. get_or depths i 0 < 2 ^ 32) (sym zero) (below (get_or depths c 0) (2 ^ 32) most (omega arith)) in
        let result = fifo_made v depth (flat_bits channel) fifo.first view.0 side.0 goes.0 small shown viewed going in
        let deep : depth ≡ get_or depths c 0 = ap (λ i. get_or depths i 0) zero in
        subst (λ d. FifoMade v (channel_nets (channel_view made.parts.views c) (get_or made.parts.sides c no_ends))
        (fifo_nets (fifo_or (slice_get made.parts.fifos c)) (get_or made.parts.sides c no_ends) (number_of (channel_view made.parts.views c).valid) (get_or made.parts.goes c 0)) d) deep
        (subst (λ f. FifoMade v (channel_nets (channel_view made.parts.views c) (get_or made.parts.sides c no_ends)) (fifo_nets f (get_or made.parts.sides c no_ends) (number_of (channel_view made.parts.views c).valid) (get_or made.parts.goes c 0)) depth) (sym (ap fifo_or stands))
        (subst (λ w. FifoMade v (channel_nets w (get_or made.parts.sides c no_ends)) (fifo_nets own (get_or made.parts.sides c no_ends) (number_of w.valid) (get_or made.parts.goes c 0)) depth) (sym view.2)
        (subst (λ s. FifoMade v (channel_nets view.0 s) (fifo_nets own s (number_of (view.0).valid) (get_or made.parts.goes c 0)) depth) (sym (got made.parts.sides c no_ends side.0 side.1))
        (subst (λ g. FifoMade v (channel_nets view.0 side.0) (fifo_nets own side.0 (number_of (view.0).valid) g) depth) (sym (got made.parts.goes c 0 goes.0 goes.1)) result))))
      where
        below : (d x : ℕ) → d ≤ 64 → 64 < x → d < x
        below d x g h = omega (arith, g, h)

    -- ---- the block

    module _ (made_law : MadeLaw) (partners_law : PartnersLaw) (asked_law : AskedAlike) where
      abbrev block : Block
      block = block_of ir schedules depths

      abbrev nets : BlockNets
      nets = block_nets ir.channels made.parts

      pipeline_made : (p : ℕ) (one : PipelineNets) → slice_get nets.pipelines p ≡ Some one → PipelineMade v run ir.channels one.proc one.nets one.stage one.carried one.pipeline one.stages
      pipeline_made p one there =
          let own = map_there pipeline_nets made.parts.procs p one there in
          let place = put_there ir clock 0 behind made.parts.procs made.put.procs p own.0 own.1 in
          let wired = driven.procs p own.0 own.1 in
          let result = made_law ir (0 + p) clock (behind + place.before) own.0 place.put v run made.parts.views wired (keeps_words v run made.parts.views own.0 wired (reads_words p own.0 own.1)) in
          subst (λ (x : PipelineNets). PipelineMade v run ir.channels x.proc x.nets x.stage x.carried x.pipeline x.stages) own.2
          (subst (λ cs. PipelineMade v run cs (pipeline_nets own.0).proc (pipeline_nets own.0).nets (pipeline_nets own.0).stage (pipeline_nets own.0).carried (pipeline_nets own.0).pipeline (pipeline_nets own.0).stages) place.put.channels result)

      partners_made : (p : ℕ) (one : PipelineNets) → slice_get nets.pipelines p ≡ Some one → AllPartnersMade one.proc one.nets nets.ends one.pipeline 0 one.stages
      partners_made p one there =
          let own = map_there pipeline_nets made.parts.procs p one there in
          let place = put_there ir clock 0 behind made.parts.procs made.put.procs p own.0 own.1 in
          let result = partners_law ir (0 + p) clock (behind + place.before) own.0 place.put v run made.parts.views (driven.procs p own.0 own.1) nets.ends (λ c. record { valid = refl; word = refl; room = refl }) in
          subst (λ (x : PipelineNets). AllPartnersMade x.proc x.nets nets.ends x.pipeline 0 x.stages) own.2 result

      pub block_made : BlockMade v run block nets
      block_made = record {
        pipelines = map_twice pipeline_nets (λ (one : PipelineNets). one.pipeline) made.parts.procs ∙ made.put.pipelines;
        made = pipeline_made;
        partners = partners_made;
        readers = λ c.
            subst (λ r. ReaderMade v c (nets.ends c) (slice_get nets.pipelines r)) (sym (receiver_same ir.channels clock ir.procs schedules made.put.legal c))
            (reader_made asked_law ir whole clock behind v run made.parts made.put.procs driven made.put.side_count c);
        writers = λ c.
            subst (λ r. WriterMade v c (nets.ends c) (slice_get nets.pipelines r)) (sym (sender_same ir.channels clock ir.procs schedules made.put.legal c))
            (writer_made asked_law ir whole clock behind v run made.parts made.put.procs driven made.put.side_count c);
        fifos = λ c chan there inner.
            let own = map_there chan_of ir.channels c chan there in
            fifo_of_block c own.0 own.1 (ap (λ (x : Chan). x.kind) own.2 ∙ inner);
      }
