-- A module that is made of the parts of a package drives what its block does.
use Rattle.std.proofs.Common.{◌≡◌, ℕ, zero, suc, ◌+◌, ◌-◌, ◌<◌, ◌≤◌, ◌^◌, Bool, true, false, List, [], ◌∷◌, ◌++◌, length, map, get_or, refl, sym, ap, ◌∙◌, subst, ◌⊎◌, inl, inr, arith}
use Rattle.std.specs.Prelude.{slice_get, Option, Some, None, option_map, is_some, not}
use Rattle.std.specs.List.{AllByRecursion}
use Rattle.std.proofs.lemmas.Bool.{cases_lt}
use Rattle.std.proofs.lemmas.List.{get_or_default, length-append}
use Rattle.std.proofs.lemmas.Option.{slice_get_within, slice_get-map}
use Rattle.xb_bits.specs.Word.{Word, word}
use Rattle.xb_bits.specs.Operations as op
use Rattle.xb_value.specs.Typing.{IsOfType}
use Rattle.net_core.specs.declared.net.Chan.{Chan}
use Rattle.net_core.specs.declared.net.Kind.TheVariants as kind
use Rattle.net_core.specs.WellFormed.{IsNet}
use Rattle.ir_tree.specs.declared.node.Operand.TheVariants as operand
use Rattle.ir_tree.specs.declared.package.Channel.{Channel}
use Rattle.ir_tree.specs.declared.package.Ends.{Ends}
use Rattle.ir_tree.specs.declared.package.Ends.TheVariants as ends
use Rattle.ir_tree.specs.declared.package.Package.{Package}
use Rattle.ir_tree.specs.Networks.{network_of, chan_of, kind_of}
use Rattle.ir_tree.specs.Types.{ty_of}
use Rattle.vlog_tree.specs.declared.expression.Atom.{Atom}
use Rattle.vlog_tree.specs.declared.module.Assignment.{Assignment}
use Rattle.vlog_tree.specs.declared.module.VModule.{VModule}
use Rattle.vlog_tree.specs.declared.row.Drive.{Drive}
use Rattle.vlog_tree.specs.declared.row.Drive.TheVariants.{Offer, Ready}
use Rattle.vlog_tree.specs.declared.row.Outs.{Outs}
use Rattle.vlog_tree.specs.declared.row.Row.{Row}
use Rattle.vlog_tree.specs.declared.signal.Role.TheVariants.{InputSignal, RegisterSignal}
use Rattle.vlog_tree.specs.Meaning.{IsNow, registers_next, reset_port}
use Rattle.vlog_tree.specs.Meaning.{AreDriven as HasDrivers}
use Rattle.vlog_tree.specs.Rows.{Runs, given, data_given, valid_given, ready_given}
use Rattle.vlog_tree.specs.Signals.{signals, declared_widths}
use Rattle.vlog_tree.specs.Value.{Values, bit, atom_value, expr_value}
use Rattle.vlog_tree.specs.WellFormed.{CanRun}
use Rattle.vlog_tree.proofs.Lemmas.Settling.{each_prefix, each_back}
use Rattle.block_stage.specs.Machine.Cycle.{Ports}
use Rattle.block_build.specs.Block.{Block, IsBlock}
use Rattle.block_build.specs.Rows.{InputRow}
use Rattle.block_build.specs.declared.netlist.fifos.ChannelEnds.{ChannelEnds}
use Rattle.block_build.specs.declared.netlist.fifos.ChannelView.{ChannelView}
use Rattle.block_build.specs.declared.netlist.fifos.Fifo.{Fifo}
use Rattle.block_build.specs.declared.netlist.registers.Register.{Register}
use Rattle.block_build.specs.Netlist.Blocks.{BlockNets, ChannelNets, PipelineNets, SidesShown, OuterShown, PortShown, RowShown, BlockRow, BlockNext, BlockGoesOn, BlockReset, FifoGoesOn}
use Rattle.block_build.specs.Netlist.Buffers.{fifo_nets}
use Rattle.block_build.specs.Netlist.Gates.{net, not_gate}
use Rattle.block_build.specs.Netlist.Holding.{AreReset, RegistersGoOn}
use Rattle.block_build.specs.Netlist.Leaves.{ShowsValue}
use Rattle.block_build.specs.Netlist.Literals.{literal_atom}
use Rattle.block_build.specs.Netlist.Order.{CarriesWord}
use Rattle.block_build.specs.Netlist.Registers.{AreTaken, resets_of, sets_from, count_bits, laid_fifo}
use Rattle.block_build.specs.Netlist.Wires.{Wire, assigned, AreWired}
use Rattle.block_verilog.specs.Signals.Nodes.{channel_view, nothing_there, number_of}
use Rattle.block_verilog.specs.Signals.Registers.{given_or}
use Rattle.block_verilog.specs.Schedule.Pipelines.{block_of}
use Rattle.block_verilog.specs.Pipelines.Nets.{ProcParts, ArePut, PartsDriven, pipeline_nets}
use Rattle.block_verilog.specs.Pipelines.Pipelines.{next_nets, proc_registers}
use Rattle.block_verilog.specs.Assembly.{port_drivers}
use Rattle.block_verilog.specs.Drives.{DrivesBlock}
use Rattle.block_verilog.specs.Outside.{drive_at, word_offered, room_given, row_ports, input_row, PortGiven, PortDriven}
use Rattle.block_verilog.specs.Ports.{data_bits, flat_bits, module_ports, count_ports, ports_from}
use Rattle.block_verilog.specs.Queues.{registers_at, all_registers, all_next, fifos_from, no_ends, next_of, input_view, output_view, ViewIs, IsViewOf}
use Rattle.block_verilog.specs.Widths.{CarryWords, IsInputRow, AreInputRows}
use Rattle.block_verilog.proofs.Lemmas.Fifos.{fifo_there, fifo_taken, fifos_taken, fifos_reset, all_next_long}
use Rattle.block_verilog.proofs.Lemmas.Outside.{ports_given, ports_driven}
use Rattle.block_verilog.proofs.Lemmas.Rows.{NetlistsDrive, NothingIsAsserted, IsNetlistOf, netlist_drives}
use Rattle.block_verilog.proofs.Lemmas.Taken.{SetsAreTaken, taken_both, reset_given, clocks_taken, resets_taken}
use Rattle.block_verilog.specs.Modules.{IsMadeOfParts}
use Rattle.block_verilog.specs.Parts.{BlockParts, IsBlockDriven, block_nets, block_registers, block_nexts, channel_nets, fifo_or, registers_of, nexts_of, ArePutFrom}
use Rattle.block_verilog.proofs.OnMade.{MadeLaw, PartnersLaw, block_made, map_there, is_there, got, at_index}
use Rattle.block_verilog.proofs.OnPlaces.{slots_fit}
use Rattle.block_verilog.proofs.OnSides.{AskedAlike}

-- ---- the laws of registers

abbrev pub NextLaw : Type 0
NextLaw =
    (ir : Package) (p clock k : ℕ) (parts : ProcParts) → ArePut ir p clock k parts → let one = pipeline_nets parts in
    (v next : Values) (run : Atom) (views : List ChannelView) → PartsDriven v run views parts → PartsDriven next run views parts
    → AreTaken v next k (next_nets parts.scheduled parts.layout parts.made parts.at parts.nums) → RegistersGoOn v next one.proc one.nets one.stage one.carried one.pipeline one.stages

abbrev pub CountLaw : Type 0
CountLaw =
    (ir : Package) (p clock k : ℕ) (parts : ProcParts) → ArePut ir p clock k parts
    → (v : Values) (run : Atom) (views : List ChannelView) → PartsDriven v run views parts → length (next_nets parts.scheduled parts.layout parts.made parts.at parts.nums) ≡ length (proc_registers parts.scheduled parts.layout.reads)

abbrev pub ResetLaw : Type 0
ResetLaw =
    (ir : Package) (p clock k : ℕ) (parts : ProcParts) → ArePut ir p clock k parts → let one = pipeline_nets parts in
    (v next : Values) (run : Atom) (views : List ChannelView) → PartsDriven next run views parts → AreTaken v next k (resets_of (proc_registers parts.scheduled parts.layout.reads))
    → AreReset next 0 one.stages × ShowsValue next (one.nets.shown 0 operand.State) one.pipeline.proc.opening × IsOfType (ty_of one.proc.state) one.pipeline.proc.opening

abbrev pub CarryLaw : VModule → Type 0
CarryLaw m =
    (held given values : Values) → CanRun m → CarryWords m InputSignal given → CarryWords m RegisterSignal held → IsNow m held given values → (s : ℕ) → s < length (signals m) → CarriesWord (declared_widths m) values s

-- ---- what procs' registers take

map_both : {A B : Type 0} (f : A → B) (xs ys : List A) → map f (xs ++ ys) ≡ map f xs ++ map f ys
map_both f [] ys = refl
map_both f (y ∷ xs) ys = ap (λ zs. f y ∷ zs) (map_both f xs ys)

map_long : {A B : Type 0} (f : A → B) (xs : List A) → length (map f xs) ≡ length xs
map_long f [] = refl
map_long f (y ∷ xs) = ap suc (map_long f xs)

abbrev reset_of : Register → Atom
reset_of r = r.reset

procs_next : CountLaw → (ir : Package) (clock p k : ℕ) (parts : List ProcParts) → ArePutFrom ir clock p k parts → (v next : Values) (run : Atom) (views : List ChannelView) → ((q : ℕ) (one : ProcParts) → slice_get parts q ≡ Some one → PartsDriven v run views one)
    → AreTaken v next k (nexts_of parts) → (q : ℕ) (one : ProcParts) → slice_get parts q ≡ Some one → (n : ℕ) × ArePut ir (p + q) clock n one × AreTaken v next n (next_nets one.scheduled one.layout one.made one.at one.nums)
procs_next law ir clock p k [] put v next run views driven taken q one there = absurd (cc)
procs_next law ir clock p k (x ∷ parts) put v next run views driven taken zero one there =
    let same : x ≡ one = cc in
    let e : p ≡ p + 0 = omega arith in
    let both = taken_both v next k (next_nets x.scheduled x.layout x.made x.at x.nums) (nexts_of parts) taken in
    (k, subst (λ y. ArePut ir (p + 0) clock k y) same (subst (λ n. ArePut ir n clock k x) e put.0), subst (λ (y : ProcParts). AreTaken v next k (next_nets y.scheduled y.layout y.made y.at y.nums)) same both.0)
procs_next law ir clock p k (x ∷ parts) put v next run views driven taken (suc q) one there =
    let own = next_nets x.scheduled x.layout x.made x.at x.nums in
    let both = taken_both v next k own (nexts_of parts) taken in
    let long = law ir p clock k x put.0 v run views (driven 0 x refl) in
    let rest = procs_next law ir clock (suc p) (k + length (proc_registers x.scheduled x.layout.reads)) parts put.1 v next run views (λ i y at. driven (suc i) y at) (subst (λ n. AreTaken v next (k + n) (nexts_of parts)) long both.1) q one there in
    let e : suc p + q ≡ p + suc q = omega arith in
    (rest.0, subst (λ n. ArePut ir n clock rest.0 one) e rest.1, rest.2)

procs_reset : (ir : Package) (clock p k : ℕ) (parts : List ProcParts) → ArePutFrom ir clock p k parts → (v next : Values) → AreTaken v next k (resets_of (registers_of parts)) → (q : ℕ) (one : ProcParts) → slice_get parts q ≡ Some one
    → (n : ℕ) × ArePut ir (p + q) clock n one × AreTaken v next n (resets_of (proc_registers one.scheduled one.layout.reads))
procs_reset ir clock p k [] put v next taken q one there = absurd (cc)
procs_reset ir clock p k (x ∷ parts) put v next taken zero one there =
    let same : x ≡ one = cc in
    let e : p ≡ p + 0 = omega arith in
    let own = proc_registers x.scheduled x.layout.reads in
    let both = taken_both v next k (resets_of own) (resets_of (registers_of parts)) (subst (AreTaken v next k) (map_both reset_of own (registers_of parts)) taken) in
    (k, subst (λ y. ArePut ir (p + 0) clock k y) same (subst (λ n. ArePut ir n clock k x) e put.0), subst (λ (y : ProcParts). AreTaken v next k (resets_of (proc_registers y.scheduled y.layout.reads))) same both.0)
procs_reset ir clock p k (x ∷ parts) put v next taken (suc q) one there =
    let own = proc_registers x.scheduled x.layout.reads in
    let both = taken_both v next k (resets_of own) (resets_of (registers_of parts)) (subst (AreTaken v next k) (map_both reset_of own (registers_of parts)) taken) in
    let rest = procs_reset ir clock (suc p) (k + length own) parts put.1 v next (subst (λ n. AreTaken v next (k + n) (resets_of (registers_of parts))) (map_long reset_of own) both.1) q one there in
    let e : suc p + q ≡ p + suc q = omega arith in
    (rest.0, subst (λ n. ArePut ir n clock rest.0 one) e rest.1, rest.2)

-- ---- what stands at a channel's sides

zero_bit : (v : Values) → atom_value v (literal_atom 1 0) ≡ bit false
zero_bit v = refl

no_word_there : (v : Values) (a : Atom) (w : Word) → None ≡ Some w → atom_value v a ≡ w
no_word_there v a w e = absurd (cc)

sides_by : (v : Values) (channel : Channel) (e : Ends) (port : ℕ) (fifo : Option Fifo) (view : ChannelView) (end : ChannelEnds) (drive : Option Drive) (ports : Ports) (c : ℕ) → ports.valid_word c ≡ word_offered drive → ports.room c ≡ room_given drive
    → ViewIs e port (flat_bits channel) fifo view → PortGiven v channel e port drive → OuterShown v (channel_nets view end) ports c (kind_of e)
sides_by v channel ends.Input port fifo view end drive ports c word_is room_is is given = subst (λ o. SidesShown v (channel_nets view end) o false) (sym (word_is ∙ ap word_offered given.1)) (subst (λ w. SidesShown v (channel_nets w end) given.0 false) (sym is) (at given.0 given.2 given.3))
  where
    at : (o : Option Word) → v port ≡ data_given (data_bits channel) (Offer o) → v (port + 1) ≡ valid_given (Offer o) → SidesShown v (channel_nets (input_view port) end) o false
    at None there valid = record { valid = valid; word = λ w e. no_word_there v (net port) w e; room = zero_bit v }
    at (Some x) there valid = record { valid = valid; word = λ w e. there ∙ (let same : x ≡ w = cc in same); room = zero_bit v }
sides_by v channel ends.Output port fifo view end drive ports c word_is room_is is given =
    subst (λ b. SidesShown v (channel_nets view end) None b) (sym (room_is ∙ ap room_given given.1))
    (subst (λ w. SidesShown v (channel_nets w end) None given.0) (sym is) (record { valid = zero_bit v; word = λ w e. no_word_there v (literal_atom (flat_bits channel) 0) w e; room = given.2 }))
sides_by v channel (ends.Inner d) port fifo view end drive ports c word_is room_is is given = tt

-- no reset, where `rst` isn't 1
run_bit : (v : Values) (reset : Bool) → v 1 ≡ bit reset → expr_value v (not_gate (net 1)).driver ≡ bit (not reset)
run_bit v true e = ap (λ (w : Word). op.not w) e
run_bit v false e = ap (λ (w : Word). op.not w) e

-- ---- lists

nothing_past : {A : Type 0} (xs : List A) (i : ℕ) → length xs ≤ i → slice_get xs i ≡ None
nothing_past [] i l = refl
nothing_past (x ∷ xs) zero l = absurd (omega (arith, l))
nothing_past (x ∷ xs) (suc i) l = nothing_past xs i (omega (arith, l))

none_long : {A : Type 0} (xs : List A) (i : ℕ) → slice_get xs i ≡ None → length xs ≤ i
none_long [] i e = omega arith
none_long (x ∷ xs) zero e = absurd (cc)
none_long (x ∷ xs) (suc i) e = let l = none_long xs i e in omega (arith, l)

-- ---- the module

module _ (made_law : MadeLaw) (partners_law : PartnersLaw) (asked_law : AskedAlike) (next_law : NextLaw) (count_law : CountLaw) (reset_law : ResetLaw) (sets_law : SetsAreTaken) (m : VModule) (carry_law : CarryLaw m)
    (given_law : (row : Row) → IsInputRow m row → CarryWords m InputSignal (given m row)) (rows_law : (rows : List Row) (outs : List Outs) (held : Values) → AreInputRows m rows → Runs m rows outs held → (s : ℕ) → CarriesWord (declared_widths m) held s)
    (ir : Package) (clock : ℕ) (schedules : List (List ℕ)) (depths : List ℕ) (can : CanRun m) (made : IsMadeOfParts m ir clock schedules depths) (whole : IsNet (network_of ir)) where
  abbrev first : ℕ
  first = length (module_ports ir.channels)

  abbrev run : Atom
  run = made.run

  abbrev block : Block
  block = block_of ir schedules depths

  abbrev nets : BlockNets
  nets = block_nets ir.channels made.parts

  wires_driven : (held v : Values) (row : Row) → IsNow m held (given m row) v → AreWired v made.wires.first made.wires.wires.items
  wires_driven held v row now =
      each_prefix (λ (a : Assignment). v a.target.0 ≡ expr_value v a.value) (assigned made.wires.first made.wires.wires.items) (port_drivers ir.channels (ports_from 2 ir.channels) made.parts.sides) (subst (HasDrivers v) made.assembled.assignments now.wires)

  driven : (held v : Values) (row : Row) → IsNow m held (given m row) v → IsBlockDriven v run ir made.parts
  driven held v row now = made.driven v (wires_driven held v row now)

  -- ---- a row

  outside_shown : (held v : Values) (row : Row) → IsInputRow m row → IsNow m held (given m row) v → RowShown v block nets (row_ports ir.channels row)
  outside_shown held v row fits now c =
      subst (PortShown v (nets.ends c) (row_ports ir.channels row) c) (sym (slice_get-map chan_of ir.channels c)) (at (slice_get ir.channels c) refl)
    where
      at : (o : Option Channel) → slice_get ir.channels c ≡ o → PortShown v (nets.ends c) (row_ports ir.channels row) c (option_map chan_of o)
      at None none =
          let past = none_long ir.channels c none in
          let count = made.put.view_count in
          let view : channel_view made.parts.views c ≡ nothing_there = ap (given_or nothing_there) (nothing_past made.parts.views c (omega (arith, past, count))) in
          subst (λ w. SidesShown v (channel_nets w (get_or made.parts.sides c no_ends)) None false) (sym view) (record { valid = zero_bit v; word = λ w e. no_word_there v (literal_atom 1 0) w e; room = zero_bit v })
      at (Some channel) there =
          let l = slice_get_within ir.channels c channel there in
          let count = made.put.view_count in
          let view = is_there made.parts.views c (omega (arith, l, count)) in
          let ports = ports_there 2 ir.channels c l in
          let fifo = fifo_at c l in
          let shape = at_index (IsViewOf ir.channels (ports_from 2 ir.channels) made.parts.fifos) made.parts.views c view.0 made.put.views view.1 channel ports.0 fifo.0 there ports.1 fifo.1 in
          let outside = ports_given m row held v ir.channels made.assembled.ports_are fits.fits now c channel ports.0 there ports.1 in
          let shown = sides_by v channel channel.ends ports.0 fifo.0 view.0 (get_or made.parts.sides c no_ends) (drive_at ir.channels row.channels c) (row_ports ir.channels row) c refl refl shape outside in
          subst (λ w. OuterShown v (channel_nets w (get_or made.parts.sides c no_ends)) (row_ports ir.channels row) c (kind_of channel.ends)) (sym (ap (given_or nothing_there) view.1)) shown
        where
          ports_there : (k : ℕ) (channels : List Channel) (i : ℕ) → i < length channels → (port : ℕ) × (slice_get (ports_from k channels) i ≡ Some port)
          ports_there k [] i l = absurd (omega (arith, l))
          ports_there k (x ∷ channels) zero l = (k, refl)
          ports_there k (x ∷ channels) (suc i) l = ports_there (k + count_ports x.ends) channels i (omega (arith, l))

          fifo_at : (i : ℕ) → i < length ir.channels → (fifo : Option Fifo) × (slice_get made.parts.fifos i ≡ Some fifo)
          fifo_at i l = is_there made.parts.fifos i (let long = fifos_long 0 first ir.channels in let same = ap length made.put.fifos in omega (arith, l, long, same))
            where
              fifos_long : (i k : ℕ) (channels : List Channel) → length (fifos_from depths i k channels) ≡ length channels
              fifos_long i k [] = refl
              fifos_long i k (x ∷ channels) = ap suc (fifos_long (suc i) (k + length (registers_at depths i x)) channels)

  all_carry : (held v : Values) (row : Row) → IsInputRow m row → ((s : ℕ) → CarriesWord (declared_widths m) held s) → IsNow m held (given m row) v → (s : ℕ) → s < length (signals m) → CarriesWord (declared_widths m) v s
  all_carry held v row fits carried now = carry_law held (given m row) v can (given_law row fits) (λ s d is e. carried s) now

  row_made : (held v : Values) (row : Row) → IsInputRow m row → ((s : ℕ) → CarriesWord (declared_widths m) held s) → IsNow m held (given m row) v → BlockRow v run block nets (input_row ir.channels row)
  row_made held v row fits carried now = record {
    made = block_made m ir clock schedules depths made whole v (driven held v row now) (all_carry held v row fits carried now) made_law partners_law asked_law;
    runs = made.runs v (wires_driven held v row now) ∙ run_bit v row.reset (reset_given m held v row can now);
    ports = outside_shown held v row fits now;
  }

  -- ---- from a row to the next

  module _ (held v next : Values) (row row' : Row) (now : IsNow m held (given m row) v) (later : IsNow m (registers_next m v held) (given m row') next) where
    abbrev fifo_next_nets : List Atom
    fifo_next_nets = all_next made.parts.fifos made.parts.sides made.parts.goes

    next_taken : row.reset ≡ false → AreTaken v next first (fifo_next_nets ++ nexts_of made.parts.procs)
    next_taken off = subst (λ k. AreTaken v next k (block_nexts made.parts)) made.first (clocks_taken sets_law m held v next row row' can now later made.registers.first (block_nexts made.parts) off made.assembled.at_clock)

    reset_taken : row.reset ≡ true → AreTaken v next first (resets_of (all_registers depths 0 ir.channels) ++ resets_of (registers_of made.parts.procs))
    reset_taken on =
        subst (AreTaken v next first) (map_both reset_of (all_registers depths 0 ir.channels) (registers_of made.parts.procs))
        (subst (λ rs. AreTaken v next first (resets_of rs)) made.registers_are
        (subst (λ k. AreTaken v next k (resets_of made.registers.registers.items)) made.first (resets_taken sets_law m held v next row row' can now later made.registers.first (resets_of made.registers.registers.items) on made.assembled.at_reset)))

    behind : ℕ
    behind = first + length (all_registers depths 0 ir.channels)

    fifos_long : length fifo_next_nets ≡ length (all_registers depths 0 ir.channels)
    fifos_long =
        ap (λ fs. length (all_next fs made.parts.sides made.parts.goes)) made.put.fifos ∙ all_next_long depths 0 first ir.channels made.parts.sides made.parts.goes made.put.side_count made.put.goes_count

    few : first + length (all_registers depths 0 ir.channels) < 2 ^ 32
    few =
        let all = length-append (all_registers depths 0 ir.channels) (registers_of made.parts.procs) in
        let same = ap length made.registers_are in
        let from = made.first in
        less (first + length (all_registers depths 0 ir.channels)) (made.registers.first + length made.registers.registers.items) (2 ^ 32) (omega (arith, all, same, from)) made.few
      where
        less : (a b x : ℕ) → a ≤ b → b < x → a < x
        less a b x g h = omega (arith, g, h)

    goes_on : row.reset ≡ false → BlockGoesOn v next block nets
    goes_on off =
        let both = taken_both v next first fifo_next_nets (nexts_of made.parts.procs) (next_taken off) in
        let procs = subst (λ n. AreTaken v next (first + n) (nexts_of made.parts.procs)) fifos_long both.1 in
        let now_driven = driven held v row now in
        let later_driven = driven (registers_next m v held) next row' later in
        record {
          pipelines = λ p one there.
              let own = map_there pipeline_nets made.parts.procs p one there in
              let taken = procs_next count_law ir clock 0 (first + length (all_registers depths 0 ir.channels)) made.parts.procs made.put.procs v next run made.parts.views now_driven.procs procs p own.0 own.1 in
              subst (λ (x : PipelineNets). RegistersGoOn v next x.proc x.nets x.stage x.carried x.pipeline x.stages) own.2
              (next_law ir (0 + p) clock taken.0 own.0 taken.1 v next run made.parts.views (now_driven.procs p own.0 own.1) (later_driven.procs p own.0 own.1) taken.2);
          fifos = λ c chan there inner.
              let own = map_there chan_of ir.channels c chan there in
              fifo_goes c own.0 own.1 (ap (λ (x : Chan). x.kind) own.2 ∙ inner) both.0;
        }
      where
        fifo_goes : (c : ℕ) (channel : Channel) → slice_get ir.channels c ≡ Some channel → kind_of channel.ends ≡ kind.Inner → AreTaken v next first fifo_next_nets → FifoGoesOn v next (nets.fifos c)
        fifo_goes c channel there inner taken =
            let l = slice_get_within ir.channels c channel there in
            let side_count = made.put.side_count in
            let goes_count = made.put.goes_count in
            let side = is_there made.parts.sides c (omega (arith, l, side_count)) in
            let goes = is_there made.parts.goes c (omega (arith, l, goes_count)) in
            let depth = get_or depths (0 + c) 0 in
            let fifo = fifo_there depths 0 first ir.channels c channel there inner in
            let own = laid_fifo depth (flat_bits channel) fifo.first in
            let stands : slice_get made.parts.fifos c ≡ Some (Some own) = ap (λ fs. slice_get fs c) made.put.fifos ∙ fifo.fifo_is in
            let all = subst (λ fs. AreTaken v next first (all_next fs made.parts.sides made.parts.goes)) made.put.fifos taken in
            let its = fifos_taken v next depths 0 first ir.channels made.parts.sides made.parts.goes made.put.side_count made.put.goes_count all c depth (flat_bits channel) fifo.first side.0 goes.0 fifo.fifo_is side.1 goes.1 in
            let number = number_of (channel_view made.parts.views c).valid in
            let result = fifo_taken v next depth (flat_bits channel) fifo.first number side.0 goes.0 (slots_fit depths 0 first ir.channels c depth (flat_bits channel) fifo.first fifo.fifo_is few) its in
            subst (λ f. FifoGoesOn v next (fifo_nets f (get_or made.parts.sides c no_ends) number (get_or made.parts.goes c 0))) (sym (ap fifo_or stands))
            (subst (λ s. FifoGoesOn v next (fifo_nets own s number (get_or made.parts.goes c 0))) (sym (got made.parts.sides c no_ends side.0 side.1))
            (subst (λ g. FifoGoesOn v next (fifo_nets own side.0 number g)) (sym (got made.parts.goes c 0 goes.0 goes.1)) result))

    resets : row.reset ≡ true → BlockReset next block nets
    resets on =
        let registers = all_registers depths 0 ir.channels in
        let both = taken_both v next first (resets_of registers) (resets_of (registers_of made.parts.procs)) (reset_taken on) in
        let procs = subst (λ n. AreTaken v next (first + n) (resets_of (registers_of made.parts.procs))) (map_long reset_of registers) both.1 in
        let later_driven = driven (registers_next m v held) next row' later in
        record {
          bits = λ p one there.
              let own = map_there pipeline_nets made.parts.procs p one there in
              let taken = procs_reset ir clock 0 (first + length registers) made.parts.procs made.put.procs v next procs p own.0 own.1 in
              subst (λ (x : PipelineNets). AreReset next 0 x.stages) own.2 (reset_law ir (0 + p) clock taken.0 own.0 taken.1 v next run made.parts.views (later_driven.procs p own.0 own.1) taken.2).0;
          states = λ p one there.
              let own = map_there pipeline_nets made.parts.procs p one there in
              let taken = procs_reset ir clock 0 (first + length registers) made.parts.procs made.put.procs v next procs p own.0 own.1 in
              let done = reset_law ir (0 + p) clock taken.0 own.0 taken.1 v next run made.parts.views (later_driven.procs p own.0 own.1) taken.2 in
              subst (λ (x : PipelineNets). ShowsValue next (x.nets.shown 0 operand.State) x.pipeline.proc.opening × IsOfType (ty_of x.proc.state) x.pipeline.proc.opening) own.2 (done.1, done.2);
          fifos = λ c chan there inner.
              let own = map_there chan_of ir.channels c chan there in
              fifo_reset c own.0 own.1 (ap (λ (x : Chan). x.kind) own.2 ∙ inner) both.0;
        }
      where
        below : (d x : ℕ) → d ≤ 64 → 64 < x → d < x
        below d x g h = omega (arith, g, h)

        fifo_reset : (c : ℕ) (channel : Channel) → slice_get ir.channels c ≡ Some channel → kind_of channel.ends ≡ kind.Inner → AreTaken v next first (resets_of (all_registers depths 0 ir.channels))
            → atom_value next (nets.fifos c).count ≡ word (nets.fifos c).count_width 0
        fifo_reset c channel there inner taken =
            let zero : 0 + c ≡ c = omega arith in
            let depth = get_or depths (0 + c) 0 in
            let fifo = fifo_there depths 0 first ir.channels c channel there inner in
            let own = laid_fifo depth (flat_bits channel) fifo.first in
            let stands : slice_get made.parts.fifos c ≡ Some (Some own) = ap (λ fs. slice_get fs c) made.put.fifos ∙ fifo.fifo_is in
            let most = (made.put.deep c channel there inner).1 in
            let small : depth < 2 ^ 32 = subst (λ i. get_or depths i 0 < 2 ^ 32) (sym zero) (below (get_or depths c 0) (2 ^ 32) most (omega arith)) in
            let result = fifos_reset v next depths 0 first ir.channels taken c depth (flat_bits channel) fifo.first fifo.fifo_is small in
            subst (λ (f : Fifo). atom_value next f.count ≡ word f.count_width 0) (sym (ap fifo_or stands)) result

    next_made : BlockNext v next block nets row.reset
    next_made = at row.reset refl
      where
        at : (b : Bool) → row.reset ≡ b → BlockNext v next block nets b
        at true e = resets e
        at false e = goes_on e

  -- ---- ports

  side_driven : (held v : Values) (row : Row) → IsNow m held (given m row) v → (c : ℕ) (channel : Channel) (port : ℕ) → slice_get ir.channels c ≡ Some channel → slice_get (ports_from 2 ir.channels) c ≡ Some port
      → PortDriven v channel.ends port (record { ready = (nets.ends c).ready; offered = (nets.ends c).offered; word = (nets.ends c).offered_word })
  side_driven held v row now c channel port there at =
      let l = slice_get_within ir.channels c channel there in
      let count = made.put.side_count in
      let side = is_there made.parts.sides c (omega (arith, l, count)) in
      let drivers = each_back (λ (a : Assignment). v a.target.0 ≡ expr_value v a.value) (assigned made.wires.first made.wires.wires.items) (port_drivers ir.channels (ports_from 2 ir.channels) made.parts.sides) (subst (HasDrivers v) made.assembled.assignments now.wires) in
      subst (PortDriven v channel.ends port) (sym (got made.parts.sides c no_ends side.0 side.1)) (ports_driven v ir.channels (ports_from 2 ir.channels) made.parts.sides drivers c channel port side.0 there at side.1)

  pub module_drives : NetlistsDrive → NothingIsAsserted → IsBlock block → DrivesBlock m ir.channels block
  module_drives law nothing_law legal = netlist_drives law nothing_law m ir.channels block nets run legal (record {
    row = λ held v row fits carried now. row_made held v row fits carried now;
    next = λ held v next row row' fits fits' carried now later. next_made held v next row row' now later;
    ports = side_driven;
    carry = rows_law;
  })
