-- Where a package's ports and registers stand among a module's signals, and how wide they are.
use Rattle.std.proofs.Common.{◌≡◌, ℕ, zero, suc, ◌+◌, ◌-◌, ◌<◌, ◌≤◌, ◌^◌, max, min, List, [], ◌∷◌, ◌++◌, length, map, take, get_or, replicate, refl, sym, ap, ◌∙◌, subst, arith}
use Rattle.std.specs.Prelude.{slice_get, codes, Option, Some, None, option_map, unwrap_or}
use Rattle.std.proofs.lemmas.List.{length-append, length-replicate}
use Rattle.std.proofs.lemmas.Option.{slice_get_within}
use Rattle.ir_tree.specs.declared.node.Node.{Node}
use Rattle.ir_tree.specs.declared.node.Operand.{Operand}
use Rattle.ir_tree.specs.declared.node.Role.TheVariants as role
use Rattle.ir_tree.specs.declared.package.Channel.{Channel}
use Rattle.ir_tree.specs.declared.package.Ends.{Ends}
use Rattle.ir_tree.specs.declared.package.Ends.TheVariants as ends
use Rattle.ir_tree.specs.declared.package.Package.{Package}
use Rattle.ir_tree.specs.NodeValues.{role_of}
use Rattle.ir_tree.specs.Types.{ty_of}
use Rattle.vlog_tree.specs.declared.module.VModule.{VModule}
use Rattle.vlog_tree.specs.declared.signal.Role.TheVariants.{InputSignal, RegisterSignal}
use Rattle.vlog_tree.specs.Signals.{Declared, signals, declared_port, declared_own, declared_widths}
use Rattle.block_build.specs.declared.netlist.fifos.Fifo.{Fifo}
use Rattle.block_build.specs.declared.netlist.registers.Register.{Register}
use Rattle.block_build.specs.declared.netlist.wires.WireList.{WireList}
use Rattle.block_build.specs.declared.netlist.registers.RegisterList.{RegisterList}
use Rattle.block_build.specs.Netlist.Leaves.{leaf_widths}
use Rattle.block_build.specs.Netlist.Nodes.{site_index}
use Rattle.block_build.specs.Netlist.ProcRegisters.{channel_bits, state_registers, full_registers, sites_registers, copy_registers, nodes_registers}
use Rattle.block_build.specs.Netlist.Registers.{zero_register, count_bits, laid_fifo}
use Rattle.block_verilog.specs.Signals.Registers.{registers_of_site, no_registers, given_or}
use Rattle.block_verilog.specs.Pipelines.Nets.{ProcParts, ArePut}
use Rattle.block_verilog.specs.Pipelines.Pipelines.{IsLaidOut, proc_registers}
use Rattle.block_verilog.specs.Assembly.{IsAssembled, own_name, registers_declared, wires_declared}
use Rattle.block_verilog.specs.Ports.{declared, data_bits, flat_bits, ports_by, ports_of, module_ports, count_ports, ports_from}
use Rattle.block_verilog.specs.Queues.{fifo_registers, fifo_by, registers_at, all_registers, fifos_from}
use Rattle.block_verilog.specs.Parts.{ArePutFrom, registers_of}
use Rattle.block_verilog.proofs.OnKept.{left_there, right_there, kept_there, KeptOf}

-- ---- registers among signals

register_declared : (first : ℕ) (registers : List Register) (i : ℕ) (r : Register) → slice_get registers i ≡ Some r → slice_get (registers_declared first registers) i ≡ Some (declared (own_name (first + i)) RegisterSignal (max r.width 1))
register_declared first [] i r e = absurd (cc)
register_declared first (x ∷ registers) zero r e =
    let same : x ≡ r = cc in
    let none : first ≡ first + 0 = omega arith in
    ap (λ (y : Register). Some (declared (own_name first) RegisterSignal (max y.width 1))) same ∙ ap (λ n. Some (declared (own_name n) RegisterSignal (max r.width 1))) none
register_declared first (x ∷ registers) (suc i) r e =
    let next : suc first + i ≡ first + suc i = omega arith in
    register_declared (suc first) registers i r e ∙ ap (λ n. Some (declared (own_name n) RegisterSignal (max r.width 1))) next

-- a signal of a module: a number below their count, and its width
pub record SignalThere (m : VModule) (s w : ℕ) : Type 0 where
  pub within : s < length (signals m)
  pub wide : declared_widths m s ≡ w

signal_there : (m : VModule) (s : ℕ) (d : Declared) → slice_get (signals m) s ≡ Some d → SignalThere m s d.width
signal_there m s d e = record { within = slice_get_within (signals m) s d e; wide = ap (λ o. unwrap_or (option_map (λ (x : Declared). x.width) o) 1) e }

pub register_there : (m : VModule) (ports : List Declared) (registers : List Register) (first : ℕ) (others : List Declared) → map declared_port m.ports ≡ ports → map declared_own m.declarations ≡ registers_declared first registers ++ others
    → first ≡ length ports → (i : ℕ) (r : Register) → slice_get registers i ≡ Some r → SignalThere m (first + i) (max r.width 1)
register_there m ports registers first others p d f i r there =
    let own : slice_get (registers_declared first registers ++ others) i ≡ Some (declared (own_name (first + i)) RegisterSignal (max r.width 1)) =
    left_there (registers_declared first registers) others i (declared (own_name (first + i)) RegisterSignal (max r.width 1)) (register_declared first registers i r there) in
    let whole : signals m ≡ ports ++ (registers_declared first registers ++ others) = ap (λ xs. xs ++ map declared_own m.declarations) p ∙ ap (λ ys. ports ++ ys) d in
    let at : slice_get (signals m) (first + i) ≡ Some (declared (own_name (first + i)) RegisterSignal (max r.width 1)) =
    ap (λ xs. slice_get xs (first + i)) whole ∙ ap (λ n. slice_get (ports ++ (registers_declared first registers ++ others)) (n + i)) f ∙ right_there ports (registers_declared first registers ++ others) i ∙ own in
    signal_there m (first + i) (declared (own_name (first + i)) RegisterSignal (max r.width 1)) at

-- ---- data ports of inputs

-- the data port of an input stands so far behind the first port of all channels
pub record DataThere (k : ℕ) (channels : List Channel) (channel : Channel) (port : ℕ) : Type 0 where
  pub offset : ℕ
  pub is : port ≡ k + offset
  pub there : slice_get (ports_of channels) offset ≡ Some (declared (channel.name ++ codes "_data") InputSignal (data_bits channel))

data_first : (e : Ends) (channel : Channel) (rest : List Declared) → e ≡ ends.Input → slice_get (ports_by channel e ++ rest) 0 ≡ Some (declared (channel.name ++ codes "_data") InputSignal (data_bits channel))
data_first ends.Input channel rest h = refl
data_first ends.Output channel rest h = absurd (cc)
data_first (ends.Inner d) channel rest h = absurd (cc)

ports_long : (e : Ends) (channel : Channel) → length (ports_by channel e) ≡ count_ports e
ports_long ends.Input channel = refl
ports_long ends.Output channel = refl
ports_long (ends.Inner d) channel = refl

pub data_there : (k : ℕ) (channels : List Channel) (c : ℕ) (channel : Channel) (port : ℕ) → slice_get channels c ≡ Some channel → slice_get (ports_from k channels) c ≡ Some port → channel.ends ≡ ends.Input → DataThere k channels channel port
data_there k [] c channel port there at input = absurd (cc)
data_there k (x ∷ channels) zero channel port there at input =
    let same : channel ≡ x = cc in
    let number : k ≡ port = cc in
    let none : k ≡ k + 0 = omega arith in
    record {
      offset = 0;
      is = sym number ∙ none;
      there = ap (λ (y : Channel). slice_get (ports_by y y.ends ++ ports_of channels) 0) (sym same) ∙ data_first channel.ends channel (ports_of channels) input;
    }
data_there k (x ∷ channels) (suc c) channel port there at input =
    let rest = data_there (k + count_ports x.ends) channels c channel port there at input in
    let long = ports_long x.ends x in
    let far : k + count_ports x.ends + rest.offset ≡ k + (length (ports_by x x.ends) + rest.offset) = omega (arith, long) in
    record { offset = length (ports_by x x.ends) + rest.offset; is = rest.is ∙ far; there = right_there (ports_by x x.ends) (ports_of channels) rest.offset ∙ rest.there }

pub data_port_there : (m : VModule) (channels : List Channel) (channel : Channel) (port : ℕ) → map declared_port m.ports ≡ module_ports channels → DataThere 2 channels channel port → SignalThere m port (data_bits channel)
data_port_there m channels channel port p d =
    let name = declared (channel.name ++ codes "_data") InputSignal (data_bits channel) in
    let e : 2 + d.offset ≡ suc (suc d.offset) = omega arith in
    let at : slice_get (module_ports channels) port ≡ Some name = ap (slice_get (module_ports channels)) (d.is ∙ e) ∙ d.there in
    signal_there m port name (left_there (map declared_port m.ports) (map declared_own m.declarations) port name (ap (λ xs. slice_get xs port) p ∙ at))

-- ---- the first slot of a FIFO

pub record SlotThere (depths : List ℕ) (i k : ℕ) (channels : List Channel) (n width : ℕ) : Type 0 where
  pub offset : ℕ
  pub is : suc n ≡ k + offset
  pub there : slice_get (all_registers depths i channels) offset ≡ Some (zero_register width)

slot_first : (e : Ends) (d w m depth width n : ℕ) (rest : List Register) → fifo_by e d w m ≡ Some (laid_fifo depth width n) → 1 ≤ depth → (m ≡ n) × (slice_get (fifo_registers e d w ++ rest) 1 ≡ Some (zero_register width))
slot_first ends.Input d w m depth width n rest h some = absurd (cc)
slot_first ends.Output d w m depth width n rest h some = absurd (cc)
slot_first (ends.Inner z) d w m depth width n rest h some =
    let same : laid_fifo d w m ≡ laid_fifo depth width n = cc in
    let slots = ap (λ (f : Fifo). f.slots) same in
    let deep : d ≡ depth = ap (λ (f : Fifo). f.depth) same in
    let wide : w ≡ width = ap (λ (f : Fifo). f.width) same in
    (omega (arith, slots), one d (omega (arith, deep, some)) ∙ ap (λ x. Some (zero_register x)) wide)
  where
    one : (q : ℕ) → 1 ≤ q → slice_get (zero_register (count_bits q) ∷ (replicate q (zero_register w) ++ rest)) 1 ≡ Some (zero_register w)
    one zero l = absurd (omega (arith, l))
    one (suc q) l = refl

pub slot_there : (depths : List ℕ) (i k : ℕ) (channels : List Channel) (c depth width n : ℕ) → slice_get (fifos_from depths i k channels) c ≡ Some (Some (laid_fifo depth width n)) → 1 ≤ depth → SlotThere depths i k channels n width
slot_there depths i k [] c depth width n there some = absurd (cc)
slot_there depths i k (x ∷ channels) zero depth width n there some =
    let e : fifo_by x.ends (get_or depths i 0) (flat_bits x) k ≡ Some (laid_fifo depth width n) = cc in
    let first = slot_first x.ends (get_or depths i 0) (flat_bits x) k depth width n (all_registers depths (suc i) channels) e some in
    let at = first.0 in
    record { offset = 1; is = omega (arith, at); there = first.1 }
slot_there depths i k (x ∷ channels) (suc c) depth width n there some =
    let rest = slot_there depths (suc i) (k + length (registers_at depths i x)) channels c depth width n there some in
    let far = rest.is in
    record {
      offset = length (registers_at depths i x) + rest.offset;
      is = omega (arith, far);
      there = right_there (registers_at depths i x) (all_registers depths (suc i) channels) rest.offset ∙ rest.there;
    }

-- ---- a proc's registers among all

pub record PutThere (ir : Package) (clock p k : ℕ) (parts : List ProcParts) (q : ℕ) (one : ProcParts) : Type 0 where
  pub before : ℕ
  pub put : ArePut ir (p + q) clock (k + before) one
  pub register : (i : ℕ) (r : Register) → slice_get (proc_registers one.scheduled one.layout.reads) i ≡ Some r → slice_get (registers_of parts) (before + i) ≡ Some r

pub put_there : (ir : Package) (clock p k : ℕ) (parts : List ProcParts) → ArePutFrom ir clock p k parts → (q : ℕ) (one : ProcParts) → slice_get parts q ≡ Some one → PutThere ir clock p k parts q one
put_there ir clock p k [] put q one there = absurd (cc)
put_there ir clock p k (x ∷ parts) put zero one there =
    let same : x ≡ one = cc in
    let e : p ≡ p + 0 = omega arith in
    let f : k ≡ k + 0 = omega arith in
    record {
      before = 0;
      put = subst (λ y. ArePut ir (p + 0) clock (k + 0) y) same (subst (λ n. ArePut ir (p + 0) clock n x) f (subst (λ n. ArePut ir n clock k x) e put.0));
      register = λ i r at.
          let none : 0 + i ≡ i = omega arith in
          ap (slice_get (registers_of (x ∷ parts))) none
          ∙ left_there (proc_registers x.scheduled x.layout.reads) (registers_of parts) i r (ap (λ (y : ProcParts). slice_get (proc_registers y.scheduled y.layout.reads) i) same ∙ at);
    }
put_there ir clock p k (x ∷ parts) put (suc q) one there =
    let own = proc_registers x.scheduled x.layout.reads in
    let rest = put_there ir clock (suc p) (k + length own) parts put.1 q one there in
    let e : suc p + q ≡ p + suc q = omega arith in
    let f : k + length own + rest.before ≡ k + (length own + rest.before) = omega arith in
    record {
      before = length own + rest.before;
      put = subst (λ n. ArePut ir (p + suc q) clock n one) f (subst (λ n. ArePut ir n clock (k + length own + rest.before) one) e rest.put);
      register = λ i r at.
          let far : length own + rest.before + i ≡ length own + (rest.before + i) = omega arith in
          ap (slice_get (own ++ registers_of parts)) far ∙ right_there own (registers_of parts) (rest.before + i) ∙ rest.register i r at;
    }

full_long : (stage n : ℕ) → length (full_registers stage n) ≡ n
full_long stage zero = refl
full_long stage (suc n) = ap suc (full_long (suc stage) n)

-- the register of the word that a receive keeps
pub kept_of : (one : ProcParts) (k : ℕ) → IsLaidOut one.scheduled k one.layout → (j : ℕ) (n : Node) (predicate : Option Operand) (c : ℕ) → slice_get one.scheduled.proc.nodes j ≡ Some n → role_of n ≡ role.Receive predicate c
    → KeptOf one k (site_index one.scheduled.proc.nodes j) c
kept_of one k laid j n predicate c there is =
    let s = one.scheduled in
    let state = state_registers s.proc in
    let full = full_registers 0 s.depth in
    let sites = sites_registers s.channels s.proc.nodes in
    let copies = copy_registers (leaf_widths (ty_of s.proc.state)) (one.layout.reads.state - 0) in
    let nodes = nodes_registers s.proc.nodes s.stages one.layout.reads.nodes.items in
    let kept = kept_there s.channels (one.layout.registers.full + s.depth) s.proc.nodes [] 0 j n predicate c refl there is in
    let f = laid.registers.full in
    let a = length-append state full in
    let b = full_long 0 s.depth in
    let number : one.layout.registers.full + s.depth + suc kept.offset ≡ k + (length (state ++ full) + suc kept.offset) = omega (arith, f, a, b) in
    record {
      offset = length (state ++ full) + suc kept.offset;
      is = ap (λ o. (given_or no_registers o).kept) (ap (λ xs. slice_get xs (site_index s.proc.nodes j)) laid.registers.sites ∙ kept.site) ∙ ap (λ x. record { 0 = x }) number;
      register =
          left_there (state ++ full ++ sites ++ copies) nodes (length (state ++ full) + suc kept.offset) (zero_register (channel_bits s.channels c))
          (left_there (state ++ full ++ sites) copies (length (state ++ full) + suc kept.offset) (zero_register (channel_bits s.channels c)) (right_there (state ++ full) sites (suc kept.offset) ∙ kept.register));
    }

-- ---- all slots of a FIFO have numbers

slots_below : (e : Ends) (d w m depth width n rest x : ℕ) → fifo_by e d w m ≡ Some (laid_fifo depth width n) → m + (length (fifo_registers e d w) + rest) < x → suc n + depth ≤ x
slots_below ends.Input d w m depth width n rest x h few = absurd (cc)
slots_below ends.Output d w m depth width n rest x h few = absurd (cc)
slots_below (ends.Inner z) d w m depth width n rest x h few =
    let same : laid_fifo d w m ≡ laid_fifo depth width n = cc in
    let slots = ap (λ (f : Fifo). f.slots) same in
    let deep : d ≡ depth = ap (λ (f : Fifo). f.depth) same in
    let long = length-replicate d (zero_register w) in
    omega (arith, slots, deep, long, few)

pub slots_fit : (depths : List ℕ) (i k : ℕ) (channels : List Channel) (c depth width n : ℕ) → slice_get (fifos_from depths i k channels) c ≡ Some (Some (laid_fifo depth width n)) → k + length (all_registers depths i channels) < 2 ^ 32 → suc n + depth ≤ 2 ^ 32
slots_fit depths i k [] c depth width n there few = absurd (cc)
slots_fit depths i k (x ∷ channels) zero depth width n there few =
    let e : fifo_by x.ends (get_or depths i 0) (flat_bits x) k ≡ Some (laid_fifo depth width n) = cc in
    let long = length-append (registers_at depths i x) (all_registers depths (suc i) channels) in
    slots_below x.ends (get_or depths i 0) (flat_bits x) k depth width n (length (all_registers depths (suc i) channels)) (2 ^ 32) e (subst (λ y. k + y < 2 ^ 32) long few)
slots_fit depths i k (x ∷ channels) (suc c) depth width n there few =
    let long = length-append (registers_at depths i x) (all_registers depths (suc i) channels) in
    let far : k + length (registers_at depths i x ++ all_registers depths (suc i) channels) ≡ k + length (registers_at depths i x) + length (all_registers depths (suc i) channels) = omega (arith, long) in
    slots_fit depths (suc i) (k + length (registers_at depths i x)) channels c depth width n there (subst (λ y. y < 2 ^ 32) far few)
