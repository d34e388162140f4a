-- The steps by which the parts of a package are put together.
use Rattle.std.proofs.Common.{◌≡◌, ◌≢◌, ◌⊎◌, inl, inr, ℕ, zero, suc, ◌+◌, ◌-◌, ◌<◌, ◌≤◌, ◌^◌, nat_lt, Bool, true, false, min, List, [], ◌∷◌, ◌++◌, length, map, drop, get_or, Result, Ok, Err, refl, sym, ap, ap₂, ◌∙◌, subst, arith}
use Rattle.std.specs.Prelude.{slice_get, Option, Some, None, IfOk}
use Rattle.std.specs.List.{AllByRecursion}
use Rattle.std.proofs.lemmas.Bool.{ltb-false, cases_eq}
use Rattle.std.proofs.lemmas.List.{append_assoc, length-append}
use Rattle.std.proofs.lemmas.Option.{slice_get_within, slice_get-get_or}
use Rattle.net_core.specs.declared.net.Kind.TheVariants.{Inner}
use Rattle.ir_tree.specs.declared.package.Channel.{Channel}
use Rattle.ir_tree.specs.declared.package.Ends.{Ends}
use Rattle.ir_tree.specs.declared.package.Ends.TheVariants as ends
use Rattle.ir_tree.specs.declared.package.Package.{Package}
use Rattle.ir_tree.specs.declared.package.Proc.{Proc}
use Rattle.ir_tree.specs.Networks.{kind_of}
use Rattle.pipe_schedule.specs.declared.schedule.Schedule.{Schedule}
use Rattle.vlog_tree.specs.declared.expression.Atom.{Atom}
use Rattle.vlog_tree.specs.declared.module.VModule.{VModule}
use Rattle.vlog_tree.specs.declared.module.Port.{Port}
use Rattle.vlog_tree.specs.declared.module.Declaration.{Declaration}
use Rattle.vlog_tree.specs.Signals.{Declared, declared_own, declared_port}
use Rattle.ir_tree.specs.Rules.Verified.{IsVerified}
use Rattle.vlog_tree.specs.Value.{Values, atom_value, expr_value}
use Rattle.xb_span.specs.declared.limit.Limit.{Limit}
use Rattle.block_build.specs.declared.netlist.fifos.ChannelEnds.{ChannelEnds}
use Rattle.block_build.specs.declared.netlist.fifos.ChannelView.{ChannelView}
use Rattle.block_build.specs.declared.netlist.fifos.Fifo.{Fifo}
use Rattle.block_build.specs.declared.netlist.registers.Register.{Register}
use Rattle.block_build.specs.declared.netlist.registers.RegisterList.{RegisterList}
use Rattle.block_build.specs.declared.netlist.wires.WireList.{WireList}
use Rattle.block_build.specs.Netlist.Added.{next_number, AddsWires, PutsNet}
use Rattle.block_build.specs.Netlist.Gates.{net, not_gate}
use Rattle.block_build.specs.Netlist.Registers.{next_register, Lays}
use Rattle.block_verilog.specs.declared.pipelines.layout.ProcLayout.{ProcLayout}
use Rattle.block_verilog.specs.declared.pipelines.pipelines.ProcWires.{ProcWires}
use Rattle.block_verilog.specs.Each.{EachFrom}
use Rattle.block_build.specs.Netlist.Wires.{Wire}
use Rattle.block_verilog.specs.Assembly.{IsAssembled, own_name, port_drivers, registers_declared, wires_declared}
use Rattle.block_verilog.specs.Ports.{flat_bits, module_ports, ports_from}
use Rattle.block_verilog.specs.Queues.{fifo_by, IsShown, ViewIs, all_registers, all_next, fifos_from, IsViewOf, IsViewed, AreShown, FifosGo}
use Rattle.block_verilog.proofs.Lemmas.Each.{each_at}
use Rattle.block_verilog.proofs.OnMade.{is_there}
use Rattle.block_verilog.proofs.OnPut.{ports_long, fifos_long, same_many, laid_many, put_together}
use Rattle.block_verilog.specs.Modules.{IsMadeOfParts, IsOwnName, is_deep, limit_of, IsFirstTooDeep, NoneTooDeep, HaveSlots, AreFifoDepths, AreScheduled}
use Rattle.block_verilog.specs.Parts.{nexts_of}
use Rattle.block_verilog.specs.Procs.{AreLaidOut, laid_registers, MadeProc, IsMadeProc, AreMade, IsPartOf, ArePutNext}
use Rattle.block_verilog.specs.Put.{AllLaid, AllDriven, AllPut, AllNext}
use Rattle.block_verilog.specs.Sides.{IsEnd}

-- ---- registers

pub all_laid : (ir : Package) (schedules : List Schedule) (depths : List ℕ) (first : ℕ) (a b c : RegisterList) (channels : List Channel) (procs : List Proc) (fifos : List (Option Fifo)) (layouts : List ProcLayout) → channels ≡ ir.channels → procs ≡ ir.procs
    → (a.first ≡ first) × (a.registers.items ≡ []) → fifos ≡ fifos_from depths 0 (next_register a) channels → Lays a b (all_registers depths 0 channels) → AreLaidOut channels (next_register b) procs schedules layouts
    → Lays b c (laid_registers channels procs schedules layouts) → AllLaid ir schedules depths first c fifos layouts
all_laid ir schedules depths first a b c channels procs fifos layouts cs ps begin made p laid q =
    let none = ap length begin.1 in
    let start = begin.0 in
    let at : next_register a ≡ first = omega (arith, none, start) in
    let items : b.registers.items ≡ all_registers depths 0 channels = p.laid ∙ ap (λ rs. rs ++ all_registers depths 0 channels) begin.1 in
    let b_first = p.first in
    let b_long = ap length items in
    let behind : next_register b ≡ first + length (all_registers depths 0 channels) = omega (arith, b_first, b_long, start) in
    record {
      first_is = q.first ∙ p.first ∙ begin.0;
      registers_are = q.laid ∙ ap (λ rs. rs ++ laid_registers channels procs schedules layouts) items ∙ ap₂ (λ xs ys. all_registers depths 0 xs ++ laid_registers xs ys schedules layouts) cs ps;
      fifos_are = made ∙ ap₂ (fifos_from depths 0) at cs;
      procs = subst (λ ys. AreLaidOut ir.channels (first + length (all_registers depths 0 ir.channels)) ys schedules layouts) ps
          (subst (λ xs. AreLaidOut xs (first + length (all_registers depths 0 xs)) procs schedules layouts) cs (subst (λ k. AreLaidOut channels k procs schedules layouts) behind laid));
    }

-- ---- wires

run_put : (a b : WireList) (run : Atom) → PutsNet a b (not_gate (net 1)) run → AddsWires a b (λ v. atom_value v run ≡ expr_value v (not_gate (net 1)).driver)
run_put a b run p = λ v h. let both = p.puts.wired v h in (both.0, ap (atom_value v) p.number ∙ both.1.0)

pub all_put : (a b c d e : WireList) (ir : Package) (channels : List Channel) (procs : List Proc) (schedules : List Schedule) (ports : List ℕ) (fifos : List (Option Fifo)) (layouts : List ProcLayout) (views : List ChannelView) (made : List ProcWires) (sides : List ChannelEnds) (run : Atom)
    → channels ≡ ir.channels → procs ≡ ir.procs → PutsNet a b (not_gate (net 1)) run → length views ≡ min (min (length channels) (length ports)) (length fifos) → EachFrom (IsViewOf channels ports fifos) 0 views → AddsWires b c (λ v. EachFrom (IsViewed v channels fifos) 0 views)
    → AreMade c d run channels procs schedules layouts views made → length sides ≡ length channels → AddsWires d e (λ v. EachFrom (IsEnd v procs made channels) 0 sides) → AllPut a e ir schedules ports fifos layouts views made sides
all_put a b c d e ir channels procs schedules ports fifos layouts views made sides run cs ps one count are viewed m many ended =
    subst (λ xs. AllPut a e xs schedules ports fifos layouts views made sides) (λ i. record { name = ir.name; channels = cs i; procs = ps i }) (record {
      run = run;
      each = m.each;
      are = m.are;
      count = m.count;
      stages = m.stages;
      view_count = count;
      views_are = are;
      side_count = many;
      driven = λ v h.
          let four = ended v h in
          let three = m.wired v four.0 in
          let two = viewed v three.0 in
          let first = run_put a b run one v two.0 in
          (first.0, record { runs = first.1; viewed = two.1; procs = three.1; ends_are = four.1 });
    })

-- ---- what registers hold next

pub all_next_put : (a b c : WireList) (ir : Package) (procs : List Proc) (schedules : List Schedule) (fifos : List (Option Fifo)) (layouts : List ProcLayout) (views : List ChannelView) (each : List MadeProc) (sides : List ChannelEnds) (none now nexts : List Atom) → procs ≡ ir.procs → none ≡ []
    → FifosGo a b fifos views sides none now → ArePutNext b c ir.channels procs schedules layouts each now nexts → AllNext a c ir schedules fifos layouts views each sides nexts
all_next_put a b c ir procs schedules fifos layouts views each sides none now nexts ps e p q = record {
  goes = p.goes;
  goes_count = p.count;
  parts = q.each;
  part_count = q.count;
  parts_are = subst (λ xs. EachFrom (IsPartOf ir.channels xs schedules layouts each) 0 q.each) ps q.parts;
  nexts_are = q.nexts ∙ ap (λ xs. xs ++ nexts_of q.each) (p.nexts ∙ ap (λ xs. xs ++ all_next fifos sides p.goes) e);
  fifos_go = λ v h. let later = q.wired v h in let sooner = p.wired v later.0 in (sooner.0, (sooner.1, later.1));
}

-- ---- depths

-- none so far is too deep
abbrev pub ShallowBefore : List Channel → List ℕ → ℕ → Type 0
ShallowBefore channels depths n = (i : ℕ) (channel : Channel) → i < n → slice_get channels i ≡ Some channel → is_deep channel.ends (get_or depths i 0) ≡ false

-- the first that is
pub first_deep : (channels : List Channel) (depths : List ℕ) (n depth : ℕ) (channel : Channel) (deep : Bool) (limit : Limit) → slice_get channels n ≡ Some channel → depth ≡ get_or depths n 0 → deep ≡ is_deep channel.ends depth → deep ≡ true → limit ≡ limit_of depth
    → ShallowBefore channels depths n → IsFirstTooDeep channels depths limit
first_deep channels depths n depth channel deep limit there at test is passes before = record {
  at = n;
  channel = channel;
  there = there;
  deep = ap (is_deep channel.ends) (sym at) ∙ sym test ∙ is;
  before = before;
  is = passes ∙ ap limit_of at;
}

depth_few : (e : Ends) (depth : ℕ) → kind_of e ≡ Inner → is_deep e depth ≡ false → depth ≤ 64
depth_few ends.Input depth k h = absurd (cc)
depth_few ends.Output depth k h = absurd (cc)
depth_few (ends.Inner d) depth k h = ltb-false 64 depth h

pub are_deep : (channels : List Channel) (depths : List ℕ) → HaveSlots channels depths → NoneTooDeep channels depths → AreFifoDepths channels depths
are_deep channels depths some shallow = λ i channel there inner. (some i channel there inner, depth_few channel.ends (get_or depths i 0) inner (shallow i channel there))

-- ---- as slices

-- what was put for slices of lists was put for the lists
pub all_put_slices : (a b c d e : WireList) (ir : Package) (channels : List Channel) (procs : List Proc) (schedules : List Schedule) (ports : List ℕ) (fifos fifos' : List (Option Fifo)) (layouts layouts' : List ProcLayout) (views views' : List ChannelView) (made made' : List ProcWires)
    (sides : List ChannelEnds) (run : Atom) → channels ≡ ir.channels → procs ≡ ir.procs → fifos' ≡ fifos → layouts' ≡ layouts → views' ≡ views → made' ≡ made → PutsNet a b (not_gate (net 1)) run
    → length views ≡ min (min (length channels) (length ports)) (length fifos') → EachFrom (IsViewOf channels ports fifos') 0 views → AddsWires b c (λ v. EachFrom (IsViewed v channels fifos') 0 views)
    → (length layouts' ≡ length procs → length schedules ≡ length procs → AreMade c d run channels procs schedules layouts' views' made) → length sides ≡ length channels → AddsWires d e (λ v. EachFrom (IsEnd v procs made' channels) 0 sides)
    → length layouts ≡ length ir.procs → length schedules ≡ length ir.procs → AllPut a e ir schedules ports fifos layouts views made sides
all_put_slices a b c d e ir channels procs schedules ports fifos fifos' layouts layouts' views views' made made' sides run cs ps fs ls vs ms one count are viewed m many ended l_long s_long =
    let p_long = ap length ps in
    let laid_long = ap length ls in
    let whole = m (omega (arith, p_long, laid_long, l_long)) (omega (arith, p_long, s_long)) in
    all_put a b c d e ir channels procs schedules ports fifos layouts views made sides run cs ps one (subst (λ x. length views ≡ min (min (length channels) (length ports)) (length x)) fs count) (subst (λ x. EachFrom (IsViewOf channels ports x) 0 views) fs are)
    (subst (λ x. AddsWires b c (λ v. EachFrom (IsViewed v channels x) 0 views)) fs viewed) (subst (λ x. AreMade c d run channels procs schedules x views made) ls (subst (λ x. AreMade c d run channels procs schedules layouts' x made) vs whole)) many
    (subst (λ x. AddsWires d e (λ v. EachFrom (IsEnd v procs x channels) 0 sides)) ms ended)

-- the FIFOs of a package are shown so at its channels
pub shown_all : (channels : List Channel) (ports : List ℕ) (fifos : List (Option Fifo)) (views : List ChannelView) (depths : List ℕ) (first : ℕ) → fifos ≡ fifos_from depths 0 first channels → ports ≡ ports_from 2 channels → EachFrom (IsViewOf channels ports fifos) 0 views → AreShown fifos views
shown_all channels ports fifos views depths first f p are i fifo view fifo_at view_at =
    let l = slice_get_within fifos i fifo fifo_at in
    let long = ap length f ∙ fifos_long depths 0 first channels in
    let channel = is_there channels i (omega (arith, l, long)) in
    let p_long = ap length p ∙ ports_long channels 2 in
    let port = is_there ports i (omega (arith, l, long, p_long)) in
    let zero : 0 + i ≡ i = omega arith in
    let is = subst (λ n. IsViewOf channels ports fifos n view) zero (each_at (IsViewOf channels ports fifos) 0 views i view are view_at) channel.0 port.0 fifo channel.1 port.1 fifo_at in
    let at : slice_get (fifos_from depths 0 first channels) i ≡ Some fifo = ap (λ fs. slice_get fs i) (sym f) ∙ fifo_at in
    by channel.0.ends port.0 (flat_bits channel.0) fifo view (fifo_kind depths 0 first channels i channel.0 fifo channel.1 at) is
  where
    -- an outer channel has none
    fifo_kind : (ds : List ℕ) (n k : ℕ) (cs : List Channel) (q : ℕ) (c : Channel) (x : Option Fifo) → slice_get cs q ≡ Some c → slice_get (fifos_from ds n k cs) q ≡ Some x → (d w m : ℕ) × (x ≡ fifo_by c.ends d w m)
    fifo_kind ds n k [] q c x there at = absurd (cc)
    fifo_kind ds n k (y ∷ cs) zero c x there at =
        let same : y ≡ c = cc in
        let own : fifo_by y.ends (get_or ds n 0) (flat_bits y) k ≡ x = cc in
        (get_or ds n 0, flat_bits y, k, sym own ∙ ap (λ (z : Channel). fifo_by z.ends (get_or ds n 0) (flat_bits y) k) same)
    fifo_kind ds n k (y ∷ cs) (suc q) c x there at = fifo_kind ds (suc n) _ cs q c x there at

    by : (e : Ends) (port width : ℕ) (x : Option Fifo) (w : ChannelView) → (d u m : ℕ) × (x ≡ fifo_by e d u m) → ViewIs e port width x w → IsShown x w
    by ends.Input port width x w h s = subst (λ y. IsShown y w) (sym h.3) tt
    by ends.Output port width x w h s = subst (λ y. IsShown y w) (sym h.3) tt
    by (ends.Inner z) port width x w h s = s

pub all_next_slices : (a b c : WireList) (ir : Package) (procs : List Proc) (schedules : List Schedule) (fifos fifos' : List (Option Fifo)) (layouts layouts' : List ProcLayout) (views views' : List ChannelView) (made made' : List ProcWires) (sides sides' : List ChannelEnds) (none now nexts : List Atom)
    → procs ≡ ir.procs → fifos' ≡ fifos → layouts' ≡ layouts → views' ≡ views → made' ≡ made → sides' ≡ sides → none ≡ [] → (AreShown fifos' views' → FifosGo a b fifos' views' sides' none now)
    → ((channels : List Channel) (each : List MadeProc) → map (λ (one : MadeProc). one.made) each ≡ made' → length layouts' ≡ length procs → length schedules ≡ length procs → length each ≡ length procs → EachFrom (IsMadeProc channels procs schedules layouts') 0 each
    → ArePutNext b c channels procs schedules layouts' each now nexts)
    → AreShown fifos views → (each : List MadeProc) → map (λ (one : MadeProc). one.made) each ≡ made → length layouts ≡ length ir.procs → length schedules ≡ length ir.procs → length each ≡ length ir.procs
    → EachFrom (IsMadeProc ir.channels ir.procs schedules layouts) 0 each → AllNext a c ir schedules fifos layouts views each sides nexts
all_next_slices a b c ir procs schedules fifos fifos' layouts layouts' views views' made made' sides sides' none now nexts ps fs ls vs ms es empty p q shown each are l_long s_long e_long stages =
    let p_long = ap length ps in
    let laid_long = ap length ls in
    let shown' = subst (λ x. AreShown x views') (sym fs) (subst (AreShown fifos) (sym vs) shown) in
    let go = p shown' in
    let fifos_go = subst (λ x. FifosGo a b x views sides none now) fs (subst (λ x. FifosGo a b fifos' x sides none now) vs (subst (λ x. FifosGo a b fifos' views' x none now) es go)) in
    let stages' = subst (λ x. EachFrom (IsMadeProc ir.channels x schedules layouts') 0 each) (sym ps) (subst (λ x. EachFrom (IsMadeProc ir.channels ir.procs schedules x) 0 each) (sym ls) stages) in
    let next = q ir.channels each (are ∙ sym ms) (omega (arith, p_long, laid_long, l_long)) (omega (arith, p_long, s_long)) (omega (arith, p_long, e_long)) stages' in
    all_next_put a b c ir procs schedules fifos layouts views each sides none now nexts ps empty fifos_go (subst (λ x. ArePutNext b c ir.channels procs schedules x each now nexts) ls next)

-- ---- the module

pub module_made : (m : VModule) (ir : Package) (clock : ℕ) (schedules : List Schedule) (depths : List ℕ) (channels : List Channel) (ports : List Declared) (numbers numbers' : List ℕ) (first : ℕ) (registers : RegisterList) (fifos : List (Option Fifo)) (layouts : List ProcLayout) (a b c : WireList)
    (views : List ChannelView) (made : List ProcWires) (sides sides' : List ChannelEnds) (nexts nexts' : List Atom) → channels ≡ ir.channels → ports ≡ module_ports channels → numbers ≡ ports_from 2 channels → numbers' ≡ numbers → sides' ≡ sides → nexts' ≡ nexts → first ≡ 0 + length ports
    → AllLaid ir schedules depths first registers fifos layouts → next_register registers < 2 ^ 32
    → (length layouts ≡ length ir.procs → length schedules ≡ length ir.procs → AllPut a b ir schedules numbers' fifos layouts views made sides)
    → (AreShown fifos views → (each : List MadeProc) → map (λ (one : MadeProc). one.made) each ≡ made → length layouts ≡ length ir.procs → length schedules ≡ length ir.procs → length each ≡ length ir.procs
    → EachFrom (IsMadeProc ir.channels ir.procs schedules layouts) 0 each → AllNext b c ir schedules fifos layouts views each sides nexts)
    → IsAssembled m ports registers nexts' c (port_drivers channels numbers' sides') → IsVerified ir → AreScheduled clock ir.procs schedules → AreFifoDepths ir.channels depths → IsMadeOfParts m ir clock (map (λ (schedule : Schedule). schedule.stage) schedules) depths
module_made m ir clock schedules depths channels ports numbers numbers' first registers fifos layouts a b c views made sides sides' nexts nexts' cs ps ns ns' es xs f laid few put next assembled verified legal deep =
    let ports_are : ports ≡ module_ports ir.channels = ps ∙ ap module_ports cs in
    let numbers_are : numbers' ≡ ports_from 2 ir.channels = ns' ∙ ns ∙ ap (ports_from 2) cs in
    let long = ap length ports_are in
    let start : first ≡ length (module_ports ir.channels) = omega (arith, f, long) in
    let laid' = subst (λ k. AllLaid ir schedules depths k registers fifos layouts) start laid in
    let many = same_many clock ir.procs schedules legal in
    let l_long = laid_many ir.channels ir.procs schedules layouts _ many laid'.procs in
    let all = subst (λ x. AllPut a b ir schedules x fifos layouts views made sides) numbers_are (put l_long many) in
    let each_count = all.count in
    let shown = shown_all ir.channels (ports_from 2 ir.channels) fifos views depths (length (module_ports ir.channels)) laid'.fifos_are refl all.views_are in
    let go = next shown all.each all.are l_long many (omega (arith, each_count, l_long)) all.stages in
    let whole = subst (λ x. IsAssembled m x registers nexts' c (port_drivers channels numbers' sides')) ports_are assembled in
    let drivers : port_drivers channels numbers' sides' ≡ port_drivers ir.channels (ports_from 2 ir.channels) sides = ap (λ x. port_drivers x numbers' sides') cs ∙ ap₂ (port_drivers ir.channels) numbers_are es in
    put_together m ir clock schedules depths registers fifos layouts a b c views made sides nexts verified legal deep laid' few all go
    (subst (λ x. IsAssembled m (module_ports ir.channels) registers nexts c x) drivers (subst (λ x. IsAssembled m (module_ports ir.channels) registers x c (port_drivers channels numbers' sides')) xs whole))

pub shallow_none : (channels : List Channel) (depths : List ℕ) → ShallowBefore channels depths 0
shallow_none channels depths i channel l there = absurd (omega (arith, l))

here_is : (channels : List Channel) (i : ℕ) (d : Channel) → i < length channels → slice_get channels i ≡ Some (get_or channels i d)
here_is channels i d l = slice_get-get_or channels i d l

pub shallow_more : (channels : List Channel) (depths : List ℕ) (i : ℕ) (d : Channel) (depth : ℕ) (deep : Bool) → i < length channels → depth ≡ get_or depths i 0 → deep ≡ is_deep (get_or channels i d).ends depth → deep ≡ false → ShallowBefore channels depths i
    → ShallowBefore channels depths (i + 1)
shallow_more channels depths i d depth deep l at test is before j other m there = by (cases_eq j i)
  where
    by : (j ≡ i) ⊎ (j ≢ i) → is_deep other.ends (get_or depths j 0) ≡ false
    by (inr ne) = before j other (omega (arith, m, ne)) there
    by (inl e) =
        let same : get_or channels i d ≡ other = (let both : Some (get_or channels i d) ≡ Some other = sym (here_is channels i d l) ∙ ap (slice_get channels) (sym e) ∙ there in cc) in
        ap (λ k. is_deep other.ends (get_or depths k 0)) e ∙ ap (is_deep other.ends) (sym at) ∙ ap (λ (c : Channel). is_deep c.ends depth) (sym same) ∙ sym test ∙ is

pub first_too_deep : (whole channels : List Channel) (depths : List ℕ) (i : ℕ) (d : Channel) (depth : ℕ) (deep : Bool) (limit : Limit) → channels ≡ whole → i < length channels → depth ≡ get_or depths i 0 → deep ≡ is_deep (get_or channels i d).ends depth → deep ≡ true → limit ≡ limit_of depth
    → ShallowBefore channels depths i → IsFirstTooDeep whole depths limit
first_too_deep whole channels depths i d depth deep limit same l at test is passes before =
    subst (λ cs. IsFirstTooDeep cs depths limit) same (first_deep channels depths i depth (get_or channels i d) deep limit (here_is channels i d l) at test is passes before)

pub all_shallow : (whole channels : List Channel) (depths : List ℕ) (i : ℕ) → channels ≡ whole → length channels ≤ i → ShallowBefore channels depths i → NoneTooDeep whole depths
all_shallow whole channels depths i same l before = subst (λ cs. NoneTooDeep cs depths) same (λ j channel there. before j channel (let m = slice_get_within channels j channel there in omega (arith, l, m)) there)

pub ports_counted : (first count : ℕ) (ports : List Port) → first ≡ 0 + count → count ≡ length ports → first ≡ 0 + length (map declared_port ports)
ports_counted first count ports e f = let long = map_long declared_port ports in omega (arith, e, f, long)
  where
    map_long : {A B : Type 0} (g : A → B) (xs : List A) → length (map g xs) ≡ length xs
    map_long g [] = refl
    map_long g (x ∷ xs) = ap suc (map_long g xs)

pub few_registers : (next : ℕ) (registers : RegisterList) → next ≡ next_register registers → next < 2 ^ 32 → next_register registers < 2 ^ 32
few_registers next registers e l = subst (λ n. n < 2 ^ 32) e l

pub ok_then : {A E : Type 0} (o : Result A E) (P Q : A → Type 0) → IfOk o P → ((a : A) → P a → Q a) → IfOk o Q
ok_then (Ok a) P Q h f = f a h
ok_then (Err e) P Q h f = tt

-- ---- names

abbrev AreOwn : List Declared → Type 0
AreOwn xs = AllByRecursion (λ d. IsOwnName d.name) xs

registers_own : (n : ℕ) (registers : List Register) → AreOwn (registers_declared n registers)
registers_own n [] = tt
registers_own n (register ∷ registers) = ((n, refl), registers_own (suc n) registers)

wires_own : (n : ℕ) (wires : List Wire) → AreOwn (wires_declared n wires)
wires_own n [] = tt
wires_own n (wire ∷ wires) = ((n, refl), wires_own (suc n) wires)

both_own : (xs ys : List Declared) → AreOwn xs → AreOwn ys → AreOwn (xs ++ ys)
both_own [] ys h g = g
both_own (x ∷ xs) ys h g = (h.0, both_own xs ys h.1 g)

declared_so : (ds : List Declaration) → AreOwn (map declared_own ds) → AllByRecursion (λ own. IsOwnName own.name) ds
declared_so [] h = tt
declared_so (d ∷ ds) h = (h.0, declared_so ds h.1)

-- registers and wires have numbers as names
pub own_names : (ds : List Declaration) (registers : RegisterList) (wires : WireList) → map declared_own ds ≡ registers_declared registers.first registers.registers.items ++ wires_declared wires.first wires.wires.items
    → AllByRecursion (λ own. IsOwnName own.name) ds
own_names ds registers wires e =
    declared_so ds (subst AreOwn (sym e) (both_own (registers_declared registers.first registers.registers.items) (wires_declared wires.first wires.wires.items) (registers_own registers.first registers.registers.items) (wires_own wires.first wires.wires.items)))
