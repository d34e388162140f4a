-- FIFOs that are laid out, and what their registers hold next.
use Rattle.std.proofs.Common.{◌≡◌, ℕ, suc, ◌+◌, ◌<◌, ◌≤◌, List, [], ◌∷◌, ◌++◌, length, drop, get_or, min, Result, Ok, Err, refl, sym, ap, ap₂, ◌∙◌, subst, arith}
use Rattle.std.specs.Prelude.{slice_get, Option, Some, None, IfOk, OnOk}
use Rattle.std.proofs.lemmas.List.{append_assoc, append-nil, drop_all, length-append}
use Rattle.std.proofs.lemmas.Option.{slice_get-get_or}
use Rattle.ir_tree.specs.declared.package.Channel.{Channel}
use Rattle.vlog_tree.specs.declared.expression.Atom.{Atom}
use Rattle.vlog_tree.specs.Value.{Values}
use Rattle.block_build.specs.declared.netlist.fifos.ChannelEnds.{ChannelEnds}
use Rattle.block_build.specs.declared.netlist.fifos.ChannelView.{ChannelView}
use Rattle.block_build.specs.declared.netlist.fifos.Fifo.{Fifo}
use Rattle.block_build.specs.declared.netlist.registers.Register.{Register}
use Rattle.block_build.specs.declared.netlist.registers.RegisterList.{RegisterList}
use Rattle.block_build.specs.declared.netlist.wires.WireList.{WireList}
use Rattle.block_build.specs.Netlist.Added.{next_number, AddsWires, Puts}
use Rattle.block_build.specs.Netlist.Buffers.{fifo_nets, view_at}
use Rattle.block_build.specs.Netlist.Fifos.{view_wires, count_wires, slot_wires}
use Rattle.block_build.specs.Netlist.Gates.{net}
use Rattle.block_build.specs.Netlist.Registers.{next_register, Lays}
use Rattle.block_build.specs.Netlist.Wires.{AreWired}
use Rattle.block_verilog.specs.Signals.Nodes.{number_of}
use Rattle.block_verilog.specs.Each.{EachFrom}
use Rattle.block_verilog.specs.Ports.{flat_bits}
use Rattle.block_verilog.specs.Queues.{fifo_by, registers_at, all_registers, fifos_from, no_ends, IsShown, ViewIs, ShownBy, ViewedBy, IsViewOf, IsViewed, next_of, all_next, GoesBy, GoesAt, AreShown, FifosGo}
use Rattle.block_verilog.proofs.Lemmas.Each.{behind_there}
use Rattle.block_verilog.proofs.Lemmas.Each.{longer, wires_more, one_there}

-- ---- registers

nothing_more : (a : RegisterList) → Lays a a []
nothing_more a = record { first = refl; laid = sym (append-nil a.registers.items) }

lays_behind : (a b c : RegisterList) (xs ys : List Register) → Lays a b xs → Lays b c ys → Lays a c (xs ++ ys)
lays_behind a b c xs ys p q = record { first = q.first ∙ p.first; laid = q.laid ∙ ap (λ zs. zs ++ ys) p.laid ∙ append_assoc a.registers.items xs ys }

pub next_behind : (a b : RegisterList) (xs : List Register) → Lays a b xs → next_register b ≡ next_register a + length xs
next_behind a b xs p =
    ap (λ k. k + length b.registers.items) p.first ∙ ap (λ zs. a.first + length zs) p.laid ∙ ap (λ k. a.first + k) (length-append a.registers.items xs) ∙ here a.first (length a.registers.items) (length xs)
  where
    here : (i j k : ℕ) → i + (j + k) ≡ i + j + k
    here i j k = omega arith

-- what is laid so far, and what is left
pub record FifosLeft (a b : RegisterList) (depths : List ℕ) (channels : List Channel) (i : ℕ) (fifos : List (Option Fifo)) : Type 0 where
  pub are : fifos ++ fifos_from depths i (next_register b) (drop i channels) ≡ fifos_from depths 0 (next_register a) channels
  pub lay : (c : RegisterList) → Lays b c (all_registers depths i (drop i channels)) → Lays a c (all_registers depths 0 channels)

pub fifos_begun : (a : RegisterList) (depths : List ℕ) (channels : List Channel) (fifos : List (Option Fifo)) → fifos ≡ [] → FifosLeft a a depths channels 0 fifos
fifos_begun a depths channels fifos e = record { are = ap (λ fs. fs ++ fifos_from depths 0 (next_register a) channels) e; lay = λ c p. p }

pub fifos_more : (a b c : RegisterList) (depths : List ℕ) (channels : List Channel) (i depth : ℕ) (channel : Channel) (fifo : Option Fifo) (fifos more : List (Option Fifo)) → i < length channels → channel ≡ get_or channels i channel → depth ≡ get_or depths i 0
    → FifosLeft a b depths channels i fifos → fifo ≡ fifo_by channel.ends depth (flat_bits channel) (next_register b) → Lays b c (registers_at depths i channel) → more ≡ fifos ++ fifo ∷ []
    → FifosLeft a c depths channels (i + 1) more
fifos_more a b c depths channels i depth channel fifo fifos more l is deep p made q put =
    let one : suc i ≡ i + 1 = omega arith in
    let own = registers_at depths i channel in
    let rest = drop (i + 1) channels in
    let left = behind_there channels i channel l is in
    let here : fifo ≡ fifo_by channel.ends (get_or depths i 0) (flat_bits channel) (next_register b) = made ∙ ap (λ d. fifo_by channel.ends d (flat_bits channel) (next_register b)) deep in
    record {
      are =
          ap₂ (λ fs k. fs ++ fifos_from depths (i + 1) k rest) (put ∙ ap (λ f. fifos ++ f ∷ []) here) (next_behind b c own q)
          ∙ append_assoc fifos (fifo_by channel.ends (get_or depths i 0) (flat_bits channel) (next_register b) ∷ []) (fifos_from depths (i + 1) (next_register b + length own) rest)
          ∙ ap (λ n. fifos ++ fifo_by channel.ends (get_or depths i 0) (flat_bits channel) (next_register b) ∷ fifos_from depths n (next_register b + length own) rest) (sym one)
          ∙ ap (λ cs. fifos ++ fifos_from depths i (next_register b) cs) (sym left)
          ∙ p.are;
      lay = λ d r.
          let sooner = subst (λ n. Lays c d (all_registers depths n rest)) (sym one) r in
          p.lay d (subst (λ cs. Lays b d (all_registers depths i cs)) (sym left) (lays_behind b c d own (all_registers depths (suc i) rest) q sooner));
    }

pub fifos_done : (a b : RegisterList) (depths : List ℕ) (channels : List Channel) (i : ℕ) (fifos : List (Option Fifo)) → length channels ≤ i → FifosLeft a b depths channels i fifos
    → (fifos ≡ fifos_from depths 0 (next_register a) channels) × Lays a b (all_registers depths 0 channels)
fifos_done a b depths channels i fifos l p =
    let none = drop_all i channels l in (
      sym (append-nil fifos) ∙ ap (λ cs. fifos ++ fifos_from depths i (next_register b) cs) (sym none) ∙ p.are,
      p.lay b (subst (λ cs. Lays b b (all_registers depths i cs)) (sym none) (nothing_more b)),
    )

pub nothing_laid : {A E : Type 0} (o : Result A E) (a : RegisterList) → OnOk o (Lays a a [])
nothing_laid (Ok x) a = nothing_more a
nothing_laid (Err e) a = tt

-- ---- what is found at channels

pub shown_at : {E : Type 0} (o : Result ChannelView E) (a b : WireList) (fifo : Fifo) → IfOk o (λ view. view ≡ view_at fifo (next_number a)) → OnOk o ((end : ChannelEnds) (first goes : ℕ) → Puts a b (view_wires (fifo_nets fifo end first goes)))
    → IfOk o (IsShown (Some fifo)) × IfOk o (λ view. AddsWires a b (λ v. ShownBy v (Some fifo) view))
shown_at (Err e) a b fifo is puts = (tt, tt)
shown_at (Ok view) a b fifo is puts =
    let number : number_of view.valid ≡ next_number a = ap (λ (w : ChannelView). number_of w.valid) is in (
      is ∙ ap (view_at fifo) (sym number),
      λ v h.
          let both = (puts no_ends (number_of view.valid) 0).wired v h in
          (both.0, subst (λ k. AreWired v k (view_wires (fifo_nets fifo no_ends (number_of view.valid) 0))) (sym number) both.1),
    )

-- what stands in no wires
pub without_wires : {E : Type 0} (o : Result ChannelView E) (a : WireList) (P : Values → ChannelView → Type 0) → ((v : Values) (view : ChannelView) → P v view) → IfOk o (λ view. AddsWires a a (λ v. P v view))
without_wires (Ok view) a P p = λ v h. (h, p v view)
without_wires (Err e) a P p = tt

pub view_is : (channels : List Channel) (ports : List ℕ) (fifos : List (Option Fifo)) (i port : ℕ) (channel : Channel) (fifo : Option Fifo) (view : ChannelView) → i < length channels → i < length ports → i < length fifos
    → channel ≡ get_or channels i channel → port ≡ get_or ports i port → fifo ≡ get_or fifos i fifo → ViewIs channel.ends port (flat_bits channel) fifo view → IsViewOf channels ports fifos i view
view_is channels ports fifos i port channel fifo view l m n c_is p_is f_is is = λ d q g c_there p_there f_there.
    let c_same = one_there channels i channel l (there channels i channel l c_is) d c_there in
    let p_same = one_there ports i port m (there ports i port m p_is) q p_there in
    let f_same = one_there fifos i fifo n (there fifos i fifo n f_is) g f_there in
    subst (λ x. ViewIs x.ends q (flat_bits x) g view) c_same (subst (λ x. ViewIs channel.ends x (flat_bits channel) g view) p_same (subst (λ x. ViewIs channel.ends port (flat_bits channel) x view) f_same is))
  where
    there : {A : Type 0} (xs : List A) (k : ℕ) (x : A) → k < length xs → x ≡ get_or xs k x → slice_get xs k ≡ Some x
    there xs k x lt e = slice_get-get_or xs k x lt ∙ ap Some (sym e)

pub viewed : (a b : WireList) (channels : List Channel) (fifos : List (Option Fifo)) (i : ℕ) (channel : Channel) (fifo : Option Fifo) (view : ChannelView) → i < length channels → i < length fifos
    → channel ≡ get_or channels i channel → fifo ≡ get_or fifos i fifo → AddsWires a b (λ v. ViewedBy v channel.ends fifo view) → AddsWires a b (λ v. IsViewed v channels fifos i view)
viewed a b channels fifos i channel fifo view l n c_is f_is p = λ v h. (
  (p v h).0,
  λ d g c_there f_there.
      let c_same = one_there channels i channel l (there channels i channel l c_is) d c_there in
      let f_same = one_there fifos i fifo n (there fifos i fifo n f_is) g f_there in
      subst (λ x. ViewedBy v x.ends g view) c_same (subst (λ x. ViewedBy v channel.ends x view) f_same (p v h).1),
)
  where
    there : {A : Type 0} (xs : List A) (k : ℕ) (x : A) → k < length xs → x ≡ get_or xs k x → slice_get xs k ≡ Some x
    there xs k x lt e = slice_get-get_or xs k x lt ∙ ap Some (sym e)

-- ---- what FIFOs hold next

pub fifo_goes : {A E : Type 0} (o : Result A E) (a b : WireList) (fifo : Fifo) (view : ChannelView) (end : ChannelEnds)
    → OnOk o ((first : ℕ) → view.valid ≡ net first → view.room ≡ net (suc first) → let nets = fifo_nets fifo end first (next_number a) in
    AddsWires a b (λ v. AreWired v nets.goes (count_wires nets) × ((x : ℕ) → x < nets.depth → AreWired v (nets.next x) (slot_wires nets x))))
    → OnOk o (IsShown (Some fifo) view → AddsWires a b (λ v. GoesBy v (Some fifo) view end (next_number a)))
fifo_goes (Err e) a b fifo view end p = tt
fifo_goes (Ok u) a b fifo view end p = λ shown v h.
    let first = number_of view.valid in
    let both = p first (ap (λ (w : ChannelView). w.valid) shown) (ap (λ (w : ChannelView). w.room) shown) v h in
    (both.0, record { count = both.1.0; slots = both.1.1 })

pub nothing_goes : {A E : Type 0} (o : Result A E) (a : WireList) (view : ChannelView) (end : ChannelEnds) → OnOk o (IsShown None view → AddsWires a a (λ v. GoesBy v None view end (next_number a)))
nothing_goes (Ok u) a view end = λ shown v h. (h, tt)
nothing_goes (Err e) a view end = tt

-- what is put so far, and what is left
pub record NextsLeft (a b : WireList) (fifos : List (Option Fifo)) (views : List ChannelView) (sides : List ChannelEnds) (i : ℕ) (old now : List Atom) : Type 0 where
  pub goes : List ℕ
  pub count : length goes ≡ i
  pub nexts : (rest : List ℕ) → now ++ all_next (drop i fifos) (drop i sides) rest ≡ old ++ all_next fifos sides (goes ++ rest)
  pub wired : AddsWires a b (λ v. EachFrom (GoesAt v fifos views sides) 0 goes)

pub nexts_begun : (a : WireList) (fifos : List (Option Fifo)) (views : List ChannelView) (sides : List ChannelEnds) (old : List Atom) → NextsLeft a a fifos views sides 0 old old
nexts_begun a fifos views sides old = record { goes = []; count = refl; nexts = λ rest. refl; wired = λ v h. (h, tt) }

goes_on : (a b : WireList) (fifos : List (Option Fifo)) (views : List ChannelView) (sides : List ChannelEnds) (i : ℕ) (fifo : Option Fifo) (view : ChannelView) (end : ChannelEnds) (g : ℕ)
    → i < length fifos → i < length views → i < length sides → slice_get fifos i ≡ Some fifo → slice_get views i ≡ Some view → slice_get sides i ≡ Some end → AddsWires a b (λ v. GoesBy v fifo view end g) → AddsWires a b (λ v. GoesAt v fifos views sides i g)
goes_on a b fifos views sides i fifo view end g l m n f_is v_is e_is p = λ v h. (
  (p v h).0,
  λ f w e f_there v_there e_there.
      subst (λ x. GoesBy v x w e g) (one_there fifos i fifo l f_is f f_there)
      (subst (λ x. GoesBy v fifo x e g) (one_there views i view m v_is w v_there) (subst (λ x. GoesBy v fifo view x g) (one_there sides i end n e_is e e_there) (p v h).1)),
)

pub nexts_more : (a b c : WireList) (fifos : List (Option Fifo)) (views : List ChannelView) (sides : List ChannelEnds) (i : ℕ) (fifo : Option Fifo) (view : ChannelView) (end : ChannelEnds) (old now more : List Atom)
    → i < length fifos → i < length views → i < length sides → fifo ≡ get_or fifos i fifo → view ≡ get_or views i view → end ≡ get_or sides i end → AreShown fifos views
    → NextsLeft a b fifos views sides i old now → more ≡ now ++ next_of fifo end (next_number b) → (IsShown fifo view → AddsWires b c (λ v. GoesBy v fifo view end (next_number b)))
    → NextsLeft a c fifos views sides (i + 1) old more
nexts_more a b c fifos views sides i fifo view end old now more l m n f_is v_is e_is shown p put goes =
    let f_there = slice_get-get_or fifos i fifo l ∙ ap Some (sym f_is) in
    let v_there = slice_get-get_or views i view m ∙ ap Some (sym v_is) in
    let e_there = slice_get-get_or sides i end n ∙ ap Some (sym e_is) in
    let g = next_number b in
    record {
      goes = p.goes ++ g ∷ [];
      count = longer p.goes (p.goes ++ g ∷ []) g i p.count refl;
      nexts = λ rest.
          ap (λ xs. xs ++ all_next (drop (i + 1) fifos) (drop (i + 1) sides) rest) put
          ∙ append_assoc now (next_of fifo end g) (all_next (drop (i + 1) fifos) (drop (i + 1) sides) rest)
          ∙ ap₂ (λ fs es. now ++ all_next fs es (g ∷ rest)) (sym (behind_there fifos i fifo l f_is)) (sym (behind_there sides i end n e_is))
          ∙ p.nexts (g ∷ rest)
          ∙ ap (λ gs. old ++ all_next fifos sides gs) (sym (append_assoc p.goes (g ∷ []) rest));
      wired = wires_more a b c (λ v. GoesAt v fifos views sides) i p.goes (p.goes ++ g ∷ []) g p.count refl p.wired
          (goes_on b c fifos views sides i fifo view end g l m n f_there v_there e_there (goes (shown i fifo view f_there v_there)));
    }

none_next : (fifos : List (Option Fifo)) (sides : List ChannelEnds) → all_next fifos sides [] ≡ []
none_next [] sides = refl
none_next (f ∷ fifos) [] = refl
none_next (f ∷ fifos) (e ∷ sides) = refl

pub nexts_done : (a b : WireList) (fifos : List (Option Fifo)) (views : List ChannelView) (sides : List ChannelEnds) (i : ℕ) (old now : List Atom) → i ≡ min (min (length fifos) (length views)) (length sides)
    → NextsLeft a b fifos views sides i old now → FifosGo a b fifos views sides old now
nexts_done a b fifos views sides i old now end p = record {
  goes = p.goes;
  count = p.count ∙ end;
  nexts = sym (append-nil now) ∙ ap (λ xs. now ++ xs) (sym (none_next (drop i fifos) (drop i sides))) ∙ p.nexts [] ∙ ap (λ gs. old ++ all_next fifos sides gs) (append-nil p.goes);
  wired = p.wired;
}
