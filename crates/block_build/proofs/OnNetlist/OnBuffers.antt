-- What is put for FIFOs.
use Rattle.std.proofs.Common.{◌≡◌, ℕ, suc, ◌+◌, ◌-◌, ◌*◌, ◌<◌, ◌≤◌, ◌^◌, min, List, [], ◌∷◌, ◌++◌, Result, Ok, Err, refl, sym, ap, ◌∙◌, subst, arith, ⊎_elim}
use Rattle.std.specs.Prelude.{IfOk, OnOk}
use Rattle.std.proofs.lemmas.Bool.{cases_lt}
use Rattle.std.proofs.lemmas.List.{append_assoc}
use Rattle.vlog_tree.specs.declared.expression.Atom.{Atom}
use Rattle.vlog_tree.specs.declared.expression.Binary.TheVariants as binary
use Rattle.vlog_tree.specs.Value.{Values}
use Rattle.block_build.specs.declared.netlist.fifos.ChannelEnds.{ChannelEnds}
use Rattle.block_build.specs.declared.netlist.fifos.ChannelView.{ChannelView}
use Rattle.block_build.specs.declared.netlist.fifos.Fifo.{Fifo}
use Rattle.block_build.specs.declared.netlist.fifos.Flow.{Flow}
use Rattle.block_build.specs.declared.netlist.wires.WireList.{WireList}
use Rattle.block_build.specs.Netlist.Added.{next_number, AddsWires, Puts, PutsNet}
use Rattle.block_build.specs.Netlist.Buffers.{fifo_slot, fifo_nets, view_at, flow_at, slots_next}
use Rattle.block_build.specs.Netlist.Fifos.{view_wires, count_wires, count_net, slot_wires, slot_net}
use Rattle.block_build.specs.Netlist.Gates.{net, and_gate, binary_gate, choice_gate}
use Rattle.block_build.specs.Netlist.Literals.{literal_atom}
use Rattle.block_build.specs.Netlist.Wires.{AreWired}
use Rattle.block_build.proofs.OnNetlist.OnAdded.{puts_both, number_behind, puts_nothing, puts_more}

-- ---- what is in it

pub record Viewed (a c : WireList) (fifo : Fifo) (valid word room : Atom) : Type 0 where
  pub signals : ◌≡◌ {A = ChannelView} (record { valid = valid; word = word; room = room }) (view_at fifo (next_number a))
  pub puts : (ends : ChannelEnds) (first goes : ℕ) → Puts a c (view_wires (fifo_nets fifo ends first goes))

pub view_put : (a b c : WireList) (fifo : Fifo) (zero_number depth valid word room : Atom) → zero_number ≡ literal_atom fifo.count_width 0 → depth ≡ literal_atom fifo.count_width fifo.depth → word ≡ fifo_slot fifo 0
    → PutsNet a b (binary_gate 1 binary.NotEqual fifo.count zero_number) valid → PutsNet b c (binary_gate 1 binary.NotEqual fifo.count depth) room → Viewed a c fifo valid word room
view_put a b c fifo zero_number depth valid word room z d s p q =
    let x = binary_gate 1 binary.NotEqual fifo.count (literal_atom fifo.count_width 0) in
    let y = binary_gate 1 binary.NotEqual fifo.count (literal_atom fifo.count_width fifo.depth) in
    let one = puts_more a a b [] x valid (next_number a) (puts_nothing a) (subst (λ t. PutsNet a b (binary_gate 1 binary.NotEqual fifo.count t) valid) z p) in
    let two = puts_more a b c (x ∷ []) y room (suc (next_number a)) one.1 (subst (λ t. PutsNet b c (binary_gate 1 binary.NotEqual fifo.count t) room) d q) in
    record { signals = λ i. record { valid = one.0 i; word = s i; room = two.0 i }; puts = λ ends first goes. two.1.puts }

-- ---- its count

pub grown_put : {E : Type 0} (o : Result Atom E) (a b c : WireList) (w : ℕ) (takes between number more : Atom) → number ≡ literal_atom w 1 → PutsNet a b (binary_gate w binary.Add between number) more
    → IfOk o (PutsNet b c (choice_gate w takes more between))
    → IfOk o (λ count. count ≡ net (suc (next_number a))) × OnOk o (Puts a c (binary_gate w binary.Add between (literal_atom w 1) ∷ choice_gate w takes (net (next_number a)) between ∷ []))
grown_put (Ok r) a b c w takes between number more is p q =
    let x = binary_gate w binary.Add between (literal_atom w 1) in
    let one = puts_more a a b [] x more (next_number a) (puts_nothing a) (subst (λ t. PutsNet a b (binary_gate w binary.Add between t) more) is p) in
    let two = puts_more a b c (x ∷ []) (choice_gate w takes (net (next_number a)) between) r (suc (next_number a)) one.1 (subst (λ t. PutsNet b c (choice_gate w takes t between) r) one.0 q) in
    (two.0, two.1.puts)
grown_put (Err z) a b c w takes between number more is p q = (tt, tt)

pub record Flowed (a f : WireList) (fifo : Fifo) (view : ChannelView) (ends : ChannelEnds) (gives takes between count : Atom) : Type 0 where
  pub signals : ◌≡◌ {A = Flow} (record { gives = gives; takes = takes; between = between; count = count }) (flow_at (next_number a))
  pub puts : (first : ℕ) → view.valid ≡ net first → view.room ≡ net (suc first) → Puts a f (count_wires (fifo_nets fifo ends first (next_number a)))
  pub number : next_number f ≡ next_number a + 6

pub flow_put : (a b c d e f : WireList) (fifo : Fifo) (view : ChannelView) (ends : ChannelEnds) (number gives takes less between count : Atom) → number ≡ literal_atom fifo.count_width 1
    → PutsNet a b (and_gate ends.ready view.valid) gives → PutsNet b c (and_gate ends.offered view.room) takes → PutsNet c d (binary_gate fifo.count_width binary.Subtract fifo.count number) less
    → PutsNet d e (choice_gate fifo.count_width gives less fifo.count) between → count ≡ net (suc (next_number e))
    → Puts e f (binary_gate fifo.count_width binary.Add between (literal_atom fifo.count_width 1) ∷ choice_gate fifo.count_width takes (net (next_number e)) between ∷ [])
    → Flowed a f fifo view ends gives takes between count
flow_put a b c d e f fifo view ends number gives takes less between count is p q g h number_is rest =
    let k = next_number a in
    let w = fifo.count_width in
    let w1 = and_gate ends.ready view.valid in
    let w2 = and_gate ends.offered view.room in
    let w3 = binary_gate w binary.Subtract fifo.count (literal_atom w 1) in
    let w4 = choice_gate w (net k) (net (suc (suc k))) fifo.count in
    let one = puts_more a a b [] w1 gives k (puts_nothing a) p in
    let two = puts_more a b c (w1 ∷ []) w2 takes (suc k) one.1 q in
    let three = puts_more a c d (w1 ∷ w2 ∷ []) w3 less (suc (suc k)) two.1 (subst (λ t. PutsNet c d (binary_gate w binary.Subtract fifo.count t) less) is g) in
    let chosen = subst (λ t. PutsNet d e (choice_gate w (net k) t fifo.count) between) three.0 (subst (λ t. PutsNet d e (choice_gate w t less fifo.count) between) one.0 h) in
    let four = puts_more a d e (w1 ∷ w2 ∷ w3 ∷ []) w4 between (suc (suc (suc k))) three.1 chosen in
    let behind : next_number e ≡ suc (suc (suc (suc k))) = four.1.next in
    let b4 = net (suc (suc (suc k))) in
    let left = subst (λ t. Puts e f (binary_gate w binary.Add t (literal_atom w 1) ∷ choice_gate w takes (net (next_number e)) t ∷ [])) four.0 rest in
    let taken = subst (λ t. Puts e f (binary_gate w binary.Add b4 (literal_atom w 1) ∷ choice_gate w t (net (next_number e)) b4 ∷ [])) two.0 left in
    let numbered = subst (λ n. Puts e f (binary_gate w binary.Add b4 (literal_atom w 1) ∷ choice_gate w (net (suc k)) (net n) b4 ∷ [])) behind taken in
    let all = puts_both a e f (w1 ∷ w2 ∷ w3 ∷ w4 ∷ []) (binary_gate w binary.Add b4 (literal_atom w 1) ∷ choice_gate w (net (suc k)) (net (suc (suc (suc (suc k))))) b4 ∷ []) four.1.puts numbered in
    record {
      signals = λ i. record { gives = one.0 i; takes = two.0 i; between = four.0 i; count = (number_is ∙ ap (λ n. net (suc n)) behind) i };
      puts = λ first valid room.
          subst (λ t. Puts a f (and_gate ends.ready (net first) ∷ and_gate ends.offered t ∷ w3 ∷ w4 ∷ binary_gate w binary.Add b4 (literal_atom w 1) ∷ choice_gate w (net (suc k)) (net (suc (suc (suc (suc k))))) b4 ∷ [])) room
          (subst (λ t. Puts a f (and_gate ends.ready t ∷ w2 ∷ w3 ∷ w4 ∷ binary_gate w binary.Add b4 (literal_atom w 1) ∷ choice_gate w (net (suc k)) (net (suc (suc (suc (suc k))))) b4 ∷ [])) valid all);
      number = number_behind a f (w1 ∷ w2 ∷ w3 ∷ w4 ∷ binary_gate w binary.Add b4 (literal_atom w 1) ∷ choice_gate w (net (suc k)) (net (suc (suc (suc (suc k))))) b4 ∷ []) all;
    }

-- ---- a slot

pub slot_next_is : (fifo : Fifo) (x : ℕ) → fifo_slot fifo (x + 1) ≡ fifo_slot fifo (suc x)
slot_next_is fifo x = let e : x + 1 ≡ suc x = omega arith in ap (fifo_slot fifo) e

-- behind the last slot is the last slot
pub slot_last : (fifo : Fifo) (x : ℕ) → fifo.depth - 1 ≤ x → fifo_slot fifo x ≡ fifo_slot fifo (suc x)
slot_last fifo x l = let e : min x (fifo.depth - 1) ≡ min (suc x) (fifo.depth - 1) = omega (arith, l) in ap (λ n. net (min (fifo.slots + n) (2 ^ 32 - 1))) e

pub slot_put : {E : Type 0} (o : Result Atom E) (a b c d e : WireList) (fifo : Fifo) (x : ℕ) (flow : Flow) (word number behind here free comes shifted : Atom) → number ≡ literal_atom fifo.count_width x → behind ≡ fifo_slot fifo (suc x) → here ≡ fifo_slot fifo x
    → PutsNet a b (binary_gate 1 binary.Equal flow.between number) free → PutsNet b c (and_gate flow.takes free) comes → PutsNet c d (choice_gate fifo.width flow.gives behind here) shifted
    → IfOk o (PutsNet d e (choice_gate fifo.width comes word shifted))
    → IfOk o (λ next. next ≡ net (suc (suc (suc (next_number a)))))
    × OnOk o ((ends : ChannelEnds) (first goes : ℕ) → flow ≡ flow_at goes → next_number a ≡ goes + 6 + 4 * x → ends.word ≡ word → Puts a e (slot_wires (fifo_nets fifo ends first goes) x))
slot_put (Ok r) a b c d e fifo x flow word number behind here free comes shifted n s t p q g h =
    let k = next_number a in
    let w1 = binary_gate 1 binary.Equal flow.between (literal_atom fifo.count_width x) in
    let w2 = and_gate flow.takes (net k) in
    let w3 = choice_gate fifo.width flow.gives (fifo_slot fifo (suc x)) (fifo_slot fifo x) in
    let w4 = choice_gate fifo.width (net (suc k)) word (net (suc (suc k))) in
    let one = puts_more a a b [] w1 free k (puts_nothing a) (subst (λ y. PutsNet a b (binary_gate 1 binary.Equal flow.between y) free) n p) in
    let two = puts_more a b c (w1 ∷ []) w2 comes (suc k) one.1 (subst (λ y. PutsNet b c (and_gate flow.takes y) comes) one.0 q) in
    let moved = subst (λ y. PutsNet c d (choice_gate fifo.width flow.gives (fifo_slot fifo (suc x)) y) shifted) t (subst (λ y. PutsNet c d (choice_gate fifo.width flow.gives y here) shifted) s g) in
    let three = puts_more a c d (w1 ∷ w2 ∷ []) w3 shifted (suc (suc k)) two.1 moved in
    let last = subst (λ y. PutsNet d e (choice_gate fifo.width (net (suc k)) word y) r) three.0 (subst (λ y. PutsNet d e (choice_gate fifo.width y word shifted) r) two.0 h) in
    let four = puts_more a d e (w1 ∷ w2 ∷ w3 ∷ []) w4 r (suc (suc (suc k))) three.1 last in (
      four.0,
      λ ends first goes is at word_is.
          let put = subst (λ y. Puts a e (binary_gate 1 binary.Equal y.between (literal_atom fifo.count_width x) ∷ and_gate y.takes (net k) ∷ choice_gate fifo.width y.gives (fifo_slot fifo (suc x)) (fifo_slot fifo x) ∷ w4 ∷ [])) is four.1.puts in
          let numbered = subst (λ m. Puts a e (binary_gate 1 binary.Equal (net (suc (suc (suc goes)))) (literal_atom fifo.count_width x) ∷ and_gate (net (suc goes)) (net m) ∷ choice_gate fifo.width (net goes) (fifo_slot fifo (suc x)) (fifo_slot fifo x)
          ∷ choice_gate fifo.width (net (suc m)) word (net (suc (suc m))) ∷ [])) at put in
          subst (λ y. Puts a e (binary_gate 1 binary.Equal (net (suc (suc (suc goes)))) (literal_atom fifo.count_width x) ∷ and_gate (net (suc goes)) (net (goes + 6 + 4 * x)) ∷ choice_gate fifo.width (net goes) (fifo_slot fifo (suc x)) (fifo_slot fifo x)
          ∷ choice_gate fifo.width (net (suc (goes + 6 + 4 * x))) y (net (suc (suc (goes + 6 + 4 * x)))) ∷ [])) (sym word_is) numbered,
    )
slot_put (Err z) a b c d e fifo x flow word number behind here free comes shifted n s t p q g h = (tt, tt)

-- ---- all slots

-- what is put so far
pub record SlotsPut (a b : WireList) (fifo : Fifo) (view : ChannelView) (ends : ChannelEnds) (x : ℕ) (old nexts : List Atom) : Type 0 where
  pub number : next_number b ≡ next_number a + 6 + 4 * x
  pub signals : (first : ℕ) → let nets = fifo_nets fifo ends first (next_number a) in nexts ++ slots_next nets x (fifo.depth - x) ≡ old ++ (net (count_net nets) ∷ slots_next nets 0 fifo.depth)
  pub wired : (first : ℕ) → view.valid ≡ net first → view.room ≡ net (suc first) → let nets = fifo_nets fifo ends first (next_number a) in
      AddsWires a b (λ v. AreWired v (next_number a) (count_wires nets) × ((y : ℕ) → y < x → AreWired v (nets.next y) (slot_wires nets y)))

pub slots_begun : (a b : WireList) (fifo : Fifo) (view : ChannelView) (ends : ChannelEnds) (flow : Flow) (old nexts : List Atom) → flow ≡ flow_at (next_number a)
    → ((first : ℕ) → view.valid ≡ net first → view.room ≡ net (suc first) → Puts a b (count_wires (fifo_nets fifo ends first (next_number a)))) → nexts ≡ old ++ flow.count ∷ [] → next_number b ≡ next_number a + 6
    → SlotsPut a b fifo view ends 0 old nexts
slots_begun a b fifo view ends flow old nexts is put grown number = record {
  number = omega (arith, number);
  signals = λ first.
      ap (λ xs. xs ++ slots_next (fifo_nets fifo ends first (next_number a)) 0 (fifo.depth - 0)) grown
      ∙ append_assoc old (flow.count ∷ []) (slots_next (fifo_nets fifo ends first (next_number a)) 0 (fifo.depth - 0))
      ∙ ap (λ (y : Flow). old ++ (y.count ∷ slots_next (fifo_nets fifo ends first (next_number a)) 0 (fifo.depth - 0))) is
      ∙ ap (λ n. old ++ (net (count_net (fifo_nets fifo ends first (next_number a))) ∷ slots_next (fifo_nets fifo ends first (next_number a)) 0 n)) (whole fifo.depth);
  wired = λ first valid room v h. let both = (put first valid room).wired v h in (both.0, (both.1, λ y l. absurd (omega (arith, l))));
}
  where
    whole : (n : ℕ) → n - 0 ≡ n
    whole n = omega arith

pub slots_more : (a b c : WireList) (fifo : Fifo) (view : ChannelView) (ends : ChannelEnds) (x : ℕ) (old nexts more : List Atom) (next : Atom) (flow : Flow) → x < fifo.depth → flow ≡ flow_at (next_number a) → SlotsPut a b fifo view ends x old nexts
    → next ≡ net (suc (suc (suc (next_number b))))
    → ((given : ChannelEnds) (first goes : ℕ) → flow ≡ flow_at goes → next_number b ≡ goes + 6 + 4 * x → given.word ≡ ends.word → Puts b c (slot_wires (fifo_nets fifo given first goes) x))
    → more ≡ nexts ++ next ∷ [] → SlotsPut a c fifo view ends (x + 1) old more
slots_more a b c fifo view ends x old nexts more next flow l is p next_is put grown =
    let k = next_number a in
    let behind = number_behind b c (slot_wires (fifo_nets fifo ends 0 k) x) (put ends 0 k is p.number refl) in
    let before = p.number in
    let one : fifo.depth - x ≡ suc (fifo.depth - (x + 1)) = omega (arith, l) in
    let two : suc x ≡ x + 1 = omega arith in
    record {
      number = omega (arith, behind, before);
      signals = λ first.
          let nets = fifo_nets fifo ends first k in
          ap (λ xs. xs ++ slots_next nets (x + 1) (fifo.depth - (x + 1))) grown
          ∙ append_assoc nexts (next ∷ []) (slots_next nets (x + 1) (fifo.depth - (x + 1)))
          ∙ ap (λ t. nexts ++ (t ∷ slots_next nets (x + 1) (fifo.depth - (x + 1)))) (next_is ∙ ap (λ n. net (suc (suc (suc n)))) p.number)
          ∙ ap (λ n. nexts ++ (net (slot_net nets x) ∷ slots_next nets n (fifo.depth - (x + 1)))) (sym two)
          ∙ ap (λ n. nexts ++ slots_next nets x n) (sym one)
          ∙ p.signals first;
      wired = λ first valid room v h.
          let later = (put ends first k is p.number refl).wired v h in
          let sooner = p.wired first valid room v later.0 in
          (sooner.0, (sooner.1.0, λ y less. ⊎_elim (λ small. sooner.1.1 y small) (λ past. at first v y (same y less past) later.1) (cases_lt y x)));
    }
  where
    same : (y : ℕ) → y < x + 1 → x ≤ y → x ≡ y
    same y less past = omega (arith, less, past)

    at : (first : ℕ) (v : Values) (y : ℕ) → x ≡ y → AreWired v (next_number b) (slot_wires (fifo_nets fifo ends first (next_number a)) x) → AreWired v (next_number a + 6 + 4 * y) (slot_wires (fifo_nets fifo ends first (next_number a)) y)
    at first v y e h =
        subst (λ z. AreWired v (next_number a + 6 + 4 * z) (slot_wires (fifo_nets fifo ends first (next_number a)) z)) e (subst (λ n. AreWired v n (slot_wires (fifo_nets fifo ends first (next_number a)) x)) p.number h)

pub slots_wired : (a b : WireList) (fifo : Fifo) (view : ChannelView) (ends : ChannelEnds) (x : ℕ) (old nexts : List Atom) → fifo.depth ≤ x → SlotsPut a b fifo view ends x old nexts
    → (first : ℕ) → view.valid ≡ net first → view.room ≡ net (suc first) → let nets = fifo_nets fifo ends first (next_number a) in
    AddsWires a b (λ v. AreWired v (next_number a) (count_wires nets) × ((y : ℕ) → y < fifo.depth → AreWired v (nets.next y) (slot_wires nets y)))
slots_wired a b fifo view ends x old nexts past p first valid room = λ v h.
    let both = p.wired first valid room v h in
    (both.0, (both.1.0, λ y l. both.1.1 y (omega (arith, l, past))))
