-- FIFOs that are put for the inner channels of a package.
use Rattle.std.proofs.Common.{◌≡◌, ℕ, zero, suc, ◌+◌, ◌*◌, ◌-◌, ◌<◌, ◌≤◌, ◌^◌, max, min, nat_lt, true, cond, List, [], ◌∷◌, ◌++◌, length, map, get_or, refl, sym, ap, ap₂, ◌∙◌, subst, arith}
use Rattle.std.specs.Prelude.{slice_get, Some}
use Rattle.std.specs.Int.Count.{count_leading_zeros}
use Rattle.std.proofs.lemmas.Bool.Decides.{nat_tests}
use Rattle.std.proofs.lemmas.List.{length-append, length-replicate}
use Rattle.std.proofs.lemmas.Nat.{leading_length, pow_pos, pow-add}
use Rattle.xb_bits.specs.Word.{word}
use Rattle.net_core.specs.declared.net.Kind.TheVariants.{Inner}
use Rattle.ir_tree.specs.declared.package.Channel.{Channel}
use Rattle.ir_tree.specs.declared.package.Ends.{Ends}
use Rattle.ir_tree.specs.declared.package.Ends.TheVariants as ends
use Rattle.ir_tree.specs.Networks.{kind_of}
use Rattle.vlog_tree.specs.Value.{Values, atom_value}
use Rattle.block_build.specs.declared.netlist.fifos.ChannelEnds.{ChannelEnds}
use Rattle.block_build.specs.declared.netlist.fifos.ChannelView.{ChannelView}
use Rattle.block_build.specs.declared.netlist.fifos.Fifo.{Fifo}
use Rattle.block_build.specs.declared.netlist.registers.Register.{Register}
use Rattle.block_build.specs.Netlist.Blocks.{ChannelNets, FifoMade, FifoGoesOn}
use Rattle.block_build.specs.Netlist.Buffers.{fifo_nets, slots_next}
use Rattle.block_build.specs.Netlist.Fifos.{slot_net, view_wires}
use Rattle.block_build.specs.Netlist.Literals.{literal_atom}
use Rattle.block_build.specs.Netlist.Registers.{AreTaken, resets_of, zero_register, count_bits, laid_fifo}
use Rattle.block_build.specs.Netlist.Wires.{AreWired}
use Rattle.block_verilog.specs.Signals.Nodes.{number_of}
use Rattle.block_verilog.specs.Ports.{flat_bits}
use Rattle.block_verilog.specs.Queues.{fifo_registers, fifo_by, registers_at, all_registers, fifos_from, no_ends, IsShown, next_of, all_next, FifoGoes}
use Rattle.block_verilog.proofs.Lemmas.Taken.{taken_both}

-- ---- counts

-- they are wide enough
count_fits : (depth : ℕ) → depth < 2 ^ 32 → depth < 2 ^ count_bits depth
count_fits depth small =
    let long = leading_length 32 depth small in
    let bits : count_bits depth ≡ max long.0 1 = ap (λ n. max n 1) (digits (count_leading_zeros 32 depth) long.0 long.1) in
    subst (λ n. depth < 2 ^ n) (sym bits) (wider long.0 long.2)
  where
    digits : (z m : ℕ) → z + m ≡ 32 → 32 - z ≡ m
    digits z m e = omega (arith, e)

    wider : (m : ℕ) → depth < 2 ^ m → depth < 2 ^ max m 1
    wider zero l = omega (arith, l)
    wider (suc m) l = let e : suc m ≡ max (suc m) 1 = omega arith in subst (λ n. depth < 2 ^ n) e l

bits_some : (z : ℕ) → 1 ≤ max (32 - z) 1
bits_some z = omega arith

bits_few : (z : ℕ) → max (32 - z) 1 ≤ 128
bits_few z = omega arith

one_fits : (n : ℕ) → 1 ≤ n → 1 < 2 ^ n
one_fits n some =
    let e : n ≡ 1 + (n - 1) = omega (arith, some) in
    let p = pow_pos (n - 1) in
    let twice : 2 ^ (1 + (n - 1)) ≡ 2 * 2 ^ (n - 1) = pow-add 2 1 (n - 1) in
    subst (λ m. 1 < 2 ^ m) (sym e) (subst (λ m. 1 < m) (sym twice) (omega (arith, p)))

literal_worth : (v : Values) (w n : ℕ) → 1 ≤ w → w ≤ 128 → n < 2 ^ w → atom_value v (literal_atom w n) ≡ word w n
literal_worth v w n some most fits =
    let wide : max 1 w ≡ w = omega (arith, some) in
    let least : min (max 1 w) 128 ≡ w = omega (arith, some, most) in
    ap₂ word wide (ap (λ k. cond (nat_lt n (2 ^ k)) n 0) least ∙ ap (λ t. cond t n 0) (below (2 ^ w) n fits))
  where
    below : (m n : ℕ) → n < m → nat_lt n m ≡ true
    below m n l = grind (arith, nat_tests)

number_worth : (v : Values) (depth n : ℕ) → depth < 2 ^ 32 → n ≤ depth → atom_value v (literal_atom (count_bits depth) n) ≡ word (count_bits depth) n
number_worth v depth n small l =
    let f = count_fits depth small in
    literal_worth v (count_bits depth) n (bits_some (count_leading_zeros 32 depth)) (bits_few (count_leading_zeros 32 depth)) (omega (arith, f, l))

-- ---- what a FIFO is made of

abbrev fifo_ends : ChannelView → ChannelEnds → ChannelNets
fifo_ends view end = record { valid = view.valid; word = view.word; room = view.room; ready = end.ready; offered = end.offered; offered_word = end.word }

pub fifo_made : (v : Values) (depth width k : ℕ) (view : ChannelView) (end : ChannelEnds) (goes : ℕ) → depth < 2 ^ 32 → IsShown (Some (laid_fifo depth width k)) view
    → AreWired v (number_of view.valid) (view_wires (fifo_nets (laid_fifo depth width k) no_ends (number_of view.valid) 0)) → FifoGoes v (laid_fifo depth width k) end (number_of view.valid) goes
    → FifoMade v (fifo_ends view end) (fifo_nets (laid_fifo depth width k) end (number_of view.valid) goes) depth
fifo_made v depth width k view end goes small shown viewed g = record {
  is = record { view = viewed; count = g.count; slots = g.slots };
  deep = refl;
  wide = count_fits depth small;
  one = one_fits (count_bits depth) (bits_some (count_leading_zeros 32 depth));
  numbers = λ x l. number_worth v depth x small l;
  number_one = literal_worth v (count_bits depth) 1 (bits_some (count_leading_zeros 32 depth)) (bits_few (count_leading_zeros 32 depth)) (one_fits (count_bits depth) (bits_some (count_leading_zeros 32 depth)));
  valid = ap (λ (w : ChannelView). w.valid) shown;
  word = ap (λ (w : ChannelView). w.word) shown;
  room = ap (λ (w : ChannelView). w.room) shown;
  ready = refl;
  offered = refl;
  offered_word = refl;
}

-- ---- where they stand

-- the FIFO of an inner channel is laid out from some register on
pub record FifoThere (depths : List ℕ) (i k : ℕ) (channels : List Channel) (c : ℕ) (channel : Channel) : Type 0 where
  pub first : ℕ
  pub fifo_is : slice_get (fifos_from depths i k channels) c ≡ Some (Some (laid_fifo (get_or depths (i + c) 0) (flat_bits channel) first))

inner_laid : (e : Ends) (depth width k : ℕ) → kind_of e ≡ Inner → fifo_by e depth width k ≡ Some (laid_fifo depth width k)
inner_laid ends.Input depth width k h = absurd (cc)
inner_laid ends.Output depth width k h = absurd (cc)
inner_laid (ends.Inner d) depth width k h = refl

pub fifo_there : (depths : List ℕ) (i k : ℕ) (channels : List Channel) (c : ℕ) (channel : Channel) → slice_get channels c ≡ Some channel → kind_of channel.ends ≡ Inner → FifoThere depths i k channels c channel
fifo_there depths i k [] c channel there inner = absurd (cc)
fifo_there depths i k (x ∷ channels) zero channel there inner =
    let same : channel ≡ x = cc in
    let none : i ≡ i + 0 = omega arith in
    record {
      first = k;
      fifo_is = ap (λ (y : Channel). Some (fifo_by y.ends (get_or depths i 0) (flat_bits y) k)) (sym same) ∙ ap Some (inner_laid channel.ends (get_or depths i 0) (flat_bits channel) k inner)
          ∙ ap (λ n. Some (Some (laid_fifo (get_or depths n 0) (flat_bits channel) k))) none;
    }
fifo_there depths i k (x ∷ channels) (suc c) channel there inner =
    let rest = fifo_there depths (suc i) (k + length (registers_at depths i x)) channels c channel there inner in
    let next : suc i + c ≡ i + suc c = omega arith in
    record { first = rest.first; fifo_is = rest.fifo_is ∙ ap (λ n. Some (Some (laid_fifo (get_or depths n 0) (flat_bits channel) rest.first))) next }

-- ---- what they hold next

slots_long : (fifo : Fifo) (end : ChannelEnds) (g x n : ℕ) → length (slots_next (fifo_nets fifo end 0 g) x n) ≡ n
slots_long fifo end g x zero = refl
slots_long fifo end g x (suc n) = ap suc (slots_long fifo end g (suc x) n)

-- a FIFO has as many signals of what it holds next as registers
next_long : (e : Ends) (depth width k : ℕ) (end : ChannelEnds) (g : ℕ) → length (next_of (fifo_by e depth width k) end g) ≡ length (fifo_registers e depth width)
next_long ends.Input depth width k end g = refl
next_long ends.Output depth width k end g = refl
next_long (ends.Inner d) depth width k end g = ap suc (slots_long (laid_fifo depth width k) end g 0 depth ∙ sym (length-replicate depth (zero_register width)))

slots_taken : (v next : Values) (fifo : Fifo) (end : ChannelEnds) (g k x n : ℕ) → AreTaken v next k (slots_next (fifo_nets fifo end 0 g) x n) → (y : ℕ) → y < n → next (k + y) ≡ v (slot_net (fifo_nets fifo end 0 g) (x + y))
slots_taken v next fifo end g k x zero taken y l = absurd (omega (arith, l))
slots_taken v next fifo end g k x (suc n) taken zero l =
    let e : k + 0 ≡ k = omega arith in
    let f : x ≡ x + 0 = omega arith in
    ap next e ∙ taken.0 ∙ ap (λ m. v (slot_net (fifo_nets fifo end 0 g) m)) f
slots_taken v next fifo end g k x (suc n) taken (suc y) l =
    let e : k + suc y ≡ suc k + y = omega arith in
    let f : suc x + y ≡ x + suc y = omega arith in
    ap next e ∙ slots_taken v next fifo end g (suc k) (suc x) n taken.1 y (omega (arith, l)) ∙ ap (λ m. v (slot_net (fifo_nets fifo end 0 g) m)) f

-- a slot's number isn't cut
slot_number : (a x d m : ℕ) → x < d → a + d ≤ m → min (a + min x (d - 1)) (m - 1) ≡ a + x
slot_number a x d m l few = omega (arith, l, few)

pub fifo_taken : (v next : Values) (depth width k first : ℕ) (end : ChannelEnds) (g : ℕ) → suc k + depth ≤ 2 ^ 32 → AreTaken v next k (next_of (Some (laid_fifo depth width k)) end g) → FifoGoesOn v next (fifo_nets (laid_fifo depth width k) end first g)
fifo_taken v next depth width k first end g few taken = record {
  count = taken.0;
  slots = λ x l.
      let f : x ≡ 0 + x = omega arith in
      ap next (slot_number (suc k) x depth (2 ^ 32) l few) ∙ slots_taken v next (laid_fifo depth width k) end g (suc k) 0 depth taken.1 x l ∙ ap (λ m. v (slot_net (fifo_nets (laid_fifo depth width k) end 0 g) m)) (sym f);
}

-- of all channels: the one of an index
pub fifos_taken : (v next : Values) (depths : List ℕ) (i k : ℕ) (channels : List Channel) (sides : List ChannelEnds) (goes : List ℕ) → length sides ≡ length channels → length goes ≡ length channels
    → AreTaken v next k (all_next (fifos_from depths i k channels) sides goes) → (c depth width n : ℕ) (end : ChannelEnds) (g : ℕ) → slice_get (fifos_from depths i k channels) c ≡ Some (Some (laid_fifo depth width n))
    → slice_get sides c ≡ Some end → slice_get goes c ≡ Some g → AreTaken v next n (next_of (Some (laid_fifo depth width n)) end g)
fifos_taken v next depths i k [] sides goes s_long g_long taken c depth width n end g there side go = absurd (cc)
fifos_taken v next depths i k (x ∷ channels) [] goes s_long g_long taken c depth width n end g there side go = absurd (cc)
fifos_taken v next depths i k (x ∷ channels) (s ∷ sides) [] s_long g_long taken c depth width n end g there side go = absurd (cc)
fifos_taken v next depths i k (x ∷ channels) (s ∷ sides) (h ∷ goes) s_long g_long taken zero depth width n end g there side go =
    let own = fifo_by x.ends (get_or depths i 0) (flat_bits x) k in
    let both = taken_both v next k (next_of own s h) (all_next (fifos_from depths (suc i) (k + length (registers_at depths i x)) channels) sides goes) taken in
    let e1 : own ≡ Some (laid_fifo depth width n) = cc in
    let e2 : s ≡ end = cc in
    let e3 : h ≡ g = cc in
    let here = subst (λ y. AreTaken v next k (next_of (Some (laid_fifo depth width n)) end y)) e3 (subst (λ y. AreTaken v next k (next_of (Some (laid_fifo depth width n)) y h)) e2 (subst (λ y. AreTaken v next k (next_of y s h)) e1 both.0)) in
    subst (λ m. AreTaken v next m (next_of (Some (laid_fifo depth width n)) end g)) (stands x.ends (get_or depths i 0) (flat_bits x) k depth width n e1) here
  where
    stands : (e : Ends) (d w k depth width n : ℕ) → fifo_by e d w k ≡ Some (laid_fifo depth width n) → k ≡ n
    stands ends.Input d w k depth width n h = absurd (cc)
    stands ends.Output d w k depth width n h = absurd (cc)
    stands (ends.Inner z) d w k depth width n h = let same : laid_fifo d w k ≡ laid_fifo depth width n = cc in let slots = ap (λ (f : Fifo). f.slots) same in omega (arith, slots)
fifos_taken v next depths i k (x ∷ channels) (s ∷ sides) (h ∷ goes) s_long g_long taken (suc c) depth width n end g there side go =
    let own = fifo_by x.ends (get_or depths i 0) (flat_bits x) k in
    let rest = fifos_from depths (suc i) (k + length (registers_at depths i x)) channels in
    let both = taken_both v next k (next_of own s h) (all_next rest sides goes) taken in
    let later = subst (λ m. AreTaken v next (k + m) (all_next rest sides goes)) (next_long x.ends (get_or depths i 0) (flat_bits x) k s h) both.1 in
    fifos_taken v next depths (suc i) (k + length (registers_at depths i x)) channels sides goes (omega (arith, s_long)) (omega (arith, g_long)) later c depth width n end g there side go

-- the signals of what all hold next are as many as their registers
pub all_next_long : (depths : List ℕ) (i k : ℕ) (channels : List Channel) (sides : List ChannelEnds) (goes : List ℕ) → length sides ≡ length channels → length goes ≡ length channels
    → length (all_next (fifos_from depths i k channels) sides goes) ≡ length (all_registers depths i channels)
all_next_long depths i k [] sides goes s_long g_long = refl
all_next_long depths i k (x ∷ channels) [] goes s_long g_long = absurd (cc)
all_next_long depths i k (x ∷ channels) (s ∷ sides) [] s_long g_long = absurd (cc)
all_next_long depths i k (x ∷ channels) (s ∷ sides) (h ∷ goes) s_long g_long =
    let own = next_of (fifo_by x.ends (get_or depths i 0) (flat_bits x) k) s h in
    let rest = all_next (fifos_from depths (suc i) (k + length (registers_at depths i x)) channels) sides goes in
    let a = length-append own rest in
    let b = length-append (registers_at depths i x) (all_registers depths (suc i) channels) in
    let one = next_long x.ends (get_or depths i 0) (flat_bits x) k s h in
    let more = all_next_long depths (suc i) (k + length (registers_at depths i x)) channels sides goes (omega (arith, s_long)) (omega (arith, g_long)) in
    omega (arith, a, b, one, more)

-- ---- what they are reset to

pub fifos_reset : (v next : Values) (depths : List ℕ) (i k : ℕ) (channels : List Channel) → AreTaken v next k (resets_of (all_registers depths i channels))
    → (c depth width n : ℕ) → slice_get (fifos_from depths i k channels) c ≡ Some (Some (laid_fifo depth width n)) → depth < 2 ^ 32 → next n ≡ word (count_bits depth) 0
fifos_reset v next depths i k [] taken c depth width n there small = absurd (cc)
fifos_reset v next depths i k (x ∷ channels) taken zero depth width n there small =
    let e : fifo_by x.ends (get_or depths i 0) (flat_bits x) k ≡ Some (laid_fifo depth width n) = cc in
    here x.ends (get_or depths i 0) (flat_bits x) k e (subst (AreTaken v next k) (map_both (λ (r : Register). r.reset) (registers_at depths i x) (all_registers depths (suc i) channels)) taken)
  where
    map_both : {A B : Type 0} (f : A → B) (xs ys : List A) → map f (xs ++ ys) ≡ map f xs ++ map f ys
    map_both f [] ys = refl
    map_both f (y ∷ xs) ys = ap (λ zs. f y ∷ zs) (map_both f xs ys)

    here : (e : Ends) (d w m : ℕ) → fifo_by e d w m ≡ Some (laid_fifo depth width n) → AreTaken v next m (resets_of (fifo_registers e d w) ++ resets_of (all_registers depths (suc i) channels)) → next n ≡ word (count_bits depth) 0
    here ends.Input d w m h t = absurd (cc)
    here ends.Output d w m h t = absurd (cc)
    here (ends.Inner z) d w m h t =
        let same : laid_fifo d w m ≡ laid_fifo depth width n = cc in
        let at : m ≡ n = (let slots = ap (λ (f : Fifo). f.slots) same in omega (arith, slots)) in
        let deep : d ≡ depth = ap (λ (f : Fifo). f.depth) same in
        ap next (sym at) ∙ t.0 ∙ ap (λ x. atom_value v (literal_atom (count_bits x) 0)) deep ∙ number_worth v depth 0 small (omega arith)
fifos_reset v next depths i k (x ∷ channels) taken (suc c) depth width n there small =
    let own = registers_at depths i x in
    let rest = all_registers depths (suc i) channels in
    let both = taken_both v next k (resets_of own) (resets_of rest) (subst (AreTaken v next k) (map_both (λ (r : Register). r.reset) own rest) taken) in
    let long : length (resets_of own) ≡ length own = map_long (λ (r : Register). r.reset) own in
    fifos_reset v next depths (suc i) (k + length own) channels (subst (λ m. AreTaken v next (k + m) (resets_of rest)) long both.1) c depth width n there small
  where
    map_both : {A B : Type 0} (f : A → B) (xs ys : List A) → map f (xs ++ ys) ≡ map f xs ++ map f ys
    map_both f [] ys = refl
    map_both f (y ∷ xs) ys = ap (λ zs. f y ∷ zs) (map_both f xs ys)

    map_long : {A B : Type 0} (f : A → B) (xs : List A) → length (map f xs) ≡ length xs
    map_long f [] = refl
    map_long f (y ∷ xs) = ap suc (map_long f xs)
