-- What is put for choices between values shows the value that is chosen.
use Rattle.std.proofs.Common.{◌≡◌, ℕ, zero, suc, ◌+◌, ◌-◌, ◌/◌, ◌%◌, ◌<◌, ◌≤◌, ◌^◌, List, [], ◌∷◌, ◌++◌, map, length, take, drop, Result, Ok, Err, refl, sym, ap, ap₂, ◌∙◌, subst, arith, cond, Bool, true, false}
use Rattle.std.specs.Prelude.{IfOk, OnOk, ◌==◌, get_or, nat_lt}
use Rattle.std.proofs.lemmas.Bool.Decides.{nat_tests}
use Rattle.std.proofs.lemmas.List.{append_assoc, append-nil, length-append, take_all}
use Rattle.xb_bits.specs.Word.{Word, word}
use Rattle.xb_value.specs.declared.value.Value.{Value}
use Rattle.net_core.specs.Behavior.{IsWordOf}
use Rattle.vlog_tree.specs.declared.expression.Atom.{Atom}
use Rattle.vlog_tree.specs.declared.expression.Binary.TheVariants as binary
use Rattle.vlog_tree.specs.declared.expression.Expr.TheVariants as expr
use Rattle.vlog_tree.specs.declared.expression.Simple.{Simple}
use Rattle.vlog_tree.specs.declared.expression.Simple.TheVariants as simple
use Rattle.vlog_tree.specs.declared.signal.Signal.{Signal}
use Rattle.vlog_tree.specs.Value.{Values, bit, atom_value}
use Rattle.block_build.specs.declared.netlist.wires.WireList.{WireList}
use Rattle.block_build.specs.Netlist.Added.{next_number, AddsWires, Puts, PutsNet}
use Rattle.ir_tree.specs.Constants.{no_value}
use Rattle.block_build.specs.Netlist.Choices.{choice_wires, chosen_below, HaveCount, ShowsChosen, ShowsUpdated, ShowAllUpdated}
use Rattle.block_build.specs.Netlist.Gates.{net, binary_gate, choice_gate}
use Rattle.block_build.specs.Netlist.Leaves.{nets, ShowsValue, AreSome, cut_into, total_width}
use Rattle.block_build.specs.Netlist.Literals.{literal_atom}
use Rattle.block_build.specs.Netlist.Operators.{part_of}
use Rattle.block_build.specs.Netlist.Wires.{Wire, AreWired}
use Rattle.block_build.proofs.OnNetlist.OnAdded.{puts, puts_both, next_behind, zeros_value, literal_value}
use Rattle.block_build.proofs.OnNetlist.OnChoices.{pick_shows, received_part, none_chosen_below, one_chosen_more}

-- a list by its first item and the rest
pub first_rest : {A : Type 0} (xs : List A) (d : A) → 1 ≤ length xs → xs ≡ get_or xs 0 d ∷ take (length xs - 1) (drop 1 xs)
first_rest [] d l = absurd (omega (arith, l))
first_rest (x ∷ xs) d l = ap (λ ys. x ∷ ys) (sym (take_all (length (x ∷ xs) - 1) xs (omega arith)))

pub item_rest : {A : Type 0} (xs : List A) (x : A) → 1 ≤ length xs → x ≡ get_or xs 0 x → xs ≡ x ∷ take (length xs - 1) (drop 1 xs)
item_rest xs x l is = first_rest xs x l ∙ ap (λ y. y ∷ take (length xs - 1) (drop 1 xs)) (sym is)

-- an element, whatever stands for one that isn't there
pub at_index : (xs : List (List Atom)) (i : ℕ) (x : List Atom) → i < length xs → x ≡ get_or xs i x → get_or xs i [] ≡ x
at_index [] i x l is = absurd (omega (arith, l))
at_index (y ∷ xs) zero x l is = sym is
at_index (y ∷ xs) (suc i) x l is = at_index xs i x (omega (arith, l)) is

-- nothing is put
pub puts_none : (list : WireList) → Puts list list []
puts_none list = puts list list [] refl (sym (append-nil list.wires.items))

-- one wire and the rest
pub puts_rest : {A E : Type 0} (o : Result A E) (a b c : WireList) (x : Wire) (r : Atom) (ws : List Wire) → PutsNet a b x r → OnOk o (Puts b c ws) → OnOk o (Puts a c (x ∷ ws))
puts_rest (Ok u) a b c x r ws p q = puts_both a b c (x ∷ []) ws p.puts q
puts_rest (Err e) a b c x r ws p q = tt

pub choose_put : {A E : Type 0} (o : Result A E) (a b c : WireList) (bit' r f s : Atom) (ws us : List ℕ) (fs gs ss ts : List Atom) (w : ℕ) → ws ≡ w ∷ us → fs ≡ f ∷ gs → ss ≡ s ∷ ts → PutsNet a b (choice_gate w bit' f s) r
    → OnOk o (Puts b c (choice_wires bit' us gs ts)) → OnOk o (Puts a c (choice_wires bit' ws fs ss))
choose_put o a b c bit' r f s ws us fs gs ss ts w e g h p q =
    subst (λ xs. OnOk o (Puts a c (choice_wires bit' xs fs ss))) (sym e)
    (subst (λ xs. OnOk o (Puts a c (choice_wires bit' (w ∷ us) xs ss))) (sym g)
    (subst (λ xs. OnOk o (Puts a c (choice_wires bit' (w ∷ us) (f ∷ gs) xs))) (sym h) (puts_rest o a b c (choice_gate w bit' f s) r (choice_wires bit' us gs ts) p q)))

-- and their signals
pub signals_rest : {A E : Type 0} (o : Result A E) (a b : WireList) (x : Wire) (r : Atom) (old mid new : List Atom) (n : ℕ) → PutsNet a b x r → mid ≡ old ++ r ∷ []
    → OnOk o (new ≡ mid ++ nets (next_number b) n) → OnOk o (new ≡ old ++ nets (next_number a) (suc n))
signals_rest (Ok u) a b x r old mid new n p m q =
    q ∙ ap (λ xs. xs ++ nets (next_number b) n) m ∙ append_assoc old (r ∷ []) (nets (next_number b) n)
    ∙ ap₂ (λ t k. old ++ t ∷ nets k n) p.number (next_behind a b x p.puts)
signals_rest (Err e) a b x r old mid new n p m q = tt

pub net_count : (k n : ℕ) → length (nets k n) ≡ n
net_count k zero = refl
net_count k (suc n) = ap suc (net_count (suc k) n)

pub choice_count : (c : Atom) (ws : List ℕ) (firsts seconds : List Atom) → length firsts ≡ length ws → length seconds ≡ length ws → length (choice_wires c ws firsts seconds) ≡ length ws
choice_count c [] firsts seconds l m = refl
choice_count c (w ∷ ws) [] seconds l m = absurd (omega (arith, l))
choice_count c (w ∷ ws) (a ∷ firsts) [] l m = absurd (omega (arith, m))
choice_count c (w ∷ ws) (a ∷ firsts) (b ∷ seconds) l m = ap suc (choice_count c ws firsts seconds (omega (arith, l)) (omega (arith, m)))

-- the first where a number is this one
pub pick_put : (a b c : WireList) (selector number r : Atom) (ws : List ℕ) (firsts seconds chosen : List Atom) → PutsNet a b (binary_gate 1 binary.Equal selector number) r
    → Puts b c (choice_wires r ws firsts seconds) → chosen ≡ [] ++ nets (next_number b) (length (choice_wires r ws firsts seconds))
    → AddsWires a c (λ v. (n i w : ℕ) (x y : Value) → atom_value v selector ≡ word w n → atom_value v number ≡ word w i → length firsts ≡ length ws → length seconds ≡ length ws
    → ShowsValue v firsts x → ShowsValue v seconds y → ShowsValue v chosen (cond (n == i) x y))
pick_put a b c selector number r ws firsts seconds chosen p q is v h =
    let k = next_number a in
    let x = binary_gate 1 binary.Equal selector number in
    let later = q.wired v h in
    let sooner = p.puts.wired v later.0 in
    let behind : next_number b ≡ suc k = next_behind a b x p.puts in
    let rest = subst (λ m. AreWired v m (choice_wires (net k) ws firsts seconds)) behind (subst (λ t. AreWired v (next_number b) (choice_wires t ws firsts seconds)) p.number later.1) in (
      sooner.0,
      λ n i w s t e d l m f g.
          subst (λ xs. ShowsValue v xs (cond (n == i) s t)) (sym (is ∙ ap₂ nets behind (choice_count r ws firsts seconds l m)))
          (pick_shows v k i n w selector number ws firsts seconds s t (sooner.1.0, rest) e d l m f g),
    )

pub pick_count : (r : Atom) (k : ℕ) (ws : List ℕ) (firsts seconds chosen : List Atom) → chosen ≡ [] ++ nets k (length (choice_wires r ws firsts seconds)) → length firsts ≡ length ws → length seconds ≡ length ws
    → length chosen ≡ length ws
pick_count r k ws firsts seconds chosen is l m = ap length is ∙ net_count k (length (choice_wires r ws firsts seconds)) ∙ choice_count r ws firsts seconds l m

-- the numbers in a word that is received, one and the rest
pub receive_rest : {A E : Type 0} (o : Result A E) (a b c : WireList) (all left low w : ℕ) (s : Signal) (on zeros r : Atom) (y : Simple) (ws : List ℕ) (old mid new : List Atom)
    → (low + w < 2 ^ 64 → y ≡ part_of all s.0 low w) → all < 2 ^ 64 → low ≡ left - w → zeros ≡ literal_atom w 0
    → PutsNet a b (record { width = w; driver = expr.Choice on y (simple.Atom zeros) }) r → mid ≡ old ++ r ∷ []
    → OnOk o (AddsWires b c (λ v. (t : Bool) (x : Word) → v s.0 ≡ x → IsWordOf all x → total_width ws ≡ low → low ≤ all → AreSome ws → atom_value v on ≡ bit t
    → map (atom_value v) new ≡ map (atom_value v) mid ++ cut_into ws (cond t x.value 0)))
    → OnOk o (AddsWires a c (λ v. (t : Bool) (x : Word) → v s.0 ≡ x → IsWordOf all x → w + total_width ws ≡ left → left ≤ all → (1 ≤ w) × AreSome ws → atom_value v on ≡ bit t
    → map (atom_value v) new ≡ map (atom_value v) old ++ (word w (cond t x.value 0 / 2 ^ total_width ws % 2 ^ w) ∷ cut_into ws (cond t x.value 0))))
receive_rest (Ok u) a b c all left low w s on zeros r y ws old mid new is small lower z p m q = λ v h.
    let later = q v h in
    let sooner = p.puts.wired v later.0 in (
      sooner.0,
      λ t x e i whole fits some o.
          let rest : total_width ws ≡ low = omega (arith, whole, lower) in
          let same : y ≡ part_of all s.0 (total_width ws) w = is (omega (arith, small, rest, whole, fits)) ∙ ap (λ n. part_of all s.0 n w) (sym rest) in
          let wide = i.fits in
          let most = i.word.most_width in
          let here = ap (atom_value v) p.number
          ∙ received_part v all s.0 (next_number a) w (total_width ws) on y zeros t x sooner.1.0 same e i some.0 (omega (arith, whole, fits)) o (zeros_value v w zeros some.0 (omega (arith, wide, most, whole, fits)) z) in
          later.1 t x e i rest (omega (arith, whole, lower, fits)) some.1 o
          ∙ ap (λ xs. map (atom_value v) xs ++ cut_into ws (cond t x.value 0)) m
          ∙ grown v old r (cut_into ws (cond t x.value 0))
          ∙ ap (λ z. map (atom_value v) old ++ (z ∷ cut_into ws (cond t x.value 0))) here,
    )
  where
    grown : (v : Values) (xs : List Atom) (t : Atom) (ys : List Word) → map (atom_value v) (xs ++ t ∷ []) ++ ys ≡ map (atom_value v) xs ++ (atom_value v t ∷ ys)
    grown v [] t ys = refl
    grown v (u ∷ xs) t ys = ap (λ zs. atom_value v u ∷ zs) (grown v xs t ys)
receive_rest (Err e) a b c all left low w s on zeros r y ws old mid new is small lower z p m q = tt

pub receive_none : (a : WireList) (all left : ℕ) (s : Signal) (on : Atom) (numbers : List Atom) → AddsWires a a (λ v. (t : Bool) (x : Word) → v s.0 ≡ x → IsWordOf all x → 0 ≡ left → left ≤ all → Unit {0} → atom_value v on ≡ bit t
    → map (atom_value v) numbers ≡ map (atom_value v) numbers ++ [])
receive_none a all left s on numbers v h = (h, λ t x e i whole fits some o. sym (append-nil (map (atom_value v) numbers)))

-- ---- one of several values

-- what a pick promises
abbrev pub PickShows : Values → Atom → Atom → List ℕ → List Atom → List Atom → List Atom → Type 0
PickShows v selector number ws firsts seconds chosen =
    (n i w : ℕ) (x y : Value) → atom_value v selector ≡ word w n → atom_value v number ≡ word w i → length firsts ≡ length ws → length seconds ≡ length ws
    → ShowsValue v firsts x → ShowsValue v seconds y → ShowsValue v chosen (cond (n == i) x y)

pub select_none : (a : WireList) (selector : Atom) (bits count : ℕ) (values : List (List Atom)) (other : List Atom) → AddsWires a a (λ v. ShowsChosen v selector bits count values other 0 other)
select_none a selector bits count values other v h = (h, λ n xs y number few all same shows stands. subst (ShowsValue v other) (sym (none_chosen_below n y xs)) stands)

pub select_more : (a b c : WireList) (selector number : Atom) (bits i : ℕ) (ws : List ℕ) (values : List (List Atom)) (firsts so_far chosen other : List Atom) → number ≡ literal_atom bits i
    → i < length values → get_or values i [] ≡ firsts → (HaveCount (length ws) values → length other ≡ length ws → length so_far ≡ length ws)
    → AddsWires a b (λ v. ShowsChosen v selector bits (length ws) values other i so_far) → AddsWires b c (λ v. PickShows v selector number ws firsts so_far chosen)
    → AddsWires a c (λ v. ShowsChosen v selector bits (length ws) values other (i + 1) chosen)
select_more a b c selector number bits i ws values firsts so_far chosen other is l at counts p q = λ v h.
    let later = q v h in
    let sooner = p v later.0 in
    let one : suc i ≡ i + 1 = omega arith in (
      sooner.0,
      λ n xs y has few all same shows stands.
          let carries = ap (atom_value v) is ∙ literal_value v bits i has.some has.most (omega (arith, l, few)) in
          let wide = ap length (sym at) ∙ all i l in
          let here = subst (λ t. ShowsValue v t (get_or xs i no_value)) at (shows i l) in
          let step = later.1 n i bits (get_or xs i no_value) (chosen_below n i y xs) has.is carries wide (counts all same) here (sooner.1 n xs y has few all same shows stands) in
          subst (λ k. ShowsValue v chosen (chosen_below n k y xs)) one (subst (ShowsValue v chosen) (one_chosen_more n i y xs) step),
    )

-- ---- an element in another's place

pub updated_picked : {E : Type 0} (o : Result (List Atom) E) (a c : WireList) (index number : Atom) (bits i : ℕ) (ws : List ℕ) (element old : List Atom) → nat_lt i (2 ^ bits) ≡ true → number ≡ literal_atom bits i
    → IfOk o (λ new. AddsWires a c (λ v. PickShows v index number ws element old new)) → IfOk o (λ new. AddsWires a c (λ v. ShowsUpdated v index bits (length ws) element i old new))
updated_picked (Ok new) a c index number bits i ws element old small is p = λ v h.
    let both = p v h in
    (both.0, λ n e x has le lo se so. both.1 n i bits e x has.is (ap (atom_value v) is ∙ literal_value v bits i has.some has.most (below i (2 ^ bits) small)) le lo se so)
  where
    below : (m n : ℕ) → nat_lt m n ≡ true → m < n
    below m n e = grind (arith, nat_tests)
updated_picked (Err e) a c index number bits i ws element old small is p = tt

pub updated_kept : (a : WireList) (index : Atom) (bits i count : ℕ) (element old new : List Atom) → nat_lt i (2 ^ bits) ≡ false → new ≡ old → AddsWires a a (λ v. ShowsUpdated v index bits count element i old new)
updated_kept a index bits i count element old new large is = λ v h.
    (h, λ n e x has le lo se so. subst (λ t. ShowsValue v t (cond (n == i) e x)) (sym is) (subst (λ t. ShowsValue v old (cond t e x)) (sym (apart n i (2 ^ bits) has.range large)) so))
  where
    apart : (n i m : ℕ) → n < m → nat_lt i m ≡ false → (n == i) ≡ false
    apart n i m l e = grind (arith, nat_tests)

pub at_end : (P : ℕ → List Atom → Type 0) (xs : List (List Atom)) (x : List Atom) (j : ℕ) → (j < length xs → P j (get_or xs j [])) → P (length xs) x → j < length (xs ++ x ∷ []) → P j (get_or (xs ++ x ∷ []) j [])
at_end P [] x zero f g l = g
at_end P [] x (suc j) f g l = absurd (omega (arith, l))
at_end P (y ∷ xs) x zero f g l = f (omega arith)
at_end P (y ∷ xs) x (suc j) f g l = at_end (λ k. P (suc k)) xs x j (λ m. f (omega (arith, m))) g (omega (arith, l))

pub update_none : (a : WireList) (index : Atom) (bits count : ℕ) (element : List Atom) (elements : List (List Atom)) → AddsWires a a (λ v. ShowAllUpdated v index bits count element elements [])
update_none a index bits count element elements = λ v h. (h, λ n j e xs has le all se shows l. absurd (omega (arith, l)))

pub update_more : (a b c : WireList) (index : Atom) (bits count i : ℕ) (element old new : List Atom) (elements updated : List (List Atom)) → length updated ≡ i → i < length elements → get_or elements i [] ≡ old
    → AddsWires a b (λ v. ShowAllUpdated v index bits count element elements updated) → AddsWires b c (λ v. ShowsUpdated v index bits count element i old new)
    → AddsWires a c (λ v. ShowAllUpdated v index bits count element elements (updated ++ new ∷ []))
update_more a b c index bits count i element old new elements updated is l at p q = λ v h.
    let later = q v h in
    let sooner = p v later.0 in (
      sooner.0,
      λ n j e xs has le all se shows m.
          let wide = ap length (sym at) ∙ all i l in
          let here = subst (λ t. ShowsValue v t (get_or xs i no_value)) at (shows i l) in
          at_end (λ k atoms. ShowsValue v atoms (cond (n == k) e (get_or xs k no_value))) updated new j (λ less. sooner.1 n j e xs has le all se shows less)
          (subst (λ k. ShowsValue v new (cond (n == k) e (get_or xs k no_value))) (sym is) (later.1 n e (get_or xs i no_value) has le wide se here)) m,
    )

pub push_count : {A : Type 0} (xs ys : List A) (x : A) (i : ℕ) → length xs ≡ i → ys ≡ xs ++ x ∷ [] → length ys ≡ i + 1
push_count xs ys x i e is = let l = length-append xs (x ∷ []) in let m = ap length is in omega (arith, e, l, m)
