-- The wires of a FIFO are its row's.
use Rattle.std.proofs.Common.{◌≡◌, ℕ, zero, suc, ◌+◌, ◌-◌, ◌<◌, ◌≤◌, ◌%◌, ◌^◌, refl, sym, ap, ◌∙◌, arith, cond, true, false, Bool, eqb, Option, Some, None}
use Rattle.std.specs.Prelude.{◌&&◌, not, is_some, unwrap_or, ◌==◌}
use Rattle.std.proofs.Math.Nat.{mod-eq_of_lt, add-mod_right}
use Rattle.std.proofs.lemmas.Bool.Decides.{nat_tests}
use Rattle.xb_bits.specs.Word.{Word, word}
use Rattle.xb_bits.specs.Operations as op
use Rattle.vlog_tree.specs.declared.expression.Binary.TheVariants as binary
use Rattle.vlog_tree.specs.Value.{Values, bit, atom_value}
use Rattle.block_stage.specs.Fifo.Row.{Row, has_word, has_room, gives, takes, between, row_after}
use Rattle.block_build.specs.Netlist.Fifos.{FifoNets, there_net, room_net, gives_net, takes_net, between_net, count_net, slot_net, IsFifo, FifoHeld, CountShown}
use Rattle.block_build.proofs.OnNetlist.OnGates.{conjunction, choice, operated}

-- one less, and one more
one_less : (w n : ℕ) → 0 < n → n < 2 ^ w → 1 < 2 ^ w → op.sub (word w n) (word w 1) ≡ word w (n - 1)
one_less w n some few wide = ap (word w) (whole (2 ^ w) some few wide)
  where
    whole : (m : ℕ) → 0 < n → n < m → 1 < m → (n + (m - 1)) % m ≡ n - 1
    whole m s f l =
        let e : n + (m - 1) ≡ (n - 1) + m = omega (arith, s, f, l) in
        ap (λ x. x % m) e ∙ add-mod_right (n - 1) m ∙ mod-eq_of_lt (omega (arith, s, f))

one_more : (w n : ℕ) → n + 1 < 2 ^ w → op.add (word w n) (word w 1) ≡ word w (n + 1)
one_more w n few = ap (word w) (mod-eq_of_lt few)

same_choice : {A : Type 0} (t : Bool) (x y z : A) → (t ≡ true → x ≡ y) → cond t x z ≡ cond t y z
same_choice true x y z h = h refl
same_choice false x y z h = refl

gives_some : (count : ℕ) (asserted : Bool) → (asserted && not (count == 0)) ≡ true → 0 < count
gives_some zero true e = cc
gives_some zero false e = cc
gives_some (suc n) asserted e = omega arith

takes_room : (count depth : ℕ) (some : Bool) → (some && not (count == depth)) ≡ true → count ≡ depth → ⊥
takes_room count depth some e same = clash some (eqb count depth) (eq-eqb count depth same) e
  where
    eq-eqb : (a c : ℕ) → a ≡ c → eqb a c ≡ true
    eq-eqb a c h = grind (arith, nat_tests)

    clash : (x y : Bool) → y ≡ true → (x && not y) ≡ true → ⊥
    clash true true f h = cc
    clash true false f h = cc
    clash false y f h = cc

at_most : (t : Bool) (n : ℕ) → cond t (n - 1) n ≤ n
at_most true n = omega arith
at_most false n = omega arith

pub count_shown : (v : Values) (fifo : FifoNets) (row : Row Word) (asserted : Bool) (valid_data : Option Word) → IsFifo v fifo → FifoHeld v fifo row valid_data → atom_value v fifo.asserted ≡ bit asserted
    → CountShown v fifo row asserted valid_data
count_shown v fifo row asserted valid_data is stage_regs a =
    let seen = is.view in
    let h = is.count in
    let wide = stage_regs.wide in
    let few = stage_regs.few in
    let there : v (there_net fifo) ≡ bit (has_word row) = operated binary.NotEqual (v (there_net fifo)) _ _ (word fifo.count_width row.count) (word fifo.count_width 0) seen.0 stage_regs.count (stage_regs.numbers 0 (omega arith)) in
    let room : v (room_net fifo) ≡ bit (has_room fifo.depth row) =
    operated binary.NotEqual (v (room_net fifo)) _ _ (word fifo.count_width row.count) (word fifo.count_width fifo.depth) seen.1.0 stage_regs.count (stage_regs.numbers fifo.depth (omega arith)) in
    let given : v (gives_net fifo) ≡ bit (gives row asserted) = conjunction (v (gives_net fifo)) _ _ asserted (has_word row) h.0 a there in
    let taken : v (takes_net fifo) ≡ bit (takes fifo.depth row valid_data) = conjunction (v (takes_net fifo)) _ _ (is_some valid_data) (has_room fifo.depth row) h.1.0 stage_regs.offers room in
    let less = operated binary.Subtract (v (suc (takes_net fifo))) _ _ (word fifo.count_width row.count) (word fifo.count_width 1) h.1.1.0 stage_regs.count stage_regs.number_one in
    let left : v (between_net fifo) ≡ word fifo.count_width (between row asserted) =
    choice (v (between_net fifo)) (v (gives_net fifo)) (v (suc (takes_net fifo))) (atom_value v fifo.count) (gives row asserted) h.1.1.1.0 given
    ∙ ap (λ z. cond (gives row asserted) (v (suc (takes_net fifo))) z) stage_regs.count
    ∙ same_choice (gives row asserted) (v (suc (takes_net fifo))) (word fifo.count_width (row.count - 1)) (word fifo.count_width row.count)
    (λ g. less ∙ one_less fifo.count_width row.count (gives_some row.count asserted g) (omega (arith, wide, few)) stage_regs.one)
    ∙ pushed (gives row asserted) in
    let more = operated binary.Add (v (suc (between_net fifo))) _ _ (word fifo.count_width (between row asserted)) (word fifo.count_width 1) h.1.1.1.1.0 left stage_regs.number_one in
    let count : v (count_net fifo) ≡ word fifo.count_width (row_after fifo.depth row asserted valid_data).count =
    choice (v (count_net fifo)) (v (takes_net fifo)) (v (suc (between_net fifo))) (v (between_net fifo)) (takes fifo.depth row valid_data) h.1.1.1.1.1.0 taken
    ∙ ap (λ z. cond (takes fifo.depth row valid_data) (v (suc (between_net fifo))) z) left
    ∙ same_choice (takes fifo.depth row valid_data) (v (suc (between_net fifo))) (word fifo.count_width (between row asserted + 1)) (word fifo.count_width (between row asserted))
    (λ t.
    let apart = takes_room row.count fifo.depth (is_some valid_data) t in
    let most = at_most (gives row asserted) row.count in
    more ∙ one_more fifo.count_width (between row asserted) (below (between row asserted) row.count fifo.depth (2 ^ fifo.count_width) most few wide apart))
    ∙ counted (takes fifo.depth row valid_data) in
    record { there = there; room = room; given = given; taken = taken; left = left; count = count }
  where
    pushed : (t : Bool) → cond t (word fifo.count_width (row.count - 1)) (word fifo.count_width row.count) ≡ word fifo.count_width (cond t (row.count - 1) row.count)
    pushed true = refl
    pushed false = refl

    counted : (t : Bool) → cond t (word fifo.count_width (between row asserted + 1)) (word fifo.count_width (between row asserted)) ≡ word fifo.count_width (cond t (between row asserted + 1) (between row asserted))
    counted true = refl
    counted false = refl

    below : (b n d m : ℕ) → b ≤ n → n ≤ d → d < m → (n ≡ d → ⊥) → b + 1 < m
    below b n d m l f w ne = omega arith

-- and of each slot
pub slot_shown : (v : Values) (fifo : FifoNets) (row : Row Word) (asserted : Bool) (valid_data : Option Word) → IsFifo v fifo → FifoHeld v fifo row valid_data → atom_value v fifo.asserted ≡ bit asserted
    → (x : ℕ) → x < fifo.depth → v (slot_net fifo x) ≡ (row_after fifo.depth row asserted valid_data).slot x
slot_shown v fifo row asserted valid_data is stage_regs a x l =
    let shown = count_shown v fifo row asserted valid_data is stage_regs a in
    let h = is.slots x l in
    let free : v (fifo.next x) ≡ bit (between row asserted == x) =
    operated binary.Equal (v (fifo.next x)) _ _ (word fifo.count_width (between row asserted)) (word fifo.count_width x) h.0 shown.left (stage_regs.numbers x (omega arith)) in
    let here = conjunction (v (suc (fifo.next x))) _ _ (takes fifo.depth row valid_data) (between row asserted == x) h.1.0 shown.taken free in
    let shifted : v (suc (suc (fifo.next x))) ≡ cond (gives row asserted) (row.slot (suc x)) (row.slot x) =
    choice (v (suc (suc (fifo.next x)))) (v (gives_net fifo)) (atom_value v (fifo.slot (suc x))) (atom_value v (fifo.slot x)) (gives row asserted) h.1.1.0 shown.given
    ∙ ap (λ z. cond (gives row asserted) z (atom_value v (fifo.slot x))) (stage_regs.slots (suc x) (omega arith))
    ∙ ap (λ z. cond (gives row asserted) (row.slot (suc x)) z) (stage_regs.slots x (omega arith)) in
    choice (v (slot_net fifo x)) (v (suc (fifo.next x))) (atom_value v fifo.word) (v (suc (suc (fifo.next x)))) (takes fifo.depth row valid_data && (between row asserted == x)) h.1.1.1.0 here
    ∙ ap (λ z. cond (takes fifo.depth row valid_data && (between row asserted == x)) (atom_value v fifo.word) z) shifted
    ∙ same_choice (takes fifo.depth row valid_data && (between row asserted == x)) (atom_value v fifo.word) (unwrap_or valid_data (row.slot x)) (cond (gives row asserted) (row.slot (suc x)) (row.slot x))
    (λ t. came valid_data refl t)
  where
    came : (o : Option Word) → valid_data ≡ o → ((is_some valid_data && has_room fifo.depth row) && (between row asserted == x)) ≡ true → atom_value v fifo.word ≡ unwrap_or valid_data (row.slot x)
    came (Some w) e t = stage_regs.offered_word w e ∙ sym (ap (λ z. unwrap_or z (row.slot x)) e)
    came None e t = absurd (let f = rw e at t in cc)
