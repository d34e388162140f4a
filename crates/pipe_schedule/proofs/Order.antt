-- Slots that are made one after the other stand as each node's sources ask.
use Rattle.std.proofs.Common.{◌≡◌, ℕ, zero, suc, ◌+◌, ◌-◌, ◌<◌, List, [], ◌∷◌, ◌++◌, length, length-append, get_or, refl, sym, ap, subst, ◌∙◌, arith, ⊎_elim}
use Rattle.std.specs.Prelude.{slice_get, Contains}
use Rattle.std.proofs.lemmas.Bool.{cases_lt}
use Rattle.std.proofs.lemmas.List.{get_or_append_left, get_or-append_right}
use Rattle.pipe_schedule.specs.declared.slot.Slot.{Slot}
use Rattle.pipe_schedule.specs.declared.slot.Floor.{Floor}
use Rattle.pipe_schedule.specs.Timed.{TimedNode, node_at}
use Rattle.pipe_schedule.specs.Inner.Slots.{later, later_if, latest, slotted, lowest, raised, no_floor, slot_of, slots_from, slots_of, no_slot, slot_at, floor_at, start_at, AreSourcesEarlier, AreSlotsInTime, AreSlotted}
use Rattle.pipe_schedule.proofs.Placing.{contains_first, contains_more, there}
use Rattle.pipe_schedule.proofs.Walk.{slots_end, slots_more}
use Rattle.pipe_schedule.proofs.Least.{past}

-- slots that are made later change none of those before
kept : (clock : ℕ) (rest : List TimedNode) (slots : List Slot) (floor : Floor) (k : ℕ) → k < length slots → slot_at (slots_from clock slots floor rest) k ≡ slot_at slots k
kept clock [] slots floor k h = ap (λ xs. slot_at xs k) (slots_end clock slots floor)
kept clock (n ∷ rest) slots floor k h =
    let s = slot_of clock slots floor n in
    ap (λ xs. slot_at xs k) (slots_more clock slots floor n rest)
    ∙ kept clock rest (slots ++ s ∷ []) (raised floor n.role s.stage) k (omega (arith, length-append slots (s ∷ [])))
    ∙ get_or_append_left slots (s ∷ []) no_slot k h

grown : (clock : ℕ) (rest : List TimedNode) (slots : List Slot) (floor : Floor) → length (slots_from clock slots floor rest) ≡ length slots + length rest
grown clock [] slots floor = ap length (slots_end clock slots floor) ∙ omega arith
grown clock (n ∷ rest) slots floor =
    let s = slot_of clock slots floor n in
    ap length (slots_more clock slots floor n rest) ∙ grown clock rest (slots ++ s ∷ []) (raised floor n.role s.stage) ∙ omega (arith, length-append slots (s ∷ []))

-- the latest goes by the slots of the sources alone
same_latest : (xs ys : List Slot) (at : Slot) (js : List ℕ) → ((j : ℕ) → Contains js j → (j < length xs) × (j < length ys) × (slot_at xs j ≡ slot_at ys j)) → latest xs at js ≡ latest ys at js
same_latest xs ys at [] h = refl
same_latest xs ys at (j ∷ js) h =
    let f = h j (contains_first j js) in
    let e : later_if at (slice_get xs j) ≡ later_if at (slice_get ys j) = there xs at j f.0 ∙ ap (later at) f.2 ∙ sym (there ys at j f.1) in
    ap (λ s. latest xs s js) e ∙ same_latest xs ys (later_if at (slice_get ys j)) js (λ i c. h i (contains_more j i js c))

sources_made : (all : List TimedNode) (clock : ℕ) (order : AreSourcesEarlier all) (n : TimedNode) (rest : List TimedNode) (slots : List Slot) (floor : Floor) (m : ℕ) → length slots ≡ m → n ≡ node_at all m
    → (j : ℕ) → Contains n.sources j → (j < length slots) × (j < length (slots_from clock slots floor (n ∷ rest))) × (slot_at slots j ≡ slot_at (slots_from clock slots floor (n ∷ rest)) j)
sources_made all clock order n rest slots floor m e node j c =
    let less = order m j (subst (λ (x : TimedNode). Contains x.sources j) node c) in
    let size = grown clock (n ∷ rest) slots floor in
    let l : j < length slots = omega arith in
    (l, omega arith, sym (kept clock (n ∷ rest) slots floor j l))

-- the slot of the first of the rest
made : (clock : ℕ) (n : TimedNode) (rest : List TimedNode) (slots : List Slot) (floor : Floor) (m : ℕ) → length slots ≡ m → slot_at (slots_from clock slots floor (n ∷ rest)) m ≡ slot_of clock slots floor n
made clock n rest slots floor m e =
    let s = slot_of clock slots floor n in
    ap (λ xs. slot_at xs m) (slots_more clock slots floor n rest)
    ∙ kept clock rest (slots ++ s ∷ []) (raised floor n.role s.stage) m (omega (arith, length-append slots (s ∷ [])))
    ∙ get_or-append_right slots (s ∷ []) m m no_slot e (omega arith)
    ∙ (let z : m - m ≡ 0 = omega arith in ap (λ k. get_or (s ∷ []) k no_slot) z)

next_floor : (all : List TimedNode) (clock : ℕ) (n : TimedNode) (rest : List TimedNode) (slots : List Slot) (floor : Floor) (m : ℕ) → length slots ≡ m
    → ((k : ℕ) → node_at all (m + k) ≡ node_at (n ∷ rest) k) → floor ≡ floor_at all (slots_from clock slots floor (n ∷ rest)) m
    → raised floor n.role (slot_of clock slots floor n).stage ≡ floor_at all (slots_from clock (slots ++ slot_of clock slots floor n ∷ []) (raised floor n.role (slot_of clock slots floor n).stage) rest) (suc m)
next_floor all clock n rest slots floor m e same f =
    let s = slot_of clock slots floor n in
    let whole = slots_from clock slots floor (n ∷ rest) in
    let zero_more : m ≡ m + 0 = omega arith in
    let node : node_at all m ≡ n = ap (node_at all) zero_more ∙ same 0 in
    let at = made clock n rest slots floor m e in
    ap (λ x. raised x n.role s.stage) f
    ∙ ap (λ (x : TimedNode). raised (floor_at all whole m) x.role s.stage) (sym node)
    ∙ ap (λ (x : Slot). raised (floor_at all whole m) (node_at all m).role x.stage) (sym at)
    ∙ ap (λ xs. floor_at all xs (suc m)) (slots_more clock slots floor n rest)

first_stands : (all : List TimedNode) (clock : ℕ) (order : AreSourcesEarlier all) (n : TimedNode) (rest : List TimedNode) (slots : List Slot) (floor : Floor) (m : ℕ) → length slots ≡ m
    → ((k : ℕ) → node_at all (m + k) ≡ node_at (n ∷ rest) k) → floor ≡ floor_at all (slots_from clock slots floor (n ∷ rest)) m
    → slot_at (slots_from clock slots floor (n ∷ rest)) (m + 0) ≡ slotted clock n.delay (start_at all (slots_from clock slots floor (n ∷ rest)) (m + 0))
first_stands all clock order n rest slots floor m e same f =
    let whole = slots_from clock slots floor (n ∷ rest) in
    let place : m + 0 ≡ m = omega arith in
    let node : n ≡ node_at all m = sym (same 0) ∙ ap (node_at all) place in
    let before : (j : ℕ) → Contains n.sources j → (j < length slots) × (j < length whole) × (slot_at slots j ≡ slot_at whole j) = λ j c. sources_made all clock order n rest slots floor m e node j c in
    let start : latest slots (record { stage = lowest floor n.role; time = 0 }) n.sources ≡ start_at all whole m =
    same_latest slots whole (record { stage = lowest floor n.role; time = 0 }) n.sources before
    ∙ ap (λ x. latest whole (record { stage = lowest x n.role; time = 0 }) n.sources) f
    ∙ ap (λ (x : TimedNode). latest whole (record { stage = lowest (floor_at all whole m) x.role; time = 0 }) x.sources) node in
    ap (slot_at whole) place
    ∙ made clock n rest slots floor m e
    ∙ ap (slotted clock n.delay) start
    ∙ ap (λ j. slotted clock n.delay (start_at all whole j)) (sym place)

-- the slots of the rest, where those before are made and their floor is the floor there
stand_from : (all : List TimedNode) (clock : ℕ) (order : AreSourcesEarlier all) (rest : List TimedNode) (slots : List Slot) (floor : Floor) (m : ℕ) → length slots ≡ m
    → ((k : ℕ) → node_at all (m + k) ≡ node_at rest k) → floor ≡ floor_at all (slots_from clock slots floor rest) m
    → (k : ℕ) → k < length rest → slot_at (slots_from clock slots floor rest) (m + k) ≡ slotted clock (node_at rest k).delay (start_at all (slots_from clock slots floor rest) (m + k))
stand_from all clock order [] slots floor m e same f k h = absurd (omega arith)
stand_from all clock order (n ∷ rest) slots floor m e same f zero h = first_stands all clock order n rest slots floor m e same f
stand_from all clock order (n ∷ rest) slots floor m e same f (suc k) h =
    let s = slot_of clock slots floor n in
    let more = slots_more clock slots floor n rest in
    let place : m + suc k ≡ suc m + k = omega arith in
    let f' : raised floor n.role s.stage ≡ floor_at all (slots_from clock (slots ++ s ∷ []) (raised floor n.role s.stage) rest) (suc m) = next_floor all clock n rest slots floor m e same f in
    let rest_stands = stand_from all clock order rest (slots ++ s ∷ []) (raised floor n.role s.stage) (suc m) (omega (arith, length-append slots (s ∷ [])))
    (λ j. (let p : suc m + j ≡ m + suc j = omega arith in ap (node_at all) p ∙ same (suc j))) f' k (omega arith) in
    subst (λ xs. slot_at xs (m + suc k) ≡ slotted clock (node_at rest k).delay (start_at all xs (m + suc k))) (sym more)
    (subst (λ j. slot_at (slots_from clock (slots ++ s ∷ []) (raised floor n.role s.stage) rest) j ≡ slotted clock (node_at rest k).delay (start_at all (slots_from clock (slots ++ s ∷ []) (raised floor n.role s.stage) rest) j)) (sym place) rest_stands)

pub are_placed : (nodes : List TimedNode) (clock : ℕ) (slots : List Slot) → AreSlotsInTime nodes clock slots → AreSourcesEarlier nodes → AreSlotted nodes clock slots
are_placed nodes clock slots s order = record {
  count = s.count;
  order = order;
  in_time = λ i. ⊎_elim (s.in_time i) (λ h. (let e = ap (λ (n : TimedNode). n.delay) (past nodes i h) in omega arith)) (cases_lt i (length nodes));
  slotted = λ i h. subst (λ xs. slot_at xs i ≡ slotted clock (node_at nodes i).delay (start_at nodes xs i)) (sym s.exact) (stands i h);
}
  where
    stands : (i : ℕ) → i < length nodes → slot_at (slots_of clock nodes) i ≡ slotted clock (node_at nodes i).delay (start_at nodes (slots_of clock nodes) i)
    stands i h =
        let z : 0 + i ≡ i = omega arith in
        subst (λ j. slot_at (slots_of clock nodes) j ≡ slotted clock (node_at nodes i).delay (start_at nodes (slots_of clock nodes) j)) z
        (stand_from nodes clock order nodes [] no_floor 0 refl (λ k. (let y : 0 + k ≡ k = omega arith in ap (node_at nodes) y)) refl i h)
