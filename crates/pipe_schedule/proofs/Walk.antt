-- The walk over all nodes, one by one.
use Rattle.std.proofs.Common.{length-append, ◌≡◌, ℕ, zero, suc, ◌+◌, ◌*◌, ◌<◌, ◌≤◌, List, [], ◌∷◌, ◌++◌, drop, length, get_or, refl, sym, ap, subst, ◌∙◌, arith, inl, inr, ◌⊎◌, ⊎_elim}
use Rattle.std.specs.Prelude.{slice_get}
use Rattle.std.proofs.lemmas.Bool.{cases_lt}
use Rattle.std.proofs.lemmas.List.{get_or-map}
use Rattle.ir_tree.specs.declared.node.Node.{Node}
use Rattle.ir_tree.specs.declared.package.Proc.{Proc}
use Rattle.ir_tree.specs.declared.node.Role.{Role}
use Rattle.ir_tree.specs.declared.node.Role.TheVariants as role
use Rattle.pipe_schedule.specs.declared.slot.Slot.{Slot}
use Rattle.pipe_schedule.specs.declared.slot.Floor.{Floor}
use Rattle.pipe_schedule.specs.Timed.{TimedNode, node_at, no_node}
use Rattle.pipe_schedule.specs.Inner.Delays.{timed_node_within, timed_within}
use Rattle.pipe_schedule.specs.Inner.Slots.{later, later_if, latest, slotted, lowest, raised, slot_of, slots_from, slots_of, AreUpTo, AreSlotsInTime}
use Rattle.pipe_schedule.proofs.Placing.{later_is, one_of, placed_is, placed_most}

pub slots_end : (clock : ℕ) (slots : List Slot) (floor : Floor) → slots_from clock slots floor [] ≡ slots
unfolding slots_from
slots_end clock slots floor = refl

pub slots_more : (clock : ℕ) (slots : List Slot) (floor : Floor) (n : TimedNode) (ns : List TimedNode) → slots_from clock slots floor (n ∷ ns) ≡ slots_from clock (slots ++ slot_of clock slots floor n ∷ []) (raised floor n.role (slot_of clock slots floor n).stage) ns
unfolding slots_from
slots_more clock slots floor n ns = refl

pub slots_step : (clock : ℕ) (slots : List Slot) (floor : Floor) (nodes : List TimedNode) (i : ℕ) → i < length nodes
    → slots_from clock slots floor (drop i nodes) ≡ slots_from clock (slots ++ slot_of clock slots floor (node_at nodes i) ∷ []) (raised floor (node_at nodes i).role (slot_of clock slots floor (node_at nodes i)).stage) (drop (suc i) nodes)
slots_step clock slots floor [] i h = absurd (omega arith)
slots_step clock slots floor (n ∷ nodes) zero h = slots_more clock slots floor n nodes
slots_step clock slots floor (n ∷ nodes) (suc i) h = slots_step clock slots floor nodes i (omega arith)

-- ---- stages stay low

later_most : (a b : Slot) (m : ℕ) → a.stage ≤ m → b.stage ≤ m → (later a b).stage ≤ m
later_most a b m h k = by (one_of a b (later a b) (later_is a b))
  where
    by : (later a b ≡ a) ⊎ (later a b ≡ b) → (later a b).stage ≤ m
    by (inl e) = let f : (later a b).stage ≡ a.stage = ap (λ (s : Slot). s.stage) e in omega arith
    by (inr e) = let f : (later a b).stage ≡ b.stage = ap (λ (s : Slot). s.stage) e in omega arith

if_most : (slots : List Slot) (at : Slot) (j m : ℕ) → AreUpTo slots m → at.stage ≤ m → (later_if at (slice_get slots j)).stage ≤ m
if_most [] at j m h k = k
if_most (s ∷ slots) at zero m h k = later_most at s m k (h 0 s (omega arith))
if_most (s ∷ slots) at (suc j) m h k = if_most slots at j m (λ i d l. h (suc i) d (omega arith)) k

pub latest_most : (slots : List Slot) (at : Slot) (js : List ℕ) (m : ℕ) → AreUpTo slots m → at.stage ≤ m → (latest slots at js).stage ≤ m
latest_most slots at [] m h k = k
latest_most slots at (j ∷ js) m h k = latest_most slots (later_if at (slice_get slots j)) js m h (if_most slots at j m h k)

pub placed_up : (clock delay : ℕ) (at : Slot) (m : ℕ) → at.stage ≤ m → (slotted clock delay at).stage ≤ m + 1
placed_up clock delay at m h = let x = placed_most clock delay at (slotted clock delay at) (placed_is clock delay at) in omega arith

pub lowest_up : (floor : Floor) (r : Role) (m : ℕ) → floor.send ≤ m → floor.receive ≤ m → lowest floor r ≤ m
lowest_up floor role.Pure m h k = omega arith
lowest_up floor (role.Receive predicate c) m h k = k
lowest_up floor (role.Send predicate c) m h k = h

pub up_none : (m : ℕ) → AreUpTo [] m
up_none m k d h = absurd (omega arith)

pub up_more : (slots : List Slot) (s : Slot) (m n : ℕ) → m ≤ n → AreUpTo slots m → s.stage ≤ n → AreUpTo (slots ++ s ∷ []) n
up_more [] s m n l h k zero d i = k
up_more [] s m n l h k (suc j) d i = absurd (omega arith)
up_more (t ∷ slots) s m n l h k zero d i = let x = h 0 t (omega arith) in omega arith
up_more (t ∷ slots) s m n l h k (suc j) d i = up_more slots s m n l (λ i d l. h (suc i) d (omega arith)) k j d (omega arith)

pub raised_send : (floor : Floor) (r : Role) (k m : ℕ) → floor.send ≤ m → k ≤ m → (raised floor r k).send ≤ m
raised_send floor role.Pure k m h l = h
raised_send floor (role.Receive predicate c) k m h l = l
raised_send floor (role.Send predicate c) k m h l = l

pub raised_receive : (floor : Floor) (r : Role) (k m : ℕ) → floor.receive ≤ m + 1 → k ≤ m → (raised floor r k).receive ≤ m + 1
raised_receive floor role.Pure k m h l = h
raised_receive floor (role.Receive predicate c) k m h l = omega arith
raised_receive floor (role.Send predicate c) k m h l = omega arith

-- ---- the walk so far

pub record IsWalkedTo (nodes : List TimedNode) (clock i : ℕ) (slots : List Slot) (floor : Floor) : Type 0 where
  pub exact : slots_from clock slots floor (drop i nodes) ≡ slots_of clock nodes
  pub count : length slots ≡ i
  pub up_to : AreUpTo slots (2 * i)
  pub send : floor.send ≤ 2 * i
  pub receive : floor.receive ≤ 2 * i + 1
  pub in_time : (k : ℕ) → k < i → (node_at nodes k).delay ≤ clock

pub up_weak : (slots : List Slot) (m n : ℕ) → m ≤ n → AreUpTo slots m → AreUpTo slots n
up_weak slots m n l h k d i = let x = h k d i in omega arith

-- where the next node may start
pub latest_low : (slots : List Slot) (floor : Floor) (r : Role) (js : List ℕ) (i : ℕ) (at : Slot) → at ≡ latest slots (record { stage = lowest floor r; time = 0 }) js
    → AreUpTo slots (2 * i) → floor.send ≤ 2 * i → floor.receive ≤ 2 * i + 1 → at.stage ≤ 2 * i + 1
latest_low slots floor r js i at e u s t =
    let x = latest_most slots (record { stage = lowest floor r; time = 0 }) js (2 * i + 1) (up_weak slots (2 * i) (2 * i + 1) (omega arith) u) (lowest_up floor r (2 * i + 1) (omega arith) t) in
    let f : at.stage ≡ (latest slots (record { stage = lowest floor r; time = 0 }) js).stage = ap (λ (s : Slot). s.stage) e in
    omega arith

pub placed_low : (clock delay i : ℕ) (at s : Slot) → s ≡ slotted clock delay at → at.stage ≤ 2 * i + 1 → s.stage ≤ 2 * i + 2
placed_low clock delay i at s e h =
    let x = placed_up clock delay at (2 * i + 1) h in
    let f : s.stage ≡ (slotted clock delay at).stage = ap (λ (s : Slot). s.stage) e in
    omega arith

pub slot_is : (clock : ℕ) (slots : List Slot) (floor : Floor) (n : TimedNode) (delay : ℕ) (r : Role) (start at s : Slot)
    → n.delay ≡ delay → n.role ≡ r → start ≡ record { stage = lowest floor r; time = 0 } → at ≡ latest slots start n.sources → s ≡ slotted clock delay at → s ≡ slot_of clock slots floor n
slot_is clock slots floor n delay r start at s d e f g h =
    h
    ∙ ap (slotted clock delay) (g ∙ ap (λ x. latest slots x n.sources) (f ∙ ap (λ x. record { stage = lowest floor x; time = 0 }) (sym e)))
    ∙ ap (λ x. slotted clock x (latest slots (record { stage = lowest floor n.role; time = 0 }) n.sources)) (sym d)

up_at_end : (i : ℕ) (s : Slot) (slots : List Slot) → AreUpTo slots (2 * i) → s.stage ≤ 2 * i + 2 → AreUpTo (slots ++ s ∷ []) (2 * (i + 1))
up_at_end i s slots u l = up_more slots s (2 * i) (2 * (i + 1)) (omega arith) u (omega arith)

drop_more : (nodes : List TimedNode) (i : ℕ) → drop (suc i) nodes ≡ drop (i + 1) nodes
drop_more nodes i = let e : suc i ≡ i + 1 = omega arith in ap (λ k. drop k nodes) e

pub walk_step : (nodes : List TimedNode) (clock i : ℕ) (slots : List Slot) (floor : Floor) → IsWalkedTo nodes clock i slots floor → i < length nodes → (node_at nodes i).delay ≤ clock
    → (s : Slot) → s ≡ slot_of clock slots floor (node_at nodes i) → s.stage ≤ 2 * i + 2 → IsWalkedTo nodes clock (i + 1) (slots ++ s ∷ []) (raised floor (node_at nodes i).role s.stage)
walk_step nodes clock i slots floor w h d s e l = record {
  exact =
      ap (slots_from clock (slots ++ s ∷ []) (raised floor (node_at nodes i).role s.stage)) (sym (drop_more nodes i))
      ∙ ap (λ (x : Slot). slots_from clock (slots ++ x ∷ []) (raised floor (node_at nodes i).role x.stage) (drop (suc i) nodes)) e
      ∙ sym (slots_step clock slots floor nodes i h)
      ∙ w.exact;
  count = let c = w.count in omega (arith, c, length-append slots (s ∷ []));
  up_to = up_at_end i s slots w.up_to l;
  send = raised_send floor (node_at nodes i).role s.stage (2 * (i + 1)) (let x = w.send in omega arith) (omega arith);
  receive = raised_receive floor (node_at nodes i).role s.stage (2 * (i + 1)) (let x = w.receive in omega arith) (omega arith);
  in_time = λ k j. ⊎_elim (λ a. w.in_time k a) (λ a. (let same : i ≡ k = omega arith in subst (λ x. (node_at nodes x).delay ≤ clock) same d)) (cases_lt k i);
}

drop_end : (nodes : List TimedNode) (i : ℕ) → length nodes ≤ i → drop i nodes ≡ []
drop_end [] zero h = refl
drop_end [] (suc i) h = refl
drop_end (n ∷ nodes) zero h = absurd (omega arith)
drop_end (n ∷ nodes) (suc i) h = drop_end nodes i (omega arith)

pub walk_end : (nodes : List TimedNode) (clock i : ℕ) (slots : List Slot) (floor : Floor) → IsWalkedTo nodes clock i slots floor → i ≡ length nodes → AreSlotsInTime nodes clock slots
walk_end nodes clock i slots floor w e = record {
  exact = sym (slots_end clock slots floor) ∙ ap (slots_from clock slots floor) (sym (drop_end nodes i (omega arith))) ∙ w.exact;
  count = w.count ∙ e;
  up_to = subst (λ k. AreUpTo slots (2 * k)) e w.up_to;
  in_time = λ k h. w.in_time k (omega arith);
}

-- the node that the code reads
pub node_is : (p : Proc) (nodes : List Node) (i : ℕ) (n : Node) → nodes ≡ p.nodes → i < length nodes → n ≡ get_or nodes i n → node_at (timed_within p) i ≡ timed_node_within p.state p.nodes n
node_is p nodes i n e h f =
    let l : i < length p.nodes = subst (λ (ns : List Node). i < length ns) e h in
    get_or-map (timed_node_within p.state p.nodes) p.nodes i n no_node l
    ∙ ap (timed_node_within p.state p.nodes) (ap (λ (ns : List Node). get_or ns i n) (sym e) ∙ sym f)
