-- Nodes that are placed have the least schedule.
use Rattle.std.proofs.Common.{◌≡◌, ℕ, zero, suc, ◌+◌, ◌<◌, ◌≤◌, List, [], ◌∷◌, length, Bool, false, IsTrue, refl, sym, ap, subst, ◌∙◌, arith, ◌⊎◌, inl, inr, ⊎_elim}
use Rattle.std.specs.Prelude.{Contains}
use Rattle.std.proofs.lemmas.Bool.{cases_lt}
use Rattle.std.proofs.lemmas.List.{length-map}
use Rattle.std.proofs.Math.ListN.{get_or-map}
use Rattle.ir_tree.specs.declared.node.Role.{Role}
use Rattle.ir_tree.specs.declared.node.Role.TheVariants as role
use Rattle.pipe_schedule.specs.declared.slot.Slot.{Slot}
use Rattle.pipe_schedule.specs.declared.slot.Floor.{Floor}
use Rattle.pipe_schedule.specs.Timed.{TimedNode, node_at, no_node, IsSource, is_site, is_receive, is_send, IsSite, IsReceive, IsSend}
use Rattle.pipe_schedule.specs.Legal.{stage_of, IsPath, AreInStage, path_delay, IsLegalAt, IsLeastAt}
use Rattle.pipe_schedule.specs.Inner.Slots.{lowest, raised, stages_of, no_slot, slot_at, floor_at, start_at, AreSlotted}
use Rattle.pipe_schedule.proofs.Placing.{IsUnder, contains_none, latest_over, latest_source, LatestIs, start, source, latest_is, PlacedIs, here, next, placed_is, placed_over, placed_takes, placed_adds, placed_within}

pub stage_at : (slots : List Slot) (i : ℕ) → stage_of (stages_of slots) i ≡ (slot_at slots i).stage
stage_at slots i = get_or-map (λ (s : Slot). s.stage) slots i no_slot

pub past : (nodes : List TimedNode) (i : ℕ) → length nodes ≤ i → node_at nodes i ≡ no_node
past [] i h = refl
past (n ∷ nodes) zero h = absurd (omega arith)
past (n ∷ nodes) (suc i) h = past nodes i (omega arith)

-- what has a source is there
pub source_there : (nodes : List TimedNode) (i j : ℕ) → IsSource nodes i j → i < length nodes
source_there nodes i j s = ⊎_elim (λ h. h) (λ h. absurd (contains_none j (subst (λ (n : TimedNode). Contains n.sources j) (past nodes i h) s))) (cases_lt i (length nodes))

-- so is each site
pub site_there : (nodes : List TimedNode) (i : ℕ) → IsSite nodes i → i < length nodes
site_there nodes i s = ⊎_elim (λ h. h) (λ h. absurd (no (subst (λ (n : TimedNode). IsTrue (is_site n.role)) (past nodes i h) s))) (cases_lt i (length nodes))
  where
    no : IsTrue false → ⊥
    no e = cc

receive_is_site : (r : Role) → IsTrue (is_receive r) → IsTrue (is_site r)
receive_is_site role.Pure e = absurd (cc)
receive_is_site (role.Receive predicate c) e = refl
receive_is_site (role.Send predicate c) e = refl

send_is_site : (r : Role) → IsTrue (is_send r) → IsTrue (is_site r)
send_is_site role.Pure e = absurd (cc)
send_is_site (role.Receive predicate c) e = refl
send_is_site (role.Send predicate c) e = refl

-- ---- one node behind the others

behind : (nodes : List TimedNode) (clock : ℕ) (slots : List Slot) → AreSlotted nodes clock slots → (i : ℕ) → i < length nodes → PlacedIs clock (node_at nodes i).delay (start_at nodes slots i) (slot_at slots i)
behind nodes clock slots p i h =
    subst (PlacedIs clock (node_at nodes i).delay (start_at nodes slots i)) (sym (p.slotted i h)) (placed_is clock (node_at nodes i).delay (start_at nodes slots i))

earlier : (nodes : List TimedNode) (clock : ℕ) (slots : List Slot) → AreSlotted nodes clock slots → (i j : ℕ) → IsSource nodes i j → j < length slots
earlier nodes clock slots p i j s =
    let a = p.order i j s in
    let b = source_there nodes i j s in
    let c = p.count in
    omega arith

under : (nodes : List TimedNode) (clock : ℕ) (slots : List Slot) → AreSlotted nodes clock slots → (i j : ℕ) → IsSource nodes i j → IsUnder (slot_at slots j) (start_at nodes slots i)
under nodes clock slots p i j s = latest_source slots (record { stage = lowest (floor_at nodes slots i) (node_at nodes i).role; time = 0 }) (node_at nodes i).sources j s (earlier nodes clock slots p i j s)

source_stage : (nodes : List TimedNode) (clock : ℕ) (slots : List Slot) → AreSlotted nodes clock slots → (i j : ℕ) → IsSource nodes i j → (slot_at slots j).stage ≤ (slot_at slots i).stage
source_stage nodes clock slots p i j s =
    let u = (under nodes clock slots p i j s).stage in
    let v = placed_over clock (node_at nodes i).delay (start_at nodes slots i) (slot_at slots i) (behind nodes clock slots p i (source_there nodes i j s)) in
    omega arith

-- a node stands as high as the sites before it ask
above : (nodes : List TimedNode) (clock : ℕ) (slots : List Slot) → AreSlotted nodes clock slots → (i : ℕ) → i < length nodes → lowest (floor_at nodes slots i) (node_at nodes i).role ≤ (slot_at slots i).stage
above nodes clock slots p i h =
    let u = (latest_over slots (record { stage = lowest (floor_at nodes slots i) (node_at nodes i).role; time = 0 }) (node_at nodes i).sources).stage in
    let v = placed_over clock (node_at nodes i).delay (start_at nodes slots i) (slot_at slots i) (behind nodes clock slots p i h) in
    omega arith

-- ---- paths

-- no path in one stage takes longer than its last node's time
times : (nodes : List TimedNode) (clock : ℕ) (slots : List Slot) → AreSlotted nodes clock slots → (k i : ℕ) (path : List ℕ) → IsPath nodes (i ∷ path) → AreInStage (stages_of slots) k (i ∷ path) → path_delay nodes (i ∷ path) ≤ (slot_at slots i).time
times nodes clock slots p k i [] there stand =
    let t = placed_takes clock (node_at nodes i).delay (start_at nodes slots i) (slot_at slots i) (behind nodes clock slots p i there) in
    omega arith
times nodes clock slots p k i (j ∷ path) (s, there) (e, (f, stand)) =
    let t = times nodes clock slots p k j path there (f, stand) in
    let same : (slot_at slots j).stage ≡ (slot_at slots i).stage = sym (stage_at slots j) ∙ f ∙ sym e ∙ stage_at slots i in
    let a = placed_adds clock (node_at nodes i).delay (start_at nodes slots i) (slot_at slots i) (slot_at slots j) (under nodes clock slots p i j s) (behind nodes clock slots p i (source_there nodes i j s)) same in
    omega arith

path_there : (nodes : List TimedNode) (i : ℕ) (path : List ℕ) → IsPath nodes (i ∷ path) → i < length nodes
path_there nodes i [] there = there
path_there nodes i (j ∷ path) (s, there) = source_there nodes i j s

paths : (nodes : List TimedNode) (clock : ℕ) (slots : List Slot) → AreSlotted nodes clock slots → (k : ℕ) (path : List ℕ) → IsPath nodes path → AreInStage (stages_of slots) k path → path_delay nodes path ≤ clock
paths nodes clock slots p k [] there stand = omega arith
paths nodes clock slots p k (i ∷ path) there stand =
    let t = times nodes clock slots p k i path there stand in
    let w = placed_within clock (node_at nodes i).delay (start_at nodes slots i) (slot_at slots i) (p.in_time i) (behind nodes clock slots p i (path_there nodes i path there)) in
    omega arith

-- a path that ends with a node, in its stage, and takes so long
pub record EndsAt (nodes : List TimedNode) (slots : List Slot) (i total : ℕ) : Type 0 where
  pub path : List ℕ
  pub is : IsPath nodes (i ∷ path)
  pub stand : AreInStage (stages_of slots) (slot_at slots i).stage (i ∷ path)
  pub takes : path_delay nodes (i ∷ path) ≡ total

alone : (nodes : List TimedNode) (slots : List Slot) (i : ℕ) → i < length nodes → EndsAt nodes slots i (node_at nodes i).delay
alone nodes slots i h = record { path = []; is = h; stand = (stage_at slots i, tt); takes = omega arith }

longer : (nodes : List TimedNode) (slots : List Slot) (i j : ℕ) → IsSource nodes i j → (slot_at slots i).stage ≡ (slot_at slots j).stage → EndsAt nodes slots j (slot_at slots j).time → EndsAt nodes slots i ((slot_at slots j).time + (node_at nodes i).delay)
longer nodes slots i j s e w = record {
  path = j ∷ w.path;
  is = (s, w.is);
  stand = (stage_at slots i, subst (λ k. AreInStage (stages_of slots) k (j ∷ w.path)) (sym e) w.stand);
  takes = let t = w.takes in omega arith;
}

witness_step : (nodes : List TimedNode) (clock : ℕ) (slots : List Slot) → AreSlotted nodes clock slots → (i : ℕ) → i < length nodes → ((j : ℕ) → j < i → EndsAt nodes slots j (slot_at slots j).time)
    → (at s : Slot) → slot_at slots i ≡ s → LatestIs slots (record { stage = lowest (floor_at nodes slots i) (node_at nodes i).role; time = 0 }) (node_at nodes i).sources at → PlacedIs clock (node_at nodes i).delay at s → EndsAt nodes slots i s.time
witness_step nodes clock slots p i h before at s e o (next m) = alone nodes slots i h
witness_step nodes clock slots p i h before at s e start (here m) = subst (EndsAt nodes slots i) (omega arith) (alone nodes slots i h)
witness_step nodes clock slots p i h before at s e (source j c) (here m) =
    longer nodes slots i j c (ap (λ (x : Slot). x.stage) e) (before j (p.order i j c))

-- the time of a node is that of a path
witness : (nodes : List TimedNode) (clock : ℕ) (slots : List Slot) → AreSlotted nodes clock slots → (n i : ℕ) → i < n → i < length nodes → EndsAt nodes slots i (slot_at slots i).time
witness nodes clock slots p zero i l h = absurd (omega arith)
witness nodes clock slots p (suc n) i l h =
    witness_step nodes clock slots p i h (λ j k. witness nodes clock slots p n j (omega arith) (omega arith)) (start_at nodes slots i) (slot_at slots i) refl
    (latest_is slots (record { stage = lowest (floor_at nodes slots i) (node_at nodes i).role; time = 0 }) (node_at nodes i).sources (λ j s. earlier nodes clock slots p i j s))
    (behind nodes clock slots p i h)

-- ---- sites

-- what the sites before a place leave to those behind is no lower than a stage, and higher than that of a send
record IsBelow (k : ℕ) (sends : Bool) (floor : Floor) : Type 0 where
  send : k ≤ floor.send
  receive : k ≤ floor.receive
  answer : IsTrue sends → k < floor.receive

more_below : (k : ℕ) (sends : Bool) (floor : Floor) (r : Role) (m : ℕ) → IsBelow k sends floor → lowest floor r ≤ m → IsBelow k sends (raised floor r m)
more_below k sends floor role.Pure m b l = b
more_below k sends floor (role.Receive predicate c) m b l = record {
  send = let x = b.receive in omega arith;
  receive = let x = b.receive in omega arith;
  answer = λ t. (let x = b.answer t in omega arith);
}
more_below k sends floor (role.Send predicate c) m b l = record {
  send = let x = b.send in omega arith;
  receive = let x = b.send in omega arith;
  answer = λ t. (let x = b.send in omega arith);
}

own_below : (floor : Floor) (r : Role) (m : ℕ) → IsTrue (is_site r) → IsBelow m (is_send r) (raised floor r m)
own_below floor role.Pure m s = absurd (cc)
own_below floor (role.Receive predicate c) m s = record { send = omega arith; receive = omega arith; answer = λ t. absurd (cc) }
own_below floor (role.Send predicate c) m s = record { send = omega arith; receive = omega arith; answer = λ t. omega arith }

below_step : (nodes : List TimedNode) (clock : ℕ) (slots : List Slot) → AreSlotted nodes clock slots → (j i : ℕ) → suc j ≤ length nodes → i < suc j → IsSite nodes i
    → (i < j → IsBelow (slot_at slots i).stage (is_send (node_at nodes i).role) (floor_at nodes slots j)) → (i < j) ⊎ (j ≤ i) → IsBelow (slot_at slots i).stage (is_send (node_at nodes i).role) (floor_at nodes slots (suc j))
below_step nodes clock slots p j i h l s before (inl less) =
    more_below (slot_at slots i).stage (is_send (node_at nodes i).role) (floor_at nodes slots j) (node_at nodes j).role (slot_at slots j).stage
    (before less) (above nodes clock slots p j (omega arith))
below_step nodes clock slots p j i h l s before (inr past) =
    let same : i ≡ j = omega arith in
    subst (λ x. IsBelow (slot_at slots i).stage (is_send (node_at nodes i).role) (raised (floor_at nodes slots x) (node_at nodes x).role (slot_at slots x).stage)) same
    (own_below (floor_at nodes slots i) (node_at nodes i).role (slot_at slots i).stage s)

below : (nodes : List TimedNode) (clock : ℕ) (slots : List Slot) → AreSlotted nodes clock slots → (j i : ℕ) → i < j → j ≤ length nodes → IsSite nodes i → IsBelow (slot_at slots i).stage (is_send (node_at nodes i).role) (floor_at nodes slots j)
below nodes clock slots p zero i l h s = absurd (omega arith)
below nodes clock slots p (suc j) i l h s = below_step nodes clock slots p j i h l s (λ less. below nodes clock slots p j i less (omega arith) s) (cases_lt i j)

site_low : (floor : Floor) (r : Role) (k m : ℕ) (sends : Bool) → IsTrue (is_site r) → IsBelow k sends floor → lowest floor r ≤ m → k ≤ m
site_low floor role.Pure k m sends s b l = absurd (cc)
site_low floor (role.Receive predicate c) k m sends s b l = let x = b.receive in omega arith
site_low floor (role.Send predicate c) k m sends s b l = let x = b.send in omega arith

answer_low : (floor : Floor) (r : Role) (k m : ℕ) (sends : Bool) → IsTrue (is_receive r) → IsTrue sends → IsBelow k sends floor → lowest floor r ≤ m → k < m
answer_low floor role.Pure k m sends s t b l = absurd (cc)
answer_low floor (role.Receive predicate c) k m sends s t b l = let x = b.answer t in omega arith
answer_low floor (role.Send predicate c) k m sends s t b l = absurd (cc)

chain : (nodes : List TimedNode) (clock : ℕ) (slots : List Slot) → AreSlotted nodes clock slots → (i j : ℕ) → i < j → IsSite nodes i → IsSite nodes j → (slot_at slots i).stage ≤ (slot_at slots j).stage
chain nodes clock slots p i j l s t =
    let h = site_there nodes j t in
    site_low (floor_at nodes slots j) (node_at nodes j).role (slot_at slots i).stage (slot_at slots j).stage (is_send (node_at nodes i).role) t
    (below nodes clock slots p j i l (omega arith) s) (above nodes clock slots p j h)

answers : (nodes : List TimedNode) (clock : ℕ) (slots : List Slot) → AreSlotted nodes clock slots → (i j : ℕ) → i < j → IsSend nodes i → IsReceive nodes j → (slot_at slots i).stage < (slot_at slots j).stage
answers nodes clock slots p i j l s t =
    let h = site_there nodes j (receive_is_site (node_at nodes j).role t) in
    answer_low (floor_at nodes slots j) (node_at nodes j).role (slot_at slots i).stage (slot_at slots j).stage (is_send (node_at nodes i).role) t s
    (below nodes clock slots p j i l (omega arith) (send_is_site (node_at nodes i).role s)) (above nodes clock slots p j h)

-- ---- the schedule is legal

pub legal : (nodes : List TimedNode) (clock : ℕ) (slots : List Slot) → AreSlotted nodes clock slots → IsLegalAt nodes clock (stages_of slots)
legal nodes clock slots p = record {
  count = length-map slots (λ (s : Slot). s.stage) ∙ p.count;
  operands = λ i j s. (let x = source_stage nodes clock slots p i j s in let a = stage_at slots i in let b = stage_at slots j in omega arith);
  paths = paths nodes clock slots p;
  chain = λ i j l s t. (let x = chain nodes clock slots p i j l s t in let a = stage_at slots i in let b = stage_at slots j in omega arith);
  answers = λ i j l s t. (let x = answers nodes clock slots p i j l s t in let a = stage_at slots i in let b = stage_at slots j in omega arith);
}

-- ---- and the least

-- what the sites before a place leave is no more than any schedule has behind it
record IsFloorOf (nodes : List TimedNode) (other : List ℕ) (floor : Floor) (j : ℕ) : Type 0 where
  send : (k : ℕ) → j ≤ k → IsSite nodes k → floor.send ≤ stage_of other k
  receive : (k : ℕ) → j ≤ k → IsReceive nodes k → floor.receive ≤ stage_of other k

raised_floor : (nodes : List TimedNode) (clock : ℕ) (other : List ℕ) → IsLegalAt nodes clock other → (floor : Floor) (j m : ℕ) (r : Role) → (node_at nodes j).role ≡ r → m ≤ stage_of other j → IsFloorOf nodes other floor j → IsFloorOf nodes other (raised floor r m) (suc j)
raised_floor nodes clock other o floor j m role.Pure e l f = record {
  send = λ k h s. f.send k (omega arith) s;
  receive = λ k h s. f.receive k (omega arith) s;
}
raised_floor nodes clock other o floor j m (role.Receive predicate c) e l f = record {
  send = λ k h s. (let x = o.chain j k (omega arith) (ap is_site e) s in omega arith);
  receive = λ k h s. (let x = o.chain j k (omega arith) (ap is_site e) (receive_is_site (node_at nodes k).role s) in omega arith);
}
raised_floor nodes clock other o floor j m (role.Send predicate c) e l f = record {
  send = λ k h s. (let x = o.chain j k (omega arith) (ap is_site e) s in omega arith);
  receive = λ k h s. (let x = o.answers j k (omega arith) (ap is_send e) s in omega arith);
}

floors : (nodes : List TimedNode) (clock : ℕ) (slots : List Slot) (other : List ℕ) → IsLegalAt nodes clock other → (j : ℕ) → ((i : ℕ) → i < j → (slot_at slots i).stage ≤ stage_of other i) → IsFloorOf nodes other (floor_at nodes slots j) j
floors nodes clock slots other o zero h = record { send = λ k l s. omega arith; receive = λ k l s. omega arith }
floors nodes clock slots other o (suc j) h =
    raised_floor nodes clock other o (floor_at nodes slots j) j (slot_at slots j).stage (node_at nodes j).role refl (h j (omega arith))
    (floors nodes clock slots other o j (λ i l. h i (omega arith)))

lowest_floor : (nodes : List TimedNode) (other : List ℕ) (floor : Floor) (j : ℕ) (r : Role) → (node_at nodes j).role ≡ r → IsFloorOf nodes other floor j → lowest floor r ≤ stage_of other j
lowest_floor nodes other floor j role.Pure e f = omega arith
lowest_floor nodes other floor j (role.Receive predicate c) e f = f.receive j (omega arith) (ap is_receive e)
lowest_floor nodes other floor j (role.Send predicate c) e f = f.send j (omega arith) (ap is_site e)

-- a path in one stage that ends where another schedule has the same stage stands in that stage there
stands : (nodes : List TimedNode) (clock : ℕ) (slots : List Slot) → AreSlotted nodes clock slots → (other : List ℕ) → IsLegalAt nodes clock other → (i : ℕ) → ((j : ℕ) → j < i → (slot_at slots j).stage ≤ stage_of other j)
    → (k j : ℕ) (path : List ℕ) → j < i → stage_of other j ≡ k → IsPath nodes (j ∷ path) → AreInStage (stages_of slots) k (j ∷ path) → AreInStage other k (j ∷ path)
stands nodes clock slots p other o i h k j [] l e there stand = (e, tt)
stands nodes clock slots p other o i h k j (q ∷ path) l e (s, there) (a, (b, stand)) =
    let before = p.order j q s in
    let up = o.operands j q s in
    let down = h q (omega arith) in
    let at = stage_at slots q in
    (e, stands nodes clock slots p other o i h k q path (omega arith) (omega arith) there (b, stand))

-- a source whose path leaves too little time isn't of the same stage
tight : (nodes : List TimedNode) (clock : ℕ) (slots : List Slot) → AreSlotted nodes clock slots → (other : List ℕ) → IsLegalAt nodes clock other → (i : ℕ) → i < length nodes → ((j : ℕ) → j < i → (slot_at slots j).stage ≤ stage_of other j)
    → (j : ℕ) → IsSource nodes i j → clock < (slot_at slots j).time + (node_at nodes i).delay → stage_of other i ≡ (slot_at slots j).stage → ⊥
tight nodes clock slots p other o i h before j s m e =
    let l = p.order i j s in
    let up = o.operands i j s in
    let down = before j l in
    let same : stage_of other j ≡ (slot_at slots j).stage = omega arith in
    let w = witness nodes clock slots p (suc j) j (omega arith) (omega arith) in
    let stand = stands nodes clock slots p other o i before (slot_at slots j).stage j w.path l same w.is w.stand in
    let most = o.paths (slot_at slots j).stage (i ∷ j ∷ w.path) (s, w.is) (e, stand) in
    let t = w.takes in
    omega arith

least_step : (nodes : List TimedNode) (clock : ℕ) (slots : List Slot) → AreSlotted nodes clock slots → (other : List ℕ) → IsLegalAt nodes clock other → (i : ℕ) → i < length nodes → ((j : ℕ) → j < i → (slot_at slots j).stage ≤ stage_of other j)
    → (at s : Slot) → LatestIs slots (record { stage = lowest (floor_at nodes slots i) (node_at nodes i).role; time = 0 }) (node_at nodes i).sources at → PlacedIs clock (node_at nodes i).delay at s → s.stage ≤ stage_of other i
least_step nodes clock slots p other o i h before at s start (here m) =
    lowest_floor nodes other (floor_at nodes slots i) i (node_at nodes i).role refl (floors nodes clock slots other o i before)
least_step nodes clock slots p other o i h before at s start (next m) = let t = p.in_time i in absurd (omega arith)
least_step nodes clock slots p other o i h before at s (source j c) (here m) = let b = before j (p.order i j c) in let up = o.operands i j c in omega arith
least_step nodes clock slots p other o i h before at s (source j c) (next m) =
    let b = before j (p.order i j c) in
    let up = o.operands i j c in
    let apart : stage_of other i ≡ (slot_at slots j).stage → ⊥ = tight nodes clock slots p other o i h before j c m in
    omega arith

least_at : (nodes : List TimedNode) (clock : ℕ) (slots : List Slot) → AreSlotted nodes clock slots → (other : List ℕ) → IsLegalAt nodes clock other → (n i : ℕ) → i < n → i < length nodes → (slot_at slots i).stage ≤ stage_of other i
least_at nodes clock slots p other o zero i l h = absurd (omega arith)
least_at nodes clock slots p other o (suc n) i l h =
    least_step nodes clock slots p other o i h (λ j k. least_at nodes clock slots p other o n j (omega arith) (omega arith)) (start_at nodes slots i) (slot_at slots i)
    (latest_is slots (record { stage = lowest (floor_at nodes slots i) (node_at nodes i).role; time = 0 }) (node_at nodes i).sources (λ j s. earlier nodes clock slots p i j s))
    (behind nodes clock slots p i h)

pub past_slots : (slots : List Slot) (i : ℕ) → length slots ≤ i → slot_at slots i ≡ no_slot
past_slots [] i h = refl
past_slots (s ∷ slots) zero h = absurd (omega arith)
past_slots (s ∷ slots) (suc i) h = past_slots slots i (omega arith)

pub least : (nodes : List TimedNode) (clock : ℕ) (slots : List Slot) → AreSlotted nodes clock slots → IsLeastAt nodes clock (stages_of slots)
least nodes clock slots p = record { legal = legal nodes clock slots p; least = each }
  where
    each : (other : List ℕ) → IsLegalAt nodes clock other → (i : ℕ) → stage_of (stages_of slots) i ≤ stage_of other i
    each other o i =
        let e = stage_at slots i in
        ⊎_elim
        (λ l. let x = least_at nodes clock slots p other o (suc i) i (omega arith) l in omega arith)
        (λ l. let c = p.count in let x : (slot_at slots i).stage ≡ 0 = ap (λ (s : Slot). s.stage) (past_slots slots i (omega arith)) in omega arith)
        (cases_lt i (length nodes))
